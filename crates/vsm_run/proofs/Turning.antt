-- Turns one by one.
use Rattle.std.proofs.Common.{◌≡◌, ℕ, ◌+◌, refl, ap, add-one}
use Rattle.vsm_report.specs.Schedule.{after_turns}

module _ {W : Type 0} (act : W → W) where
  pub after_turns-add-one : (k : ℕ) (w : W) → after_turns act (k + 1) w ≡ after_turns act k (act w)
  unfolding after_turns
  after_turns-add-one k w = ap (λ j. after_turns act j w) (add-one k)

  pub after_turns-zero : (w : W) → after_turns act 0 w ≡ w
  unfolding after_turns
  after_turns-zero w = refl
