-- What a schedule of whole attempts does: in the order of its entries, each processor acts so many times.
use Rattle.std.specs.Prelude.{ℕ, zero, suc, List, fold}
use Rattle.guest_script.specs.declared.script.Turns.{Turns}

-- one processor acts so many times
unfoldable pub after_turns : {W : Type 0} → (W → W) → ℕ → W → W
after_turns act zero w = w
after_turns act (suc count) w = after_turns act count (act w)

module _ {W : Type 0} (act : ℕ → W → W) where
  -- the processor of the entry acts
  abbrev pub after_entry : W → Turns → W
  after_entry w turns = after_turns (act turns.vp.0) turns.count w

  -- the entries of a schedule line
  unfoldable pub after_line : W → List Turns → W
  after_line w entries = fold after_entry w entries

  -- the lines of a schedule
  unfoldable pub after_schedule : W → List (List Turns) → W
  after_schedule w lines = fold after_line w lines
