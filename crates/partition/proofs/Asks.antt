-- The asks of a slice of pages.
use Rattle.std.proofs.Common.{◌≡◌, ℕ, suc, ◌+◌, ◌<◌, None, List, [], ◌∷◌, ◌++◌, drop, get_or, length, refl}
use Rattle.std.proofs.lemmas.List.{drop_more}
use Rattle.vsm_base.specs.declared.places.Page.{Page}
use Rattle.vsm_core.specs.Protection.{page_refusal, page_refusals}
use Rattle.vsm_core.specs.Reps.{acting, refusing}
use Rattle.flush_round.specs.Steps.{AreWithin}

pub within_push : (count : ℕ) (asks : List (Page × ℕ)) (a : Page × ℕ) → AreWithin count asks → a.0.0 < count → AreWithin count (asks ++ a ∷ [])
within_push count [] a h lt = (lt, tt)
within_push count (b ∷ asks) a h lt = (h.0, within_push count asks a h.1 lt)

-- these elements, of which the first isn't refused, come to what those behind it do, but for one that acts
pub record Passes (count : ℕ) (all rest : List ℕ) : Type 0 where
  pub acted : acting (page_refusals count all) ≡ suc (acting (page_refusals count rest))
  pub refusal : refusing (page_refusals count all) ≡ refusing (page_refusals count rest)

passes-first : (count page : ℕ) (rest : List ℕ) → page_refusal count page ≡ None → Passes count (page ∷ rest) rest
passes-first count page rest e = record { acted = rw e refl; refusal = rw e refl }

pub passes : (count i : ℕ) (pages : List ℕ) → i < length pages → page_refusal count (get_or pages i 0) ≡ None → Passes count (drop i pages) (drop (i + 1) pages)
passes count i pages lt e = rw (drop_more pages i 0 lt) (passes-first count (get_or pages i 0) (drop (i + 1) pages) e)
