-- How far a slice has come: the elements before this one are not refused.
use Rattle.std.proofs.Common.{◌≡◌, ◌∙◌, ℕ, suc, ◌+◌, ◌<◌, Option, Some, None, List, [], ◌∷◌, drop, length, get_or, refl, arith, add-one, drop-cons}
use Rattle.vsm_base.specs.declared.status.HvStatus.{HvStatus}
use Rattle.vsm_core.specs.Reps.{acting, refusing}

pub record IsClear (refusals : List (Option HvStatus)) (i : ℕ) : Type 0 where
  pub done : acting refusals ≡ i + acting (drop i refusals)
  pub rest : refusing refusals ≡ refusing (drop i refusals)

pub clear-none : (refusals : List (Option HvStatus)) → IsClear refusals 0
clear-none refusals = record { done = omega arith; rest = refl }

at_one : (refusals : List (Option HvStatus)) (i : ℕ) (refusal : Option HvStatus) → i < length refusals → get_or refusals i None ≡ refusal → drop i refusals ≡ refusal ∷ drop (suc i) refusals
at_one refusals i refusal below e = rw (← e) (drop-cons refusals i None below)

-- one more isn't refused
pub clear-more : (refusals : List (Option HvStatus)) (i : ℕ) → i < length refusals → get_or refusals i None ≡ None → IsClear refusals i → IsClear refusals (i + 1)
clear-more refusals i below none clear =
    let one = at_one refusals i None below none in
    let more : acting (drop i refusals) ≡ suc (acting (drop (suc i) refusals)) = rw one refl in
    let rest : refusing (drop i refusals) ≡ refusing (drop (suc i) refusals) = rw one refl in
    let whole = clear.done in
    let whole-rest = clear.rest in
    record { done = rw add-one (omega (arith, more, whole)); rest = rw add-one (cc) }

-- the next is refused
pub clear-refused : (refusals : List (Option HvStatus)) (i : ℕ) (status : HvStatus) → i < length refusals → get_or refusals i None ≡ Some status → IsClear refusals i → (acting refusals ≡ i) × (refusing refusals ≡ Some status)
clear-refused refusals i status below some clear =
    let one = at_one refusals i (Some status) below some in
    let none : acting (drop i refusals) ≡ 0 = rw one refl in
    let rest : refusing (drop i refusals) ≡ Some status = rw one refl in
    let whole = clear.done in
    let whole-rest = clear.rest in
    (omega (arith, none, whole), cc)

no-more : (refusals : List (Option HvStatus)) → (acting (drop (length refusals) refusals) ≡ 0) × (refusing (drop (length refusals) refusals) ≡ None)
no-more [] = (refl, refl)
no-more (refusal ∷ refusals) = no-more refusals

-- none is left
pub clear-all : (refusals : List (Option HvStatus)) (i : ℕ) → length refusals ≡ i → IsClear refusals i → (acting refusals ≡ i) × (refusing refusals ≡ None)
clear-all refusals i whole clear =
    let none = no-more refusals in
    let so_far = rw (← whole) at clear.done in
    let rest = rw (← whole) at clear.rest in
    (omega (arith, none.0, so_far, whole), rest ∙ none.1)
