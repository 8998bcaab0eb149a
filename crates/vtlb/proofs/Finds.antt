-- What is done to the places is what is done to the past.
use Rattle.std.proofs.Common.{◌≡◌, ◌≢◌, ℕ, zero, suc, ◌<◌, ◌%◌, ◌==◌, Bool, true, false, if◌then◌else◌, List, [], ◌∷◌, length, get_or, slice_set, Option, Some, None, refl, sym, ap, ◌∙◌, subst, arith, length-set, get_or-set_other, get_or-set_same}
use Rattle.std.proofs.lemmas.Bool.Decides.{nat_tests}
use Rattle.vsm_base.specs.declared.places.Vtl.{Vtl}
use Rattle.vsm_base.specs.declared.places.Vtl.TheVariants.{Zero, One}
use Rattle.vsm_core.specs.Fills.{Fill, Cached, Filled, Dropped, Emptied}
use Rattle.vsm_core.specs.Hits.{hit, standing}
use Rattle.vtlb.specs.declared.slot.Slot.{Slot}
use Rattle.vtlb.specs.declared.slots.Slots.{Slots}
use Rattle.vtlb.specs.Fits.{Fits, FitsAt}
use Rattle.vtlb.specs.Slots.{nones, nones_of, slot_at, put_at, emptied, answer, dropped}
use Rattle.vtlb.specs.Told.{fill_of}

-- places that hold nothing
none-at : (count place : ℕ) → get_or (nones_of count) place None ≡ None
none-at zero place = refl
none-at (suc count) zero = refl
none-at (suc count) (suc place) = none-at count place

nones-long : (count : ℕ) → length (nones_of count) ≡ count
nones-long zero = refl
nones-long (suc count) = ap suc (nones-long count)

nones-fit : (level : Vtl) (past : List Cached) → ((page generation : ℕ) → hit past level page generation ≡ None) → FitsAt level nones past
nones-fit level past missed = record {
  long = nones-long 64;
  finds = λ page generation. ap (λ (o : Option Slot). answer o page generation) (none-at 64 (page % 64)) ∙ sym (missed page generation);
}

-- a place of a list in which one was set
set-by : (b : Bool) (slots : List (Option Slot)) (i j : ℕ) (slot : Option Slot) → i < length slots → (i == j) ≡ b → get_or (slice_set slots i slot) j None ≡ (if b then slot else get_or slots j None)
set-by true slots i j slot low e = let same : i ≡ j = grind (arith, nat_tests) in subst (λ k. get_or (slice_set slots i slot) k None ≡ slot) same (get_or-set_same slots i slot None low)
set-by false slots i j slot low e = let apart : j ≢ i = λ same. grind (arith, nat_tests) in get_or-set_other slots i j slot None apart

-- a translation of another address page isn't hit
missed : (f : Fill) (page generation : ℕ) → (f.at == page) ≡ false → standing f page generation ≡ None
missed f page generation other = rw other refl

drop-by : (s : Slot) (at page generation : ℕ) (own here : Bool) → (s.at == at) ≡ own → (at == page) ≡ here
    → answer (if own then None else Some s) page generation ≡ (if here then None else answer (Some s) page generation)
drop-by s at page generation true true own here = refl
drop-by s at page generation true false own here = sym (missed (fill_of s) page generation (grind (arith, nat_tests)))
drop-by s at page generation false true own here = missed (fill_of s) page generation (grind (arith, nat_tests))
drop-by s at page generation false false own here = refl

either-same : (here : Bool) (o : Option Fill) → o ≡ (if here then o else o)
either-same true o = refl
either-same false o = refl

drop-answers : (slot : Option Slot) (at page generation : ℕ) → answer (dropped slot at) page generation ≡ (if at == page then None else answer slot page generation)
drop-answers None at page generation = either-same (at == page) None
drop-answers (Some s) at page generation = drop-by s at page generation (s.at == at) (at == page) refl refl

-- a level after a drop of an address page
drop-finds-by : (same : Bool) (slots : List (Option Slot)) (at page generation : ℕ) (h : Option Fill) → (at % 64 == page % 64) ≡ same → answer (get_or slots (page % 64) None) page generation ≡ h
    → answer (if same then dropped (get_or slots (at % 64) None) at else get_or slots (page % 64) None) page generation ≡ (if at == page then None else h)
drop-finds-by true slots at page generation h e is =
    let place : at % 64 ≡ page % 64 = grind (arith, nat_tests) in
    drop-answers (get_or slots (at % 64) None) at page generation
    ∙ ap (λ (o : Option Fill). if at == page then None else o) (ap (λ (k : ℕ). answer (get_or slots k None) page generation) place ∙ is)
drop-finds-by false slots at page generation h e is =
    let apart : (at == page) ≡ false = grind (arith, nat_tests) in
    rw apart is

drop-finds : (slots : List (Option Slot)) (at page generation : ℕ) (h : Option Fill) → length slots ≡ 64 → answer (get_or slots (page % 64) None) page generation ≡ h
    → answer (get_or (slice_set slots (at % 64) (dropped (get_or slots (at % 64) None) at)) (page % 64) None) page generation ≡ (if at == page then None else h)
drop-finds slots at page generation h long is =
    let low : at % 64 < length slots = omega (arith, long) in
    ap (λ (o : Option Slot). answer o page generation) (set-by (at % 64 == page % 64) slots (at % 64) (page % 64) (dropped (get_or slots (at % 64) None) at) low refl)
    ∙ drop-finds-by (at % 64 == page % 64) slots at page generation h refl is

-- and after a fill
fill-finds-by : (same : Bool) (slots : List (Option Slot)) (slot : Slot) (f : Fill) (page generation : ℕ) (h : Option Fill) → fill_of slot ≡ f → answer (get_or slots (page % 64) None) page generation ≡ h
    → answer (if same then Some slot else get_or slots (page % 64) None) page generation ≡ (if same then standing f page generation else h)
fill-finds-by true slots slot f page generation h made is = ap (λ (g : Fill). standing g page generation) made
fill-finds-by false slots slot f page generation h made is = is

fill-finds : (slots : List (Option Slot)) (slot : Slot) (f : Fill) (page generation : ℕ) (h : Option Fill) → length slots ≡ 64 → fill_of slot ≡ f → answer (get_or slots (page % 64) None) page generation ≡ h
    → answer (get_or (slice_set slots (f.at % 64) (Some slot)) (page % 64) None) page generation ≡ (if f.at % 64 == page % 64 then standing f page generation else h)
fill-finds slots slot f page generation h long made is =
    let low : f.at % 64 < length slots = omega (arith, long) in
    ap (λ (o : Option Slot). answer o page generation) (set-by (f.at % 64 == page % 64) slots (f.at % 64) (page % 64) (Some slot) low refl)
    ∙ fill-finds-by (f.at % 64 == page % 64) slots slot f page generation h made is

-- both levels
pub fits-new : Fits (record { zero = nones; one = nones }) []
fits-new = record { zero = nones-fit Zero [] (λ page generation. refl); one = nones-fit One [] (λ page generation. refl) }

pub fits-emptied : (s : Slots) (past : List Cached) (level : Vtl) → Fits s past → Fits (emptied s level) (Emptied level ∷ past)
fits-emptied s past Zero h = record {
  zero = nones-fit Zero (Emptied Zero ∷ past) (λ page generation. refl);
  one = record { long = h.one.long; finds = h.one.finds };
}
fits-emptied s past One h = record {
  zero = record { long = h.zero.long; finds = h.zero.finds };
  one = nones-fit One (Emptied One ∷ past) (λ page generation. refl);
}

pub fits-dropped : (s : Slots) (past : List Cached) (level : Vtl) (at : ℕ) → Fits s past → Fits (put_at s level (at % 64) (dropped (slot_at s level (at % 64)) at)) (Dropped level at ∷ past)
fits-dropped s past Zero at h = record {
  zero = record {
    long = length-set s.zero (at % 64) (dropped (slot_at s Zero (at % 64)) at) ∙ h.zero.long;
    finds = λ page generation. drop-finds s.zero at page generation (hit past Zero page generation) h.zero.long (h.zero.finds page generation);
  };
  one = record { long = h.one.long; finds = h.one.finds };
}
fits-dropped s past One at h = record {
  zero = record { long = h.zero.long; finds = h.zero.finds };
  one = record {
    long = length-set s.one (at % 64) (dropped (slot_at s One (at % 64)) at) ∙ h.one.long;
    finds = λ page generation. drop-finds s.one at page generation (hit past One page generation) h.one.long (h.one.finds page generation);
  };
}

pub fits-filled : (s : Slots) (past : List Cached) (level : Vtl) (slot : Slot) (f : Fill) → fill_of slot ≡ f → Fits s past → Fits (put_at s level (f.at % 64) (Some slot)) (Filled level f ∷ past)
fits-filled s past Zero slot f made h = record {
  zero = record {
    long = length-set s.zero (f.at % 64) (Some slot) ∙ h.zero.long;
    finds = λ page generation. fill-finds s.zero slot f page generation (hit past Zero page generation) h.zero.long made (h.zero.finds page generation);
  };
  one = record { long = h.one.long; finds = h.one.finds };
}
fits-filled s past One slot f made h = record {
  zero = record { long = h.zero.long; finds = h.zero.finds };
  one = record {
    long = length-set s.one (f.at % 64) (Some slot) ∙ h.one.long;
    finds = λ page generation. fill-finds s.one slot f page generation (hit past One page generation) h.one.long made (h.one.finds page generation);
  };
}
