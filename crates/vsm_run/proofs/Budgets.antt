-- The journal has room for the entries of one request for each mark that is left of all budgets.
use Rattle.std.proofs.Common.{◌≡◌, ◌<◌, ◌≤◌, ◌+◌, ◌*◌, ℕ, None, List, [], length, get_or, slice_set, sym, ap, subst, arith}
use Rattle.std.proofs.lemmas.List.Sums.{sum_by-set, get_or-le-sum_by, sum_by-le}
use Rattle.std.proofs.lemmas.Option.{slice_get-get_or}
use Rattle.vsm_base.specs.declared.places.Limits.{Limits}
use Rattle.vsm_core.specs.Processor.{Vp, standing}
use Rattle.vsm_core.specs.Protection.{owed}
use Rattle.partition.specs.PartView.{PartView}
use Rattle.vsm_run.specs.Rests.{IsInPlace}
use Rattle.vsm_run.specs.Serving.{HasRoom, left_of, all_left}
use Rattle.vsm_run.proofs.Acts.{AllInPlace, found_at}
use Rattle.vsm_run.proofs.Serves.{times-most, times-add}

module _ (limits : Limits) (vps : List Vp) (p : ℕ) (v : Vp) (low : p < length vps) (is : v ≡ get_or vps p v) (all : AllInPlace limits vps) where
  place : IsInPlace limits p v
  place = all p v (found_at vps p v low is)

  budget : v.limits.budget ≡ limits.budget
  budget = ap (λ (l : Limits). l.budget) place.limits_same

  within : left_of v ≤ all_left vps
  within = subst (λ u. left_of u ≤ all_left vps) (sym is) (get_or-le-sum_by left_of vps p v low)

  -- a processor that runs leaves room for the entries of one request
  pub room-for-one : (part : PartView) → HasRoom part vps → v.ended ≡ None → length part.journal.entries + (length part.state.vps + 11) + owed part.state ≤ part.journal.room
  room-for-one part room going =
      let left = place.left going in
      let le = within in
      let one = times-most (length part.state.vps + 11) 1 (all_left vps) (omega arith) in
      omega arith

  -- what its attempt adds fits what it uses of its budget
  pub room-still : (before now : PartView) (n : Vp) → HasRoom before vps → v.ended ≡ None → n.limits ≡ limits → now.journal.room ≡ before.journal.room → length now.state.vps ≡ length before.state.vps
      → length now.journal.entries + owed now.state + (length before.state.vps + 11) * length (standing v) ≤ length before.journal.entries + owed before.state + (length before.state.vps + 11) * length (standing n) → length (standing n) ≤ length (standing v) + 1 → HasRoom now (slice_set vps p n)
  room-still before now n room going same kept many spends marks =
      let left = place.left going in
      let old = budget in
      let new : n.limits.budget ≡ limits.budget = ap (λ (l : Limits). l.budget) same in
      let sums : all_left (slice_set vps p n) + left_of v ≡ all_left vps + left_of n = subst (λ u. all_left (slice_set vps p n) + left_of u ≡ all_left vps + left_of n) (sym is) (sum_by-set left_of vps p n v low) in
      let each : ℕ = length before.state.vps + 11 in
      let all : all_left (slice_set vps p n) + length (standing n) ≤ all_left vps + length (standing v) = omega arith in
      let paid = times-most each (all_left (slice_set vps p n) + length (standing n)) (all_left vps + length (standing v)) all in
      let one = times-add each (all_left (slice_set vps p n)) (length (standing n)) in
      let two = times-add each (all_left vps) (length (standing v)) in
      let e : (length now.state.vps + 11) * all_left (slice_set vps p n) ≡ each * all_left (slice_set vps p n) = ap (λ k. (k + 11) * all_left (slice_set vps p n)) many in
      omega arith

all_left-few : (limits : Limits) (vps : List Vp) → AllInPlace limits vps → all_left vps ≤ length vps * limits.budget
all_left-few limits vps all =
    sum_by-le left_of limits.budget vps (λ k d low.
    let place = all k (get_or vps k d) (slice_get-get_or vps k d low) in
    let same : (get_or vps k d).limits.budget ≡ limits.budget = ap (λ (l : Limits). l.budget) place.limits_same in
    omega arith)

product-enough : (n budget left more : ℕ) → left ≤ n * budget → (n + 11) * left + more ≤ n * budget * (n + 11) + more
product-enough n budget left more le = let few = times-most (n + 11) left (n * budget) le in let turned : (n + 11) * (n * budget) ≡ n * budget * (n + 11) = grind arith in omega arith

pub room-at-first : (limits : Limits) (vps : List Vp) (part : PartView) → AllInPlace limits vps → length vps ≡ limits.vps → length part.state.vps ≡ limits.vps → owed part.state ≤ limits.pages → part.journal.entries ≡ [] → part.journal.room ≡ limits.vps * limits.budget * (limits.vps + 11) + limits.pages → HasRoom part vps
room-at-first limits vps part all many same few none room =
    let left : all_left vps ≤ limits.vps * limits.budget = subst (λ n. all_left vps ≤ n * limits.budget) many (all_left-few limits vps all) in
    let empty : length part.journal.entries ≡ 0 = ap length none in
    let enough = product-enough limits.vps limits.budget (all_left vps) limits.pages left in
    let each : (length part.state.vps + 11) * all_left vps ≡ (limits.vps + 11) * all_left vps = ap (λ n. (n + 11) * all_left vps) same in
    omega arith
