-- A processor's ending is the one that its last state says, and one of the endings is always said.
use Rattle.std.proofs.Common.{◌≡◌, ◌≢◌, ◌⊎◌, inl, inr, eqb, leb, ◌==◌, ◌<◌, ◌≤◌, ℕ, Bool, true, false, cond, unwrap_or, Option, Some, None, List, length, map, slice_get, get_or, refl, sym, ap, ◌∙◌, subst, arith, nat_lt}
use Rattle.std.specs.Prelude.{option_map}
use Rattle.std.proofs.lemmas.Bool.Decides.{nat_tests, leb_tells, eqb_tells}
use Rattle.std.proofs.lemmas.Option.{slice_get-map, slice_get_cases}
use Rattle.vsm_base.specs.declared.places.Limits.{Limits}
use Rattle.vsm_base.specs.declared.places.Vtl.{Vtl}
use Rattle.vsm_base.specs.declared.places.Vtl.TheVariants.{Zero, One}
use Rattle.vsm_core.specs.declared.mark.Ending.{Ending}
use Rattle.vsm_core.specs.declared.mark.Ending.TheVariants as endings
use Rattle.vsm_core.specs.declared.mark.GuestFault.{GuestFault}
use Rattle.vsm_core.specs.declared.mark.Mark.{Mark}
use Rattle.vsm_core.specs.declared.mark.Posted.{Posted}
use Rattle.vsm_core.specs.declared.mark.Posted.TheVariants.{Held}
use Rattle.vsm_core.specs.declared.mark.What.{What}
use Rattle.vsm_core.specs.declared.mark.What.TheVariants.{Denied, Fault, Hit}
use Rattle.vsm_core.specs.declared.operation.Op.{Op}
use Rattle.vsm_core.specs.Processor.{Vp, held_by, length_of, operation_at, operations_of, or_else, ran_out, spin_limit, spun_out, standing, stopped_by}
use Rattle.vsm_core.specs.State.{rip_of}
use Rattle.guest_script.specs.declared.script.Script.{Script}
use Rattle.guest_script.specs.Programs.{program_at}
use Rattle.vsm_report.specs.Acting.{ending_of}
use Rattle.vsm_report.specs.Endings.{LastState, last_state, last_of, IsIntercept, TellsHeld, TellsFault, GoesOn, HasOperation, HasBudget, Says}
use Rattle.vsm_report.specs.FlatRun.{closed, flat}
use Rattle.vsm_report.proofs.LastStates.{Stands, Tested, by_tests, closed-stand, stop_of}
use Rattle.vsm_report.proofs.TellingRuns.{closed-tell}

-- the ending of a mark that stays
held-posted : (posted : Posted) → posted ≡ Held → held_by posted ≡ Some endings.Held
held-posted posted e = ap held_by e

told-held : (what : What) → IsIntercept what → stopped_by what ≡ Some endings.Held
told-held (Denied denial) e = held-posted denial.posted e
told-held (Hit posted) e = held-posted posted e
told-held _ e = absurd e

stop-held : (last : Option Mark) → TellsHeld last → stop_of last ≡ Some endings.Held
stop-held None e = absurd e
stop-held (Some mark) e = told-held mark.what e

stop-fault : (fault : GuestFault) (last : Option Mark) → TellsFault fault last → stop_of last ≡ Some (endings.Fault fault)
stop-fault fault None e = absurd e
stop-fault fault (Some mark) e = ap stopped_by e

-- a mark by which a processor ends, or none
abbrev Stops : Option Mark → Type 0
Stops last = TellsHeld last ⊎ ((fault : GuestFault) × TellsFault fault last)

record Quiet (last : Option Mark) : Type 0 where
  stop : stop_of last ≡ None
  not_held : ¬ TellsHeld last
  no_fault : (fault : GuestFault) → ¬ TellsFault fault last

posted-which : (posted : Posted) → (posted ≡ Held) ⊎ ((held_by posted ≡ None) × (posted ≢ Held))
posted-which Held = inl refl
posted-which _ = inr (refl, λ e. cc)

what-which : (mark : Mark) (what : What) → mark.what ≡ what → Stops (Some mark) ⊎ Quiet (Some mark)
what-which mark (Denied denial) e = by (posted-which denial.posted) where
  by : (denial.posted ≡ Held) ⊎ ((held_by denial.posted ≡ None) × (denial.posted ≢ Held)) → Stops (Some mark) ⊎ Quiet (Some mark)
  by (inl held) = inl (inl (subst IsIntercept (sym e) held))
  by (inr not) = inr (record { stop = ap stopped_by e ∙ not.0; not_held = λ told. not.1 (subst IsIntercept e told); no_fault = λ fault. λ told. let f : Denied denial ≡ Fault fault = sym e ∙ told in cc })
what-which mark (Hit posted) e = by (posted-which posted) where
  by : (posted ≡ Held) ⊎ ((held_by posted ≡ None) × (posted ≢ Held)) → Stops (Some mark) ⊎ Quiet (Some mark)
  by (inl held) = inl (inl (subst IsIntercept (sym e) held))
  by (inr not) = inr (record { stop = ap stopped_by e ∙ not.0; not_held = λ told. not.1 (subst IsIntercept e told); no_fault = λ fault. λ told. let f : Hit posted ≡ Fault fault = sym e ∙ told in cc })
what-which mark (Fault kind) e = inl (inr (kind, e))
what-which mark what e = inr (record { stop = ap stopped_by e; not_held = λ told. absurd (subst IsIntercept e told); no_fault = λ fault. λ told. let f : what ≡ Fault fault = sym e ∙ told in cc })

stop-which : (last : Option Mark) → Stops last ⊎ Quiet last
stop-which None = inr (record { stop = refl; not_held = λ told. told; no_fault = λ fault. λ told. told })
stop-which (Some mark) = what-which mark mark.what refl

goes_on-stop : (l : LastState) → GoesOn l → stop_of (last_of l.marks) ≡ None
goes_on-stop l h = by (stop-which (last_of l.marks)) where
  by : Stops (last_of l.marks) ⊎ Quiet (last_of l.marks) → stop_of (last_of l.marks) ≡ None
  by (inl (inl held)) = absurd (h.not_held held)
  by (inl (inr fault)) = absurd (h.no_fault fault.0 fault.1)
  by (inr quiet) = quiet.stop

-- whether an operation stands at a place
past-end : (ops : List Op) (i : ℕ) → slice_get ops i ≡ None → nat_lt i (length ops) ≡ false
past-end ops i none = by (slice_get_cases ops i).1 where
  by : ((x : Op) × (i < length ops) × (slice_get ops i ≡ Some x) × (get_or ops i x ≡ x)) ⊎ ((length ops ≤ i) × (slice_get ops i ≡ None)) → nat_lt i (length ops) ≡ false
  by (inl found) = let e : Some found.0 ≡ None = sym found.2 ∙ none in cc
  by (inr out) = let far = out.0 in grind (arith, nat_tests)

inside : (ops : List Op) (i : ℕ) → slice_get ops i ≢ None → nat_lt i (length ops) ≡ true
inside ops i some = by (slice_get_cases ops i).1 where
  by : ((x : Op) × (i < length ops) × (slice_get ops i ≡ Some x) × (get_or ops i x ≡ x)) ⊎ ((length ops ≤ i) × (slice_get ops i ≡ None)) → nat_lt i (length ops) ≡ true
  by (inl found) = let low = found.1 in grind (arith, nat_tests)
  by (inr out) = absurd (some out.1)

-- what the tests come to
module _ (l : LastState) where
  abbrev run : Option Ending
  run = ran_out (length (operations_of l.program l.state.active)) l.budget (rip_of l.state) (length l.marks)

  abbrev comes : Option Ending
  comes = by_tests l.marks (length (operations_of l.program l.state.active)) l.budget (rip_of l.state) l.spins

  comes-stop : (ending : Ending) → stop_of (last_of l.marks) ≡ Some ending → comes ≡ Some ending
  comes-stop ending e = ap (λ x. or_else x (or_else run (spun_out l.spins))) e

  comes-on : GoesOn l → comes ≡ or_else run (spun_out l.spins)
  comes-on h = ap (λ x. or_else x (or_else run (spun_out l.spins))) (goes_on-stop l h)

  run-done : operation_at l.program l.state ≡ None → run ≡ Some endings.Done
  run-done e = ap (λ b. cond b (cond (nat_lt (length l.marks) l.budget) None (Some endings.Budget)) (Some endings.Done)) (past-end (operations_of l.program l.state.active) (rip_of l.state) e)

  run-on : operation_at l.program l.state ≢ None → run ≡ cond (nat_lt (length l.marks) l.budget) None (Some endings.Budget)
  run-on e = ap (λ b. cond b (cond (nat_lt (length l.marks) l.budget) None (Some endings.Budget)) (Some endings.Done)) (inside (operations_of l.program l.state.active) (rip_of l.state) e)

  run-budget : HasOperation l → l.budget ≤ length l.marks → run ≡ Some endings.Budget
  run-budget h full =
      let e : nat_lt (length l.marks) l.budget ≡ false = grind (arith, nat_tests) in run-on h.operation ∙ ap (λ b. cond b None (Some endings.Budget)) e

  run-none : HasBudget l → run ≡ None
  run-none h =
      let left = h.left in
      let e : nat_lt (length l.marks) l.budget ≡ true = grind (arith, nat_tests) in run-on h.has_operation.operation ∙ ap (λ b. cond b None (Some endings.Budget)) e

  comes-spins : HasBudget l → comes ≡ spun_out l.spins
  comes-spins h = comes-on h.has_operation.goes_on ∙ ap (λ x. or_else x (spun_out l.spins)) (run-none h)

spun-at : (spins : ℕ) → spins ≡ 20000000 → spun_out spins ≡ Some endings.Spun
unfolding spin_limit
spun-at spins e = ap spun_out e

limit-is : spin_limit ≡ 20000000
unfolding spin_limit
limit-is = refl

spun-before : (spins : ℕ) → spins < 20000000 → spun_out spins ≡ None
spun-before spins few =
    let limit = limit-is in let e : spins == spin_limit ≡ false = grind (arith, nat_tests) in ap (λ b. cond b (Some endings.Spun) None) e

-- the ending that is said is the one that the tests come to
said-comes : (l : LastState) (ended : Option Ending) (ending : Ending) → (l.started ≡ true → ended ≡ comes l) → Says l ending → cond l.started (unwrap_or ended endings.Cut) endings.Unstarted ≡ ending
said-comes l ended ending tests says = which ending says where
  started : (e : Option Ending) → l.started ≡ true → comes l ≡ e → cond l.started (unwrap_or ended endings.Cut) endings.Unstarted ≡ unwrap_or e endings.Cut
  started e on is = ap (λ b. cond b (unwrap_or ended endings.Cut) endings.Unstarted) on ∙ ap (λ x. unwrap_or x endings.Cut) (tests on ∙ is)

  which : (ending : Ending) → Says l ending → cond l.started (unwrap_or ended endings.Cut) endings.Unstarted ≡ ending
  which endings.Unstarted off = ap (λ b. cond b (unwrap_or ended endings.Cut) endings.Unstarted) off
  which endings.Held h = started (Some endings.Held) h.0 (comes-stop l endings.Held (stop-held (last_of l.marks) h.1))
  which (endings.Fault fault) h = started (Some (endings.Fault fault)) h.0 (comes-stop l (endings.Fault fault) (stop-fault fault (last_of l.marks) h.1))
  which endings.Done h = started (Some endings.Done) h.0.started (comes-on l h.0 ∙ ap (λ x. or_else x (spun_out l.spins)) (run-done l h.1))
  which endings.Budget h = started (Some endings.Budget) h.0.goes_on.started (comes-on l h.0.goes_on ∙ ap (λ x. or_else x (spun_out l.spins)) (run-budget l h.0 h.1))
  which endings.Spun h = started (Some endings.Spun) h.0.has_operation.goes_on.started (comes-spins l h.0 ∙ spun-at l.spins h.1)
  which endings.Cut h = started None h.0.has_operation.goes_on.started (comes-spins l h.0 ∙ spun-before l.spins h.1)

-- one ending is said
abbrev Said : LastState → Type 0
Said l = (ending : Ending) × Says l ending

module _ (l : LastState) (most : l.started ≡ true → l.spins ≤ 20000000) where
  by-spins : HasBudget l → ((eqb l.spins 20000000 ≡ true) × (l.spins ≡ 20000000)) ⊎ ((eqb l.spins 20000000 ≡ false) × (l.spins ≢ 20000000)) → Said l
  by-spins h (inl spun) = (endings.Spun, (h, spun.1))
  by-spins h (inr other) = let few = most h.has_operation.goes_on.started in let apart = other.1 in (endings.Cut, (h, omega (arith, few, apart)))

  by-budget : HasOperation l → ((leb l.budget (length l.marks) ≡ true) × (l.budget ≤ length l.marks)) ⊎ ((leb l.budget (length l.marks) ≡ false) × (length l.marks < l.budget)) → Said l
  by-budget h (inl full) = (endings.Budget, (h, full.1))
  by-budget h (inr left) = by-spins (record { has_operation = h; left = left.1 }) (eqb_tells l.spins 20000000)

  by-operation : GoesOn l → (op : Option Op) → operation_at l.program l.state ≡ op → Said l
  by-operation h None e = (endings.Done, (h, e))
  by-operation h (Some op) e = by-budget (record { goes_on = h; operation = λ none. let f : Some op ≡ None = sym e ∙ none in cc }) (leb_tells l.budget (length l.marks))

  by-last : l.started ≡ true → Stops (last_of l.marks) ⊎ Quiet (last_of l.marks) → Said l
  by-last on (inl (inl held)) = (endings.Held, (on, held))
  by-last on (inl (inr fault)) = (endings.Fault fault.0, (on, fault.1))
  by-last on (inr quiet) = by-operation (record { started = on; not_held = quiet.not_held; no_fault = quiet.no_fault }) (operation_at l.program l.state) refl

  by-start : (b : Bool) → l.started ≡ b → Said l
  by-start true on = by-last on (stop-which (last_of l.marks))
  by-start false off = (endings.Unstarted, off)

-- of a processor of a run
long-same : (s : Script) (p : ℕ) (v : Vp) (level : Vtl) → Stands s p v → length_of v level ≡ length (operations_of (program_at s.programs p) level)
long-same s p v Zero h = h.same.zero_length
long-same s p v One h = h.same.one_length

module _ (s : Script) (p : ℕ) (v : Vp) (at : slice_get (closed s).vps p ≡ Some v) where
  ended-comes : v.started ≡ true → v.ended ≡ comes (last_state s p v)
  unfolding flat
  ended-comes on =
      let h = closed-stand s p v at in
      let program = program_at s.programs p in
      (h.on on).ended
      ∙ ap (λ ms. by_tests ms (length_of v v.state.active) v.limits.budget (rip_of v.state) v.spins) ((closed-tell s).each p v at).stood
      ∙ ap (λ n. by_tests (last_state s p v).marks n v.limits.budget (rip_of v.state) v.spins) (long-same s p v v.state.active h)
      ∙ ap (λ n. by_tests (last_state s p v).marks (length (operations_of program v.state.active)) n (rip_of v.state) v.spins) (ap (λ (limits : Limits). limits.budget) h.same.limits)

  pub said-ended : (ending : Ending) → Says (last_state s p v) ending → ending_of v ≡ ending
  said-ended ending says = said-comes (last_state s p v) v.ended ending ended-comes says

  one-said : Said (last_state s p v)
  one-said = by-start (last_state s p v) (λ on. subst (λ n. v.spins ≤ n) limit-is ((closed-stand s p v at).on on).most) v.started refl

  pub ended-said : Says (last_state s p v) (ending_of v)
  ended-said = subst (Says (last_state s p v)) (sym (said-ended one-said.0 one-said.1)) one-said.1

ends-at : (s : Script) (p : ℕ) → slice_get (flat s).ends p ≡ option_map ending_of (slice_get (closed s).vps p)
unfolding flat
ends-at s p = slice_get-map ending_of (closed s).vps p

pub end-of : (s : Script) (p : ℕ) (v : Vp) → slice_get (closed s).vps p ≡ Some v → slice_get (flat s).ends p ≡ Some (ending_of v)
end-of s p v at = ends-at s p ∙ ap (option_map ending_of) at

-- the clauses of the law
pub says-end : (s : Script) (p : ℕ) (v : Vp) (ending : Ending) → slice_get (closed s).vps p ≡ Some v → slice_get (flat s).ends p ≡ Some ending → Says (last_state s p v) ending
says-end s p v ending at end =
    let e : Some (ending_of v) ≡ Some ending = sym (end-of s p v at) ∙ end in
    let same : ending_of v ≡ ending = cc in subst (Says (last_state s p v)) same (ended-said s p v at)

pub end-said : (s : Script) (p : ℕ) (v : Vp) (ending : Ending) → slice_get (closed s).vps p ≡ Some v → Says (last_state s p v) ending → slice_get (flat s).ends p ≡ Some ending
end-said s p v ending at says = end-of s p v at ∙ ap (λ e. Some e) (said-ended s p v at ending says)
