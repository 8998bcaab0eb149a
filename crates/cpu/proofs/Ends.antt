-- What the end of an attempt can be: never a start, and a spin's that found another value in one way alone.
use Rattle.std.proofs.Common.{◌≡◌, ◌≢◌, ℕ, ◌==◌, Bool, true, false, cond, Option, Some, None, List, [], ◌∷◌}
use Rattle.std.proofs.Common.{refl, ap, take, drop}
use Rattle.vsm_base.specs.declared.places.Access.TheVariants.{Read}
use Rattle.vsm_core.specs.declared.mark.Grant.{Grant}
use Rattle.vsm_core.specs.declared.mark.GuestFault.{GuestFault}
use Rattle.vsm_core.specs.declared.mark.What.{What}
use Rattle.vsm_core.specs.declared.mark.What.TheVariants as whats
use Rattle.vsm_core.specs.declared.operation.Op.{Op}
use Rattle.vsm_core.specs.declared.operation.Op.TheVariants.{Set, Get, Spin}
use Rattle.vsm_core.specs.declared.request.Heard.{Heard}
use Rattle.vsm_core.specs.Access.{Goal, start_fault}
use Rattle.vsm_core.specs.Attempt.{attempt, begun, goal_of}
use Rattle.vsm_core.specs.Fills.{Cached}
use Rattle.vsm_core.specs.Outcomes.{Origin, Outcome, outcome_at, faulted, spun, fills}
use Rattle.vsm_core.specs.Processor.{Vp, came_to, marked}
use Rattle.vsm_core.specs.RegisterCalls.{slice_outcome}
use Rattle.vsm_core.specs.Reps.{RepEnd, Refused, GoesOn, Complete}
use Rattle.vsm_core.specs.State.{State, gone_on}
use Rattle.vsm_core.specs.Tree.{Ends, followed, follow}
use Rattle.attempt.specs.declared.stage.Decided.{Decided}
use Rattle.attempt.specs.declared.stage.Decided.TheVariants as by
use Rattle.attempt.specs.declared.under.Under.{Under}
use Rattle.attempt.specs.Paths.{fill_of, grant_of}
use Rattle.attempt.specs.Results.{access_outcome, again_by, outcome_of, result_of}
use Rattle.cpu.specs.UnderWay.{IsUnchecked}

abbrev IsPlain : What → Type 0
IsPlain whats.Started = ⊥
IsPlain (whats.Again grant) = ⊥
IsPlain _ = Unit {0}

-- neither a start nor a spin in vain: a mark that stays as any other
pub record Stays (what : What) : Type 0 where
  pub is : IsPlain what

either : (b : Bool) (o p : Outcome) → IsPlain o.what → IsPlain p.what → Stays (cond b o p).what
either true o p h g = record { is = h }
either false o p h g = record { is = g }

spin-stays : (b : Bool) (x y : What × State) (g : Grant) → cond b None (Some g) ≡ None → IsPlain x.0
    → Stays (cond b x y).0
spin-stays true x y g e h = record { is = h }
spin-stays false x y g e h = cc

slice-stays : (from : Origin) (state : State) (does : List Cached) (end : RepEnd)
    → Stays (slice_outcome from state does end).what
slice-stays from state does (Refused status done) = record { is = tt }
slice-stays from state does (GoesOn next) = record { is = tt }
slice-stays from state does (Complete done) = record { is = tt }

outcome-stays : (from : Origin) (u : Under) (decided : Decided) (op : Op) → again_by u op decided ≡ None
    → Stays (outcome_of from (record u { op = op }) decided).what
outcome-stays from u (by.Granted value) (Spin gva wanted) e =
    let grant = grant_of u.path.fill value in
    spin-stays (value == wanted) (whats.Granted grant, gone_on from.state) (whats.Again grant, from.state) grant e tt
outcome-stays from u by.Local (Set name value) e = search either
outcome-stays from u by.Local (Get name) e = search either
outcome-stays from u (by.Hit slot) op e = search either
outcome-stays from u by.Called op e = search either
outcome-stays from u (by.Returned pair) op e = search either
outcome-stays from u (by.Denied slot) op e = search either
outcome-stays from u by.Polled op e = search either
outcome-stays from u (by.Set target) op e = search slice-stays
outcome-stays from u (by.Eom slot) op e = search either
outcome-stays from u _ _ e = record { is = tt }

-- an attempt that was no spin in vain leaves a mark that stays
pub result-stays : (from : Origin) (u : Under) → again_by u u.op u.decided ≡ None → Stays (result_of from u).what
result-stays from u e = outcome-stays from u u.decided u.op e

spin-again : (b : Bool) (x : What × State) (state : State) (found grant : Grant) → cond b None (Some found) ≡ Some grant
    → cond b x (whats.Again found, state) ≡ (whats.Again grant, state)
spin-again true x state found grant e = cc
spin-again false x state found grant e = cc

-- what a spin in vain comes to
abbrev pub vain_outcome : Origin → Under → Grant → Outcome
vain_outcome from u grant =
    outcome_at from (whats.Again grant) from.state (fills from.state.active (Some (fill_of u.path.fill)))

outcome-again : (from : Origin) (u : Under) (op : Op) (decided : Decided) (grant : Grant)
    → again_by u op decided ≡ Some grant → outcome_of from (record u { op = op }) decided ≡ vain_outcome from u grant
outcome-again from u (Spin gva wanted) (by.Granted value) grant e =
    let found = grant_of u.path.fill value in
    ap (access_outcome from u) (spin-again (value == wanted) (
      whats.Granted found,
      gone_on from.state,
    ) from.state found grant e)
outcome-again from u (Spin gva wanted) _ grant e = cc
outcome-again from u _ _ grant e = cc

pub result-again : (from : Origin) (u : Under) (grant : Grant) → again_by u u.op u.decided ≡ Some grant
    → result_of from u ≡ vain_outcome from u grant
result-again from u grant e = outcome-again from u u.op u.decided grant e

follow-Ends : {A : Type 0} (a : A) (xs : List ℕ) → follow (Ends a) xs ≡ Ends a
follow-Ends a [] = refl
follow-Ends a (x ∷ xs) = follow-Ends a xs

followed-Ends : {A : Type 0} (a : A) (heard : Option Heard) (xs : List ℕ) → followed (Ends a) heard xs ≡ Ends a
followed-Ends a None xs = follow-Ends a xs
followed-Ends a (Some h) xs = rw (follow-Ends a (take h.after xs)) (follow-Ends a (drop h.after xs))

-- no access with a first step ends at once, and one without is a fault
begun-anew : (from : Origin) (u : Under) (granted : Grant → What × State) (goal : Goal) (fault : Option GuestFault)
    (heard : Option Heard) (xs : List ℕ) (grant : Grant)
    → followed (begun from granted goal fault) heard xs ≡ Ends (vain_outcome from u grant)
    → IsUnchecked (begun from granted goal fault)
begun-anew from u granted goal None heard xs grant ends = λ x. tt
begun-anew from u granted goal (Some fault) heard xs grant ends =
    let e : Ends (faulted from fault) ≡ Ends (vain_outcome from u grant) =
    rw (followed-Ends (faulted from fault) heard xs) at ends in
    let same : faulted from fault ≡ vain_outcome from u grant = cc in
    let no : whats.Fault fault ≡ whats.Again grant = ap (λ (o : Outcome). o.what) same in cc

-- a spin in vain begins anew by a check
pub spin-anew : (from : Origin) (u : Under) (op : Op) (decided : Decided) (heard : Option Heard) (xs : List ℕ)
    (grant : Grant) → again_by u op decided ≡ Some grant
    → followed (attempt from op) heard xs ≡ Ends (vain_outcome from u grant) → IsUnchecked (attempt from op)
spin-anew from u (Spin gva wanted) decided heard xs grant e ends =
    let goal : Goal = goal_of from.pages from.state Read true gva.0 0 in
    begun-anew from u (spun from.state wanted) goal (start_fault goal) heard xs grant ends
spin-anew from u _ decided heard xs grant e ends = cc

pub came-marked : (what : What) (v : Vp) (o : Outcome) → Stays what → came_to what v o ≡ marked v o
came-marked (whats.Again grant) v o stays = absurd stays.is
came-marked whats.Started v o stays = absurd stays.is
came-marked _ v o stays = refl

-- an attempt that ends at once is no spin in vain
pub at-once : (from : Origin) (u : Under) (found : Option Grant) (grant : Grant) → again_by u u.op u.decided ≡ found
    → attempt from u.op ≡ Ends (result_of from u) → (result_of from u).what ≢ whats.Again grant
at-once from u None grant e ends = λ again. absurd (rw again at (result-stays from u e)).is
at-once from u (Some found) grant e ends = λ again.
    absurd (rw ends at (spin-anew from u u.op u.decided None [] found e (rw (result-again from u found e) at ends)))
