-- An attempt that is under way: it is where its events so far, and the reply that it has had, have led.
use Rattle.std.specs.Prelude.{◌≡◌, ◌≢◌, ◌⊎◌, ℕ, ◌≤◌, Bool, true, false, List, drop, length, map, reverse}
use Rattle.std.specs.Prelude.{Option, Some, None, IfSome}
use Rattle.vsm_base.specs.declared.places.Limits.{Limits}
use Rattle.vsm_core.specs.declared.event.Event.{Event}
use Rattle.vsm_core.specs.declared.mark.Grant.{Grant}
use Rattle.vsm_core.specs.declared.mark.What.TheVariants.{Again}
use Rattle.vsm_core.specs.declared.operation.Op.{Op}
use Rattle.vsm_core.specs.declared.request.Heard.{Heard}
use Rattle.vsm_core.specs.Attempt.{attempt, most_steps}
use Rattle.vsm_core.specs.Outcomes.{Origin, Outcome}
use Rattle.vsm_core.specs.Steps.{learned}
use Rattle.vsm_core.specs.Sound.{Sound, IsOver}
use Rattle.vsm_core.specs.Tree.{Tree, Ends, Asks, Wants, Checking, Counts, followed}
use Rattle.attempt.specs.declared.under.Under.{Under}
use Rattle.attempt.specs.Rests.{StageIs, rest_of}
use Rattle.attempt.specs.Views.{VpView, origin_of}
use Rattle.cpu.specs.declared.log.Log.{Log}

-- the operation of an attempt, if one is under way
abbrev pub op_of : Bool → Under → Option Op
op_of false u = None
op_of true u = Some u.op

-- nothing more is asked of the partition, and no spin is in vain
abbrev pub IsLate : Tree Outcome → Type 0
IsLate (Ends o) = (grant : Grant) → o.what ≢ Again grant
IsLate (Asks s k) = (x : ℕ) → IsLate (k x)
IsLate (Wants q k) = ⊥

-- what is left of the attempt of this operation after these events of its own, and the reply that it has had
abbrev pub led_to : Origin → Op → Option Heard → List Event → Tree Outcome
led_to from op heard own = followed (attempt from op) heard (map learned own)

-- the reply came after events that were its own, and it was the last that the attempt has asked for
pub record IsHeard (tree : Tree Outcome) (own : ℕ) (heard : Heard) : Type 0 where
  pub after : heard.after ≤ own
  pub late : IsLate tree

-- what is left checks the generation before it ends, whatever is answered
abbrev pub IsUnchecked : Tree Outcome → Type 0
IsUnchecked (Ends o) = ⊥
IsUnchecked (Wants q k) = ⊥
IsUnchecked (Asks Checking k) = Unit {0}
IsUnchecked (Asks s k) = (x : ℕ) → IsUnchecked (k x)

-- once the generation is checked, no events stand between those of earlier marks and those of the attempt
abbrev pub IsTidy : (part first : ℕ) → Tree Outcome → Type 0
IsTidy part first tree = (part ≡ first) ⊎ IsUnchecked tree

-- what is left after these events asks only what may be asked, and has few steps
pub record IsFine (limits : Limits) (heard : Option Heard) (own : List Event) (part first : ℕ) (tree : Tree Outcome)
    : Type 0 where
  pub sound : Sound limits IsOver (reverse own) tree
  pub counts : Counts most_steps (length own) tree
  pub hears : IfSome heard (IsHeard tree (length own))
  pub tidy : IsTidy part first tree

-- an attempt that is where these events have led
pub record IsUnderWay (v : VpView) (u : Under) (heard : Option Heard) (own : List Event) (part first : ℕ)
    : Type 0 where
  pub is : StageIs (origin_of v) u
  pub rest : rest_of (origin_of v) u ≡ led_to (origin_of v) u.op heard own
  pub fine : IsFine v.limits heard own part first (rest_of (origin_of v) u)

abbrev pub Way : VpView → Under → Option Heard → Log → Type 0
Way v u heard l = IsUnderWay v u heard (drop l.first l.seen.0) l.part l.first

-- what is under way, if something is
abbrev pub Means : Bool → VpView → Under → Option Heard → Log → Type 0
Means false v u heard l = (l.first ≡ length l.seen.0) × (l.part ≡ l.first) × (heard ≡ None)
Means true v u heard l = Way v u heard l

-- it asks something of the partition
abbrev pub IsWanting : Tree Outcome → Type 0
IsWanting (Ends o) = ⊥
IsWanting (Asks s k) = ⊥
IsWanting (Wants q k) = Unit {0}
