-- What one turn of a processor is.
use Rattle.std.specs.Prelude.{◌≡◌, ◌≢◌, ◌≤◌, ℕ, ◌==◌, Bool, true, false, if◌then◌else◌, Option, Some, None, IfSome}
use Rattle.std.specs.Prelude.{List, [], drop, length, reverse}
use Rattle.vsm_core.specs.declared.event.Event.{Event}
use Rattle.vsm_core.specs.declared.event.Phase.{Phase}
use Rattle.vsm_core.specs.declared.event.Phase.TheVariants as phases
use Rattle.vsm_core.specs.declared.mark.Ending.{Ending}
use Rattle.vsm_core.specs.declared.mark.What.{What}
use Rattle.vsm_core.specs.declared.mark.What.TheVariants as whats
use Rattle.vsm_core.specs.declared.operation.Op.{Op}
use Rattle.vsm_core.specs.declared.operation.Program.{Program}
use Rattle.vsm_core.specs.Outcomes.{Outcome}
use Rattle.vsm_core.specs.declared.request.Reply.{Reply}
use Rattle.vsm_core.specs.declared.request.Request.{Request}
use Rattle.vsm_core.specs.Processor.{Vp, operation_at, saw, settled, asking, answered, rest_of, start_rest}
use Rattle.vsm_core.specs.Protection.{IsSlice}
use Rattle.vsm_core.specs.Seat.{Seat, Makes}
use Rattle.vsm_core.specs.Steps.{made, phase_of}
use Rattle.vsm_core.specs.Tree.{Tree, Ends, Asks, Wants}
use Rattle.cpu.specs.declared.cpu_turn.CpuTurn.{CpuTurn}
use Rattle.cpu.specs.declared.cpu_turn.CpuTurn.TheVariants.{Moved, Idle, Attempt, Again, Ended}
use Rattle.cpu.specs.declared.cpu_turn.CpuTurn.TheVariants as turns
use Rattle.cpu.specs.declared.cpu_turn.Pace.{Pace}
use Rattle.cpu.specs.declared.cpu_turn.Pace.TheVariants as paces

-- where a processor is in its access whose attempt's events are those seen from `first` on
abbrev pub phase_at : List Event → ℕ → Phase
phase_at seen first = phase_of (reverse (drop first seen))

-- a port that a processor may be lent: its own, in the phase of the attempt under way
pub record VpServes (v : Vp) (seat : Seat) : Type 0 where
  pub phase : seat.phase ≡ phase_at v.seen v.first
  pub limits : seat.limits ≡ v.limits
  pub vp : seat.vp ≡ v.number

-- what a turn answers by which an attempt came to this, and this ending now holds
abbrev pub after_mark : What → Option Ending → CpuTurn
after_mark what (Some ending) = Ended ending
after_mark (whats.Again grant) None = Again
after_mark what None = Attempt

-- what a turn answers that has led to this place of an attempt, with this ending
abbrev pub answer_at : Tree Outcome → Option Ending → CpuTurn
answer_at (Ends o) ended = after_mark o.what ended
answer_at (Asks s k) ended = Moved
answer_at (Wants q k) ended = Moved

-- whether a turn came to a request
abbrev pub asks_by : Pace → Bool
asks_by paces.Wants = true
asks_by _ = false

-- the request that comes next of an attempt, and the one that a processor waits for the reply to
abbrev pub request_at : Tree Outcome → Option Request
request_at (Wants q k) = Some q
request_at _ = None

abbrev pub asked_next : Vp → Option Request
asked_next v = request_at (if v.started then rest_of v v.op else start_rest v)

-- the turn that came to this and asks this
abbrev pub turn_of : Pace → Option Request → CpuTurn
turn_of paces.Moved asked = Moved
turn_of paces.Idle asked = Idle
turn_of paces.Attempt asked = Attempt
turn_of paces.Again asked = Again
turn_of paces.Wants (Some q) = turns.Wants q
turn_of paces.Wants None = Moved
turn_of (paces.Ended ending) asked = Ended ending

-- a turn where this is left of the attempt of this operation: its end with no step, its next step and no other, or its
-- request, which is handed out with no step
abbrev pub TurnsBy : Tree Outcome → Option Op → Vp → Seat → Vp → Seat → CpuTurn → Type 0
TurnsBy (Ends o) op old before new after turn =
    (after ≡ before) × (new ≡ settled (Ends o) old) × (turn ≡ after_mark o.what new.ended)
TurnsBy (Asks s k) op old before new after turn =
    (x : ℕ) × Makes before s x after × (new ≡ settled (k x) (saw op old (made s x)))
    × (turn ≡ answer_at (k x) new.ended)
TurnsBy (Wants q k) op old before new after turn = (after ≡ before) × (new ≡ asking op old) × (turn ≡ turns.Wants q)

-- a reply to the request of an attempt where this is left of it: the attempt goes on by the reply, or comes to its end
-- by it, with no step
abbrev pub AcceptsBy : Tree Outcome → Reply → Vp → Vp → CpuTurn → Type 0
AcceptsBy (Wants q k) reply old new turn =
    (new ≡ settled (k reply) (answered reply old)) × (turn ≡ answer_at (k reply) new.ended)
AcceptsBy _ reply old new turn = ⊥

-- a processor waits for a reply exactly where its turn handed out a request
abbrev pub OwesBy : CpuTurn → Bool → Type 0
OwesBy (turns.Wants q) owes = owes ≡ true
OwesBy _ owes = owes ≡ false

-- a slice of a call that is handed out is one
abbrev pub HandsSlice : CpuTurn → Type 0
HandsSlice (turns.Wants q) = IsSlice q.call
HandsSlice _ = Unit {0}

-- what a look at the start word comes to: where it was 0 nothing changes, and else the start goes on
abbrev pub LooksTo : Bool → Tree Outcome → Event → Vp → Vp → CpuTurn → Type 0
LooksTo true rest e old new turn = (new ≡ old) × (turn ≡ Idle)
LooksTo false rest e old new turn = (new ≡ settled rest (saw None old e)) × (turn ≡ answer_at rest new.ended)

-- a turn where this is left of a start: the look at the start word, or else as a turn of an attempt
abbrev pub WakesBy : Tree Outcome → Vp → Seat → Vp → Seat → CpuTurn → Type 0
WakesBy (Asks s k) old before new after turn =
    (x : ℕ) × Makes before s x after × LooksTo (x == 0) (k x) (made s x) old new turn
WakesBy rest old before new after turn = TurnsBy rest None old before new after turn

-- a turn of a processor that hasn't started
abbrev pub Wakes : Vp → Seat → Vp → Seat → CpuTurn → Type 0
Wakes old before new after turn = WakesBy (start_rest old) old before new after turn

-- a processor that hasn't started has left no mark, and has seen no event but that of its start word
pub record IsWaiting (v : Vp) : Type 0 where
  pub op : v.op ≡ None
  pub marks : v.marks ≡ []
  pub part : v.part ≡ 0
  pub first : v.first ≡ 0
  pub again : v.again ≡ false
  pub heard : v.heard ≡ None
  pub ended : v.ended ≡ None
  pub few : length v.seen ≤ 1
  pub phase : phase_at v.seen v.first ≡ phases.Idle

-- an operation that is kept is the one that was, and the state is as it was
abbrev pub Keeps : Vp → Vp → Type 0
Keeps old new = IfSome new.op (λ op. (old.op ≡ Some op) × (new.state ≡ old.state))

-- a processor that has started, has no ending and waits for no reply
pub record IsGoing (v : Vp) : Type 0 where
  pub started : v.started ≡ true
  pub going : v.ended ≡ None
  pub answered : v.owes ≡ false

-- and is in an attempt, before whose end no mark stands that goes
pub record IsActing (v : Vp) : Type 0 where
  pub is : IsGoing v
  pub fresh : v.again ≡ false
  pub under : v.op ≢ None

-- the programs that a processor was made with. Where it keeps on with an operation, they have it where it stands
pub record Fits (program : Program) (v : Vp) : Type 0 where
  pub zero : length program.zero ≡ v.zero_length
  pub one : length program.one ≡ v.one_length
  pub kept : IfSome v.op (λ op. operation_at program v.state ≡ Some op)
