-- A processor: its registers, its marks, its events and its ending.
use Rattle.std.specs.Prelude.{◌≡◌, ℕ, ◌+◌, ◌-◌, ◌≤◌, ◌==◌, Bool, true, false, if◌then◌else◌, nat_lt, List, [], ◌∷◌, ◌++◌, map, take, drop, length, Option, Some, None, slice_get}
use Rattle.vsm_base.specs.declared.places.Limits.{Limits}
use Rattle.vsm_base.specs.declared.places.Vtl.{Vtl}
use Rattle.vsm_base.specs.declared.places.Vtl.TheVariants.{Zero, One}
use Rattle.vsm_core.specs.declared.event.Event.{Event}
use Rattle.vsm_core.specs.declared.event.Event.TheVariants as events
use Rattle.vsm_core.specs.declared.event.PendingWord.TheVariants.{Start}
use Rattle.vsm_core.specs.declared.mark.What.{What}
use Rattle.vsm_core.specs.declared.mark.What.TheVariants.{Again, Denied, Fault, Hit, Started}
use Rattle.vsm_core.specs.declared.mark.Posted.{Posted}
use Rattle.vsm_core.specs.declared.mark.Posted.TheVariants.{Held}
use Rattle.vsm_core.specs.declared.mark.GuestFault.TheVariants.{Undefined}
use Rattle.vsm_core.specs.declared.mark.Mark.{Mark}
use Rattle.vsm_core.specs.declared.mark.Ending.{Ending}
use Rattle.vsm_core.specs.declared.mark.Ending.TheVariants as endings
use Rattle.vsm_core.specs.declared.operation.Op.{Op}
use Rattle.vsm_core.specs.declared.operation.Program.{Program}
use Rattle.vsm_core.specs.declared.journal.Entry.{Entry}
use Rattle.vsm_core.specs.declared.partition_state.PartitionState.{PartitionState}
use Rattle.vsm_core.specs.declared.request.Heard.{Heard}
use Rattle.vsm_core.specs.declared.request.Reply.{Reply}
use Rattle.vsm_core.specs.declared.request.Request.{Request}
use Rattle.vsm_core.specs.Served.{answer, after, block}
use Rattle.vsm_core.specs.State.{State, rip_of, opening_state}
use Rattle.vsm_core.specs.Starts.{start_tree}
use Rattle.vsm_core.specs.Steps.{learned, made}
use Rattle.vsm_core.specs.Tree.{Tree, Ends, Asks, Wants, WordStep, Taking, followed}
use Rattle.vsm_core.specs.Attempt.{attempt, most_steps_of}
use Rattle.vsm_core.specs.Controllers.{Controllers, opening_controllers}
use Rattle.vsm_core.specs.Outcomes.{Origin, Outcome, faulted, origin_in}
use Rattle.vsm_core.specs.Whole.{Flat, answer_in, flat_after, with_entries}

-- a processor: what it was made with, its state, what its interrupt controllers hold, the operation that it keeps on with, what it has left, and its ending.
-- The events of the attempt under way are those seen from `first` on. The events from `part` to `first` are of a spin's
-- last attempt that found another value. Its mark is the last one as long as `again` holds. While it `owes`, it waits for
-- the reply to the request of its attempt; that reply is kept while the attempt goes on
pub record Vp : Type 0 where
  pub number : ℕ
  pub limits : Limits
  pub zero_length : ℕ
  pub one_length : ℕ
  pub started : Bool
  pub state : State
  pub controllers : Controllers
  pub op : Option Op
  pub marks : List Mark
  pub seen : List Event
  pub part : ℕ
  pub first : ℕ
  pub again : Bool
  pub spins : ℕ
  pub owes : Bool
  pub heard : Option Heard
  pub ended : Option Ending

-- how many reads of spins may find another value
unfoldable pub spin_limit : ℕ
spin_limit = 20000000

abbrev pub held_by : Posted → Option Ending
held_by Held = Some endings.Held
held_by _ = None

-- the ending that an outcome is by itself: an intercept without level 1 or a guest fault
abbrev pub stopped_by : What → Option Ending
stopped_by (Denied denial) = held_by denial.posted
stopped_by (Hit posted) = held_by posted
stopped_by (Fault fault) = Some (endings.Fault fault)
stopped_by _ = None

-- the end of the program, or else of the budget
abbrev pub ran_out : ℕ → ℕ → ℕ → ℕ → Option Ending
ran_out length_of_program budget rip marks =
    if nat_lt rip length_of_program then (if nat_lt marks budget then None else Some endings.Budget) else Some endings.Done

abbrev pub spun_out : ℕ → Option Ending
spun_out spins = if spins == spin_limit then Some endings.Spun else None

abbrev pub or_else : Option Ending → Option Ending → Option Ending
or_else (Some ending) other = Some ending
or_else None other = other

-- the lengths and the operations of a level's program
abbrev pub length_of : Vp → Vtl → ℕ
length_of v Zero = v.zero_length
length_of v One = v.one_length

abbrev pub operations_of : Program → Vtl → List Op
operations_of program Zero = program.zero
operations_of program One = program.one

-- the operation where the active level's program stands
abbrev pub operation_at : Program → State → Option Op
operation_at program state = slice_get (operations_of program state.active) (rip_of state)

-- the ending that holds after a mark, in the order in which endings are tried: with so many marks that count for the
-- budget, and so many reads of spins that found another value
abbrev pub ending_after : Vp → What → State → ℕ → ℕ → Option Ending
ending_after v what state marks spins =
    or_else (stopped_by what) (or_else (ran_out (length_of v state.active) v.limits.budget (rip_of state) marks) (spun_out spins))

-- a processor before its first attempt; one that has not started has no ending
abbrev pub opening : ℕ → Limits → Bool → ℕ → ℕ → Vp
opening number limits started zero_length one_length = record {
  number = number;
  limits = limits;
  zero_length = zero_length;
  one_length = one_length;
  started = started;
  state = opening_state;
  controllers = opening_controllers;
  op = None;
  marks = [];
  seen = [];
  part = 0;
  first = 0;
  again = false;
  spins = 0;
  owes = false;
  heard = None;
  ended = if started then ran_out zero_length limits.budget 0 0 else None;
}

-- the marks that stay: not that of a spin that found another value
abbrev pub standing : Vp → List Mark
standing v = if v.again then take (length v.marks - 1) v.marks else v.marks

-- at the check of an attempt that walks, the events of the spin's last attempt go
abbrev pub forgetting : Vp → Event → Vp
forgetting v (events.Check generation) = record v { seen = take v.part v.seen ++ drop v.first v.seen; first = v.part }
forgetting v _ = v

-- the processor with an event more
abbrev pub with_event : Vp → Event → Vp
with_event v e = record v { seen = v.seen ++ e ∷ [] }

-- the processor after an event of the attempt of this operation
abbrev pub saw : Option Op → Vp → Event → Vp
saw op v e = with_event (forgetting (record v { op = op; marks = standing v; again = false }) e) e

-- the mark of the attempt under way
abbrev pub mark_of : Vp → What → Mark
mark_of v what = record { level = v.state.active; rip = rip_of v.state; what = what; first = v.part; count = length v.seen - v.part }

-- the processor after an attempt that came to this, where its mark stays
abbrev pub marked : Vp → Outcome → Vp
marked v o = record v {
  state = o.state;
  controllers = o.controllers;
  op = None;
  marks = standing v ++ mark_of v o.what ∷ [];
  part = length v.seen;
  first = length v.seen;
  again = false;
  heard = None;
  ended = ending_after v o.what o.state (length (standing v) + 1) v.spins;
}

-- the processor after its start, whose mark is where its program then stands
abbrev pub start_mark : Vp → Outcome → Mark
start_mark v o = record { level = o.state.active; rip = rip_of o.state; what = o.what; first = v.part; count = length v.seen - v.part }

abbrev pub begun : Vp → Outcome → Vp
begun v o = record (marked v o) { started = true; marks = standing v ++ start_mark v o ∷ [] }

-- the processor after a spin that found another value, and by which it has not ended: the mark stands until the next turn
abbrev pub marked_again : Vp → Outcome → Vp
marked_again v o = record v {
  marks = standing v ++ mark_of v o.what ∷ [];
  first = length v.seen;
  again = true;
  spins = v.spins + 1;
}

-- the processor after a spin that found another value once too often: nothing of the spin stays
abbrev pub ended_spinning : Vp → Ending → Vp
ended_spinning v ending = record v {
  op = None;
  marks = standing v;
  seen = take v.part v.seen;
  first = v.part;
  again = false;
  spins = v.spins + 1;
  ended = Some ending;
}

abbrev pub marked_or_ended : Vp → Outcome → Option Ending → Vp
marked_or_ended v o None = marked_again v o
marked_or_ended v o (Some ending) = ended_spinning v ending

-- the processor after an attempt that came to this
abbrev pub came_to : What → Vp → Outcome → Vp
came_to (Again grant) v o = marked_or_ended v o (ending_after v o.what o.state (length (standing v)) (v.spins + 1))
came_to Started v o = begun v o
came_to _ v o = marked v o

-- the processor at what is left of its attempt: marked, if that is its end
abbrev pub settled : Tree Outcome → Vp → Vp
settled (Ends o) v = came_to o.what v o
settled (Asks s k) v = v
settled (Wants q k) v = v

-- the processor as it waits for the reply to the request of this operation, and once it has it
abbrev pub asking : Option Op → Vp → Vp
asking op v = record v { op = op; marks = standing v; again = false; owes = true }

abbrev pub answered : Reply → Vp → Vp
answered reply v = record v { owes = false; heard = Some (record { after = length v.seen - v.first; reply = reply }) }

-- what an attempt of the processor begins with
abbrev pub origin_of : Vp → Origin
origin_of v = origin_in v.limits v.number v.state v.controllers

abbrev pub tree_of : Origin → Option Op → Tree Outcome
tree_of from None = Ends (faulted from Undefined)
tree_of from (Some op) = attempt from op

-- the answers that the attempt under way has had
abbrev pub answers_of : List Event → ℕ → List ℕ
answers_of seen first = map learned (drop first seen)

-- what is left of the attempt of this operation
abbrev pub rest_of : Vp → Option Op → Tree Outcome
rest_of v op = followed (tree_of (origin_of v) op) v.heard (answers_of v.seen v.first)

-- what is left of the start of a processor
abbrev pub start_rest : Vp → Tree Outcome
start_rest v = followed (start_tree (origin_of v)) v.heard (answers_of v.seen v.first)

-- a processor and the words on which it works, and the requests of its attempt that were served, each with its entries
pub record Did (W : Type 0) : Type 0 where
  pub vp : Vp
  pub words : W
  pub served : List (Request × List Entry)

-- this request was served before
abbrev pub served_first : {W : Type 0} → Request → List Entry → Did W → Did W
served_first q block did = record { vp = did.vp; words = did.words; served = (q, block) ∷ did.served }

-- over words that answer and change so by steps, and so by the entries of a request: what is left of an attempt is done at
-- once, each step by the words as they stand, and each request is served whole by the partition as the requests before it
-- leave it
module _ {W : Type 0} (answers : W → WordStep → ℕ) (changes : W → WordStep → W) (adds : W → List Entry → W) where
  abbrev pub does_all : PartitionState → Option Op → Vp → W → Tree Outcome → Did W
  does_all s op v words (Ends o) = record { vp = settled (Ends o) v; words = words; served = [] }
  does_all s op v words (Asks step k) =
      does_all s op (saw op v (made step (answers words step))) (changes words step) (k (answers words step))
  does_all s op v words (Wants q k) = served_first q (block s q) (does_all (after s q) op (answered (answer s q) (asking op v)) (adds words (block s q)) (k (answer s q)))

  -- a processor that hasn't started looks at its start word: it starts where that was posted to, and else does nothing
  abbrev pub wakes : PartitionState → Vp → W → Did W
  wakes s v words =
      if answers words (Taking Start) == 0 then record { vp = v; words = words; served = [] }
      else does_all s None v words (start_tree (origin_of v))

  -- one that has started makes the whole attempt of the operation where its program stands
  abbrev pub acts : Program → PartitionState → Vp → W → Did W
  acts program s v words =
      if v.started then does_all s (operation_at program v.state) v words (tree_of (origin_of v) (operation_at program v.state))
      else wakes s v words

-- a processor acts at once
unfoldable pub attempted : Program → Vp → PartitionState → Flat → Did Flat
attempted program v s flat = acts (answer_in v.limits v.number) (flat_after v.limits v.number) with_entries program s v flat

-- the marks that a processor has left since it was so
abbrev pub new_marks : Vp → Vp → List Mark
new_marks old new = drop (length (standing old)) new.marks

-- a mark has no more events than its attempt may have
abbrev pub IsShort : Mark → Type 0
IsShort mark = mark.count ≤ most_steps_of mark.what

-- the same processor: what it was made with stays, and once it has started it has
pub record IsSameProcessor (old new : Vp) : Type 0 where
  pub number : new.number ≡ old.number
  pub limits : new.limits ≡ old.limits
  pub zero_length : new.zero_length ≡ old.zero_length
  pub one_length : new.one_length ≡ old.one_length
  pub started : old.started ≡ true → new.started ≡ true
