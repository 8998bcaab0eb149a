-- One turn of a partition.
use Rattle.std.specs.Prelude.{◌≡◌, ◌⊎◌, true, Option, Some, None, List, [], ◌∷◌, length}
use Rattle.vsm_base.specs.declared.places.VpIndex.{VpIndex}
use Rattle.vsm_core.specs.Entries.{step_of, pace}
use Rattle.vsm_core.specs.Stand.{Stand, Serves}
use Rattle.vsm_core.specs.declared.event.Event.{Event}
use Rattle.vsm_core.specs.declared.event.Event.TheVariants as events
use Rattle.vsm_core.specs.declared.journal.Entry.{Entry}
use Rattle.vsm_core.specs.declared.journal.Entry.TheVariants as entries
use Rattle.vsm_core.specs.declared.request.Reply.{Reply}
use Rattle.protection_map.specs.JournalView.{with_entry}
use Rattle.partition.specs.PartView.{Doing, PartView}
use Rattle.partition.specs.declared.turn.PartTurn.{PartTurn}
use Rattle.partition.specs.declared.turn.PartTurn.TheVariants.{Moved, Busy, Done}

-- the steward made this step, or none and then it stands where it stood
abbrev pub ServesIf : Stand → Option Event → Stand → Type 0
ServesIf before None after = after ≡ before
ServesIf before (Some e) after = Serves before e after

-- the request under way once these entries are left of it
abbrev pub left : List Entry → Reply → Option Doing
left [] reply = None
left (e ∷ rest) reply = Some (record { rest = e ∷ rest; reply = reply })

-- what a turn answers then
abbrev pub turn_of : List Entry → Reply → PartTurn
turn_of [] reply = Done reply
turn_of (e ∷ rest) reply = Moved

-- the next entry was added, with its step
pub record Adds (e : Entry) (rest : List Entry) (reply : Reply) (old : PartView) (before : Stand) (new : PartView) (after : Stand) (turn : PartTurn) : Type 0 where
  pub step : ServesIf before (step_of e) after
  pub view : new ≡ record { state = old.state; journal = with_entry old.journal e; under = left rest reply; ended = old.ended }
  pub answer : turn ≡ turn_of rest reply

-- the next entry clears a processor, which was found busy
pub record Waits (e : Entry) (old : PartView) (before : Stand) (new : PartView) (after : Stand) (turn : PartTurn) : Type 0 where
  pub vp : VpIndex
  pub clear : e ≡ entries.Clear vp
  pub step : Serves before (events.Clear vp true) after
  pub view : new ≡ old
  pub answer : turn ≡ Busy vp

abbrev pub TurnsBy : List Entry → Reply → PartView → Stand → PartView → Stand → PartTurn → Type 0
TurnsBy [] reply old before new after turn = ⊥
TurnsBy (e ∷ rest) reply old before new after turn = Adds e rest reply old before new after turn ⊎ Waits e old before new after turn

abbrev pub TurnsUnder : Option Doing → PartView → Stand → PartView → Stand → PartTurn → Type 0
TurnsUnder None old before new after turn = ⊥
TurnsUnder (Some doing) old before new after turn = TurnsBy doing.rest doing.reply old before new after turn

-- one turn: the next entry of the request under way was added, or its processor was found busy
abbrev pub Turns : PartView → Stand → PartView → Stand → PartTurn → Type 0
Turns old before new after turn = TurnsUnder old.under old before new after turn

-- the opening masks, the room for entries, the number of processors and which of them count as ended stay
pub record IsKept (old new : PartView) : Type 0 where
  pub opening : new.journal.opening ≡ old.journal.opening
  pub room : new.journal.room ≡ old.journal.room
  pub vps : length new.state.vps ≡ length old.state.vps
  pub pages : new.state.pages ≡ old.state.pages
  pub ended : new.ended ≡ old.ended

-- the steward has the partition's limits, and has turned the generation and cleared processors as often as the journal says
pub record IsPaced (p : PartView) (stand : Stand) : Type 0 where
  pub vps : stand.limits.vps ≡ length p.state.vps
  pub pages : stand.limits.pages ≡ length p.journal.opening
  pub turns : stand.turns ≡ (pace (length p.state.vps) p.journal.entries).turns
  pub cleared : stand.cleared ≡ (pace (length p.state.vps) p.journal.entries).cleared
