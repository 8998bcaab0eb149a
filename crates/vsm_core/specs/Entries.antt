-- The steps on the shared words with which the partition adds entries to its journal.
use Rattle.std.specs.Prelude.{ℕ, ◌+◌, false, Option, Some, None, List}
use Rattle.std.specs.List.{fold}
use Rattle.vsm_base.specs.declared.places.Limits.{Limits}
use Rattle.vsm_core.specs.Stand.{words_with}
use Rattle.vsm_core.specs.declared.event.Event.{Event}
use Rattle.vsm_core.specs.declared.event.Event.TheVariants as events
use Rattle.vsm_core.specs.declared.event.PendingWord.TheVariants as words
use Rattle.vsm_core.specs.declared.journal.Entry.{Entry}
use Rattle.vsm_core.specs.declared.journal.Entry.TheVariants as entries

-- the step with which an entry is added, if it takes one
abbrev pub step_of : Entry → Option Event
step_of (entries.Ask page mask) = Some (events.Ask page mask)
step_of (entries.Turn round by) = Some (events.Turn round)
step_of (entries.Clear vp) = Some (events.Clear vp false)
step_of (entries.Start by vp level) = Some (events.Post vp words.Start 1)
step_of (entries.Enable by) = None
step_of (entries.Level by vp) = None
step_of (entries.Config by value) = None
step_of (entries.Fetch vp) = None
step_of (entries.Look by) = None
step_of (entries.Refuse by status) = None
step_of (entries.Report round) = None

abbrev pub words_if : Limits → List ℕ → Option Event → List ℕ
words_if limits ws None = ws
words_if limits ws (Some e) = words_with limits ws e

-- the words after the step of an entry, and after those of all entries
abbrev pub words_by_entry : Limits → List ℕ → Entry → List ℕ
words_by_entry limits ws e = words_if limits ws (step_of e)

abbrev pub words_by_entries : Limits → List ℕ → List Entry → List ℕ
words_by_entries limits ws es = fold (words_by_entry limits) ws es

-- how often the generation was turned, and how many processors were cleared since
pub record Pace : Type 0 where
  pub turns : ℕ
  pub cleared : ℕ

abbrev pub pace_after : Pace → Entry → Pace
pace_after p (entries.Turn round by) = record { turns = p.turns + 1; cleared = 0 }
pace_after p (entries.Clear vp) = record { turns = p.turns; cleared = p.cleared + 1 }
pace_after p _ = p

-- among so many processors, all of which count as cleared before the first turn
abbrev pub pace : ℕ → List Entry → Pace
pace vps es = fold pace_after (record { turns = 0; cleared = vps }) es
