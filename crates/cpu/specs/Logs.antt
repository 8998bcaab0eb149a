-- What a processor keeps of its attempts, and what each turn does to it.
use Rattle.std.specs.Prelude.{◌≡◌, ℕ, ◌+◌, ◌-◌, ◌*◌, ◌<◌, ◌≤◌, Bool, true, false, if◌then◌else◌, List, [], ◌∷◌, ◌++◌}
use Rattle.std.specs.Prelude.{take, drop, length, Option, Some, None}
use Rattle.vsm_base.specs.declared.places.Vtl.{Vtl}
use Rattle.vsm_core.specs.declared.event.Event.{Event}
use Rattle.vsm_core.specs.declared.event.Event.TheVariants as events
use Rattle.vsm_core.specs.declared.mark.Ending.{Ending}
use Rattle.vsm_core.specs.declared.mark.Mark.{Mark}
use Rattle.vsm_core.specs.declared.mark.What.{What}
use Rattle.vsm_core.specs.Processor.{spin_limit}
use Rattle.cpu.specs.declared.log.Log.{Log}

-- the marks that stay at the next turn
abbrev pub standing_of : Bool → List Mark → List Mark
standing_of again marks = if again then take (length marks - 1) marks else marks

abbrev pub stood : Log → Log
stood l = record l { marks = (standing_of l.again l.marks.0, l.marks.1); again = false }

-- the events after one more, and where those of the attempt under way then begin
abbrev pub seen_by : List Event → ℕ → ℕ → Event → List Event
seen_by seen part first (events.Check generation) = (take part seen ++ drop first seen) ++ events.Check generation ∷ []
seen_by seen part first e = seen ++ e ∷ []

abbrev pub first_by : ℕ → ℕ → Event → ℕ
first_by part first (events.Check generation) = part
first_by part first _ = first

abbrev pub saw_in : Log → Event → Log
saw_in l e =
    record l { seen = (seen_by l.seen.0 l.part l.first e, l.seen.1); first = first_by l.part l.first e }

abbrev pub mark_in : Log → Vtl → ℕ → What → Mark
mark_in l level rip what =
    record { level = level; rip = rip; what = what; first = l.part; count = length l.seen.0 - l.part }

abbrev pub with_mark : Log → Mark → Log
with_mark l mark = record l { marks = (l.marks.0 ++ mark ∷ [], l.marks.1) }

-- a mark that stays, with the ending that then holds
abbrev pub marked_in : Log → Mark → Option Ending → Log
marked_in l mark ended =
    record (with_mark l mark) { part = length l.seen.0; first = length l.seen.0; ended = ended }

-- the mark of a spin that found another value
abbrev pub again_in : Log → Mark → Log
again_in l mark = record (with_mark l mark) { first = length l.seen.0; again = true; spins = l.spins + 1 }

-- a spin found another value once too often
abbrev pub spun_in : Log → Ending → Log
spun_in l ending =
    record l { seen = (take l.part l.seen.0, l.seen.1); first = l.part; spins = l.spins + 1; ended = Some ending }

-- there is room for what the budget, which is the room for marks, still allows
pub record HasRoom (l : Log) : Type 0 where
  pub budget : l.marks.1 ≤ 10000
  pub seen_room : l.seen.1 ≡ 64 * l.marks.1
  pub marks_few : length l.marks.0 ≤ l.marks.1
  pub part_few : l.part ≤ 38 * length (standing_of l.again l.marks.0)
  pub part_le : l.part ≤ l.first
  pub first_few : l.first ≤ l.part + 13
  pub first_le : l.first ≤ length l.seen.0
  pub seen_few : length l.seen.0 ≤ l.first + 38
  pub room : l.ended ≡ None → length (standing_of l.again l.marks.0) < l.marks.1
  pub spins : l.ended ≡ None → l.spins < spin_limit

-- a mark may be left: the attempt's events, and no others, stand behind those of earlier marks
pub record MayMark (l : Log) : Type 0 where
  pub has : HasRoom l
  pub going : l.ended ≡ None
  pub fresh : l.again ≡ false
  pub tidy : l.part ≡ l.first
