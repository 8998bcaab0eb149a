-- The marks that an attempt leaves, and the ending that then holds.
use Rattle.std.specs.Prelude.{◌≡◌, ℕ, ◌+◌, ◌<◌, length, Option, None}
use Rattle.vsm_core.specs.declared.mark.Ending.{Ending}
use Rattle.vsm_core.specs.declared.mark.What.{What}
use Rattle.vsm_core.specs.Processor.{or_else, ran_out, spun_out, stopped_by}
use Rattle.vsm_core.specs.State.{State, rip_of}
use Rattle.attempt.specs.Views.{VpView}
use Rattle.cpu.specs.declared.endings.Course.{Course}
use Rattle.cpu.specs.declared.lengths.Lengths.{Lengths}
use Rattle.cpu.specs.declared.log.Log.{Log}
use Rattle.cpu.specs.Logs.{marked_in, mark_in}
use Rattle.cpu.specs.Sound.{length_at}

-- the program goes on, and the budget allows a mark more
pub record GoesOn (c : Course) : Type 0 where
  pub rip : c.rip < c.length
  pub marks : c.marks < c.budget

-- the ending after an attempt that is none by itself
abbrev pub ending_on : Course → Option Ending
ending_on c = or_else (ran_out c.length c.budget c.rip c.marks) (spun_out c.spins)

-- where a processor is in this state, with so many marks that count and so many reads of spins in vain
abbrev pub course_at : Lengths → VpView → (marks spins : ℕ) → Course
course_at lengths v marks spins = record {
  length = length_at lengths v.state.active;
  rip = rip_of v.state;
  budget = v.limits.budget;
  marks = marks;
  spins = spins;
}

-- the ending after an attempt that came to this
abbrev pub ending_of : Lengths → VpView → What → Log → Option Ending
ending_of lengths v what l = or_else (stopped_by what) (ending_on (course_at lengths v (length l.marks.0 + 1) l.spins))

-- a mark that stays, of an attempt that began in the one state and came to this in the other
abbrev pub log_marked : Lengths → (old : State) → (new : VpView) → What → Log → Log
log_marked lengths old new what l =
    marked_in l (mark_in l old.active (rip_of old) what) (ending_of lengths new what l)

-- a log with such a mark: where no ending holds the program goes on
pub record IsMarked (lengths : Lengths) (old : State) (new : VpView) (what : What) (l after : Log) : Type 0 where
  pub log : after ≡ log_marked lengths old new what l
  pub goes : after.ended ≡ None → rip_of new.state < length_at lengths new.state.active
