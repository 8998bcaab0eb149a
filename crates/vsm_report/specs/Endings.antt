-- What each ending says of a processor as it stands when its run is over: the tests of the endings, each behind those that come before it.
use Rattle.std.specs.Prelude.{◌≡◌, ◌≢◌, ℕ, ◌-◌, ◌<◌, ◌≤◌, Bool, true, false, List, length, Option, Some, None, slice_get}
use Rattle.vsm_core.specs.declared.mark.Ending.{Ending}
use Rattle.vsm_core.specs.declared.mark.Ending.TheVariants as endings
use Rattle.vsm_core.specs.declared.mark.GuestFault.{GuestFault}
use Rattle.vsm_core.specs.declared.mark.Mark.{Mark}
use Rattle.vsm_core.specs.declared.mark.Posted.TheVariants.{Held}
use Rattle.vsm_core.specs.declared.mark.What.{What}
use Rattle.vsm_core.specs.declared.mark.What.TheVariants.{Denied, Fault, Hit}
use Rattle.vsm_core.specs.declared.operation.Program.{Program}
use Rattle.vsm_core.specs.Processor.{Vp, operation_at}
use Rattle.vsm_core.specs.State.{State}
use Rattle.guest_script.specs.declared.script.Script.{Script}
use Rattle.guest_script.specs.Programs.{program_at}
use Rattle.vsm_report.specs.FlatRun.{flat}
use Rattle.vsm_report.specs.Telling.{staying, told_marks}

-- a processor when its run is over: its program, how many marks it may leave, whether it has started, its registers, the marks
-- that stay of those that the lines tell of it, and how many reads of spins have found another value
pub record LastState : Type 0 where
  pub program : Program
  pub budget : ℕ
  pub started : Bool
  pub state : State
  pub marks : List Mark
  pub spins : ℕ

-- the processor of this number, which was left so
abbrev pub last_state : Script → ℕ → Vp → LastState
last_state s p v = record {
  program = program_at s.programs p;
  budget = s.limits.budget;
  started = v.started;
  state = v.state;
  marks = staying (told_marks p (flat s).lines);
  spins = v.spins;
}

-- the last of these marks, if there is one
abbrev pub last_of : List Mark → Option Mark
last_of marks = slice_get marks (length marks - 1)

-- this is an intercept that no level 1 took
abbrev pub IsIntercept : What → Type 0
IsIntercept (Denied denial) = denial.posted ≡ Held
IsIntercept (Hit posted) = posted ≡ Held
IsIntercept _ = ⊥

-- the mark tells one
abbrev pub TellsHeld : Option Mark → Type 0
TellsHeld None = ⊥
TellsHeld (Some mark) = IsIntercept mark.what

-- the mark tells this guest fault
abbrev pub TellsFault : GuestFault → Option Mark → Type 0
TellsFault fault None = ⊥
TellsFault fault (Some mark) = mark.what ≡ Fault fault

-- it has started, and its last mark tells nothing by which it ends
pub record GoesOn (l : LastState) : Type 0 where
  pub started : l.started ≡ true
  pub not_held : ¬ TellsHeld (last_of l.marks)
  pub no_fault : (fault : GuestFault) → ¬ TellsFault fault (last_of l.marks)

-- and an operation stands where its program stands
pub record HasOperation (l : LastState) : Type 0 where
  pub goes_on : GoesOn l
  pub operation : operation_at l.program l.state ≢ None

-- and it may leave a mark more
pub record HasBudget (l : LastState) : Type 0 where
  pub has_operation : HasOperation l
  pub left : length l.marks < l.budget

-- what an ending says
abbrev pub Says : LastState → Ending → Type 0
Says l endings.Unstarted = l.started ≡ false
Says l endings.Held = (l.started ≡ true) × TellsHeld (last_of l.marks)
Says l (endings.Fault fault) = (l.started ≡ true) × TellsFault fault (last_of l.marks)
Says l endings.Done = GoesOn l × (operation_at l.program l.state ≡ None)
Says l endings.Budget = HasOperation l × (l.budget ≤ length l.marks)
Says l endings.Spun = HasBudget l × (l.spins ≡ 20000000)
Says l endings.Cut = HasBudget l × (l.spins < 20000000)
