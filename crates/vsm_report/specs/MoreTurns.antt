-- What one turn more at the end of a schedule does to the report of the run.
use Rattle.std.specs.Prelude.{◌≡◌, ◌⊎◌, ℕ, false, List, [], ◌∷◌, ◌++◌, length, map, flat_map, replicate, Some, slice_get}
use Rattle.vsm_core.specs.declared.journal.Entry.{Entry}
use Rattle.vsm_core.specs.declared.mark.Ending.{Ending}
use Rattle.vsm_core.specs.declared.mark.Ending.TheVariants as endings
use Rattle.vsm_core.specs.declared.mark.Mark.{Mark}
use Rattle.vsm_core.specs.declared.mark.What.TheVariants.{Started}
use Rattle.guest_script.specs.declared.script.Script.{Script}
use Rattle.guest_script.specs.declared.script.Turns.{Turns}
use Rattle.vsm_report.specs.declared.report.Line.TheVariants as made
use Rattle.vsm_report.specs.declared.report.Report.{Report}

-- a line of a schedule that lets the processor of this number act once
abbrev pub once : ℕ → List Turns
once p = record { vp = record { 0 = p }; single = false; count = 1 } ∷ []

-- the script with one turn more, of this processor, behind all others
abbrev pub with_turn : Script → ℕ → Script
with_turn s p = record s { schedule = s.schedule ++ once p ∷ [] }

-- the processor of each turn of a schedule, in order
abbrev pub turns_in : List (List Turns) → List ℕ
turns_in lines = flat_map (flat_map (λ (t : Turns). replicate t.count t.vp.0)) lines

-- the script with a line of the schedule for each turn
abbrev pub one_by_one : Script → Script
one_by_one s = record s { schedule = map once (turns_in s.schedule) }

-- an ending at which a processor makes no further attempt
abbrev pub IsOver : Ending → Type 0
IsOver endings.Cut = ⊥
IsOver endings.Unstarted = ⊥
IsOver _ = Unit {0}

-- a report with these entries more in its journal, and their lines and those of these marks of this processor more
pub record HasMore (p : ℕ) (entries : List Entry) (marks : List Mark) (old new : Report) : Type 0 where
  pub journal : new.journal ≡ old.journal ++ entries
  pub lines : new.lines ≡ old.lines ++ (map made.Entry entries ++ map (made.Mark (record { 0 = p })) marks)

-- one mark more, or none where the processor has now spun in vain too often
pub record HasOneMore (p : ℕ) (old new : Report) : Type 0 where
  pub entries : List Entry
  pub marks : List Mark
  pub more : HasMore p entries marks old new
  pub one : (length marks ≡ 1) ⊎ ((marks ≡ []) × (slice_get new.ends p ≡ Some endings.Spun))

-- a processor has started, and its mark tells that
pub record HasStarted (p : ℕ) (old new : Report) : Type 0 where
  pub entries : List Entry
  pub mark : Mark
  pub starts : mark.what ≡ Started
  pub more : HasMore p entries (mark ∷ []) old new
