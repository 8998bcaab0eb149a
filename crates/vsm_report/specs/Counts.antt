-- A run in numbers.
use Rattle.std.specs.Prelude.{ℕ, List, length, Bool, true, false}
use Rattle.std.specs.List.{filter}
use Rattle.vsm_core.specs.declared.journal.Entry.{Entry}
use Rattle.vsm_core.specs.declared.journal.Entry.TheVariants as entries
use Rattle.vsm_core.specs.declared.mark.What.{What}
use Rattle.vsm_core.specs.declared.mark.What.TheVariants as outcomes
use Rattle.vsm_report.specs.declared.counts.Counts.{Counts}
use Rattle.vsm_report.specs.declared.report.Line.{Line}
use Rattle.vsm_report.specs.declared.report.Line.TheVariants as made
use Rattle.vsm_report.specs.declared.report.Report.{Report}

-- the attempt has left a mark: it is no spin that found another value
abbrev pub is_left : What → Bool
is_left (outcomes.Again grant) = false
is_left _ = true

-- an access was granted
abbrev pub is_granted : What → Bool
is_granted (outcomes.Granted grant) = true
is_granted _ = false

-- an access was denied
abbrev pub is_denied : What → Bool
is_denied (outcomes.Denied denial) = true
is_denied _ = false

-- the line tells an attempt of this kind
abbrev pub tells : (What → Bool) → Line → Bool
tells kind (made.Mark vp mark) = kind mark.what
tells kind _ = false

-- how many lines tell an attempt of this kind
abbrev pub count_of : (What → Bool) → List Line → ℕ
count_of kind lines = length (filter (tells kind) lines)

-- a round has ended
abbrev pub is_report : Entry → Bool
is_report (entries.Report round) = true
is_report _ = false

-- a report in numbers
abbrev pub counts : Report → Counts
counts r = record {
  marks = count_of is_left r.lines;
  granted = count_of is_granted r.lines;
  denied = count_of is_denied r.lines;
  rounds = length (filter is_report r.journal);
}
