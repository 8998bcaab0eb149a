-- What the lines of a report tell, by themselves.
use Rattle.std.specs.Prelude.{◌≡◌, ℕ, ◌-◌, ◌==◌, not, if◌then◌else◌, List, ◌++◌, length, drop, filter_map, Option, Some, None}
use Rattle.std.specs.List.{filter}
use Rattle.vsm_core.specs.declared.journal.Entry.{Entry}
use Rattle.vsm_core.specs.declared.mark.Mark.{Mark}
use Rattle.vsm_core.specs.declared.mark.Ending.{Ending}
use Rattle.vsm_core.specs.declared.mark.Ending.TheVariants as endings
use Rattle.vsm_report.specs.declared.report.Line.{Line}
use Rattle.vsm_report.specs.declared.report.Line.TheVariants as made
use Rattle.vsm_report.specs.Counts.{is_left}

-- the mark that a line tells of the processor of this number
abbrev pub mark_in : ℕ → Line → Option Mark
mark_in p (made.Mark vp mark) = if p == vp.0 then Some mark else None
mark_in p _ = None

-- all marks that these lines tell of it, in their order
abbrev pub told_marks : ℕ → List Line → List Mark
told_marks p lines = filter_map (mark_in p) lines

abbrev pub entry_in : Line → Option Entry
entry_in (made.Entry entry) = Some entry
entry_in _ = None

-- all entries that these lines tell, in their order
abbrev pub told_entries : List Line → List Entry
told_entries lines = filter_map entry_in lines

-- the marks without those of spins in vain
abbrev pub staying : List Mark → List Mark
staying marks = filter (λ m. is_left m.what) marks

-- the last mark, where it is that of a spin in vain
abbrev pub vain_last : List Mark → List Mark
vain_last marks = filter (λ m. not (is_left m.what)) (drop (length marks - 1) marks)

-- what stays of all marks that were told of a processor of this ending: none of a spin in vain, but for the last one where
-- the schedule ended behind it
abbrev pub kept_marks : Ending → List Mark → List Mark
kept_marks endings.Cut told = staying told ++ vain_last told
kept_marks _ told = staying told
