use Rattle.std.proofs.Common.{◌≡◌, ◌++◌, map, take}
use Rattle.vsm_report.specs.Acting.{entry_line}
use Rattle.vsm_run.proofs.acting.add_entries.Given as goal

abbrev pub invariant-loop-entry : goal.invariant-loop-entry
invariant-loop-entry l = l.lines ≡ (l.fn.lines.0 ++ map entry_line (take l.entry-index l.entries), l.fn.lines.1)
