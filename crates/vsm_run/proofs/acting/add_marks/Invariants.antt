use Rattle.std.proofs.Common.{◌≡◌, ◌++◌, map, take}
use Rattle.vsm_report.specs.Acting.{mark_line}
use Rattle.vsm_run.proofs.acting.add_marks.Given as goal

abbrev pub invariant-loop-mark : goal.invariant-loop-mark
invariant-loop-mark l = l.lines ≡ (l.fn.lines.0 ++ map (mark_line l.vp.0) (take l.mark-index l.marks), l.fn.lines.1)
