use Rattle.std.proofs.Common.{Ok, take}
use Rattle.std.specs.List.{flat_map}
use Rattle.vsm_report.specs.Gathering.{Gathers}
use Rattle.vsm_report.specs.Text.{line_text}
use Rattle.vsm_report.proofs.writer.put_lines.Given as goal

abbrev pub invariant-loop-line : goal.invariant-loop-line
invariant-loop-line g l =
    Gathers (g.K.Sink.taken l.fn.sink) l.fn.buffer (g.K.Sink.taken l.sink) l.buffer (g.K.Sink.faults l.fn.sink) (g.K.Sink.faults l.sink) (Ok tt) (flat_map (line_text l.script) (take l.line-index l.lines))
