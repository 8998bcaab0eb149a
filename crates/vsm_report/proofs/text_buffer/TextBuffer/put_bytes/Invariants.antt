use Rattle.std.proofs.Common.{Ok, take}
use Rattle.vsm_report.specs.Gathering.{Gathers}
use Rattle.vsm_report.proofs.text_buffer.TextBuffer.put_bytes.Given as goal

abbrev pub invariant-loop-byte : goal.invariant-loop-byte
invariant-loop-byte g l =
    Gathers (g.K.Sink.taken l.fn.sink) l.fn.self (g.K.Sink.taken l.sink) l.self (g.K.Sink.faults l.fn.sink) (g.K.Sink.faults l.sink) (Ok tt) (take l.byte-index l.text)
