use Rattle.std.proofs.Common.{Ok, length, take}
use Rattle.std.specs.List.{flat_map, range_with_len}
use Rattle.vsm_report.specs.Gathering.{Gathers}
use Rattle.vsm_report.specs.Opening.{opening_masks}
use Rattle.vsm_report.specs.Text.{mask_text}
use Rattle.vsm_report.proofs.writer.put_masks.Given as goal

abbrev pub invariant-loop-page : goal.invariant-loop-page
invariant-loop-page g l =
    Gathers (g.K.Sink.taken l.fn.sink) l.fn.buffer (g.K.Sink.taken l.sink) l.buffer (g.K.Sink.faults l.fn.sink) (g.K.Sink.faults l.sink) (Ok tt) (flat_map (mask_text (opening_masks l.script) l.masks) (take l.page (range_with_len 0 (length l.masks))))
