use Rattle.std.proofs.Common.{Ok, length, take, ◌/◌, ◌%◌, ◌<◌}
use Rattle.std.specs.List.{flat_map, range_with_len}
use Rattle.vsm_report.specs.Gathering.{Gathers}
use Rattle.vsm_report.specs.Opening.{opening_words, IsStretch}
use Rattle.vsm_report.specs.Text.{word_text}
use Rattle.vsm_report.proofs.writer.put_words.Given as goal

abbrev pub invariant-loop-at : goal.invariant-loop-at
invariant-loop-at g l = record {
  text : Gathers (g.K.Sink.taken l.fn.sink) l.fn.buffer (g.K.Sink.taken l.sink) l.buffer (g.K.Sink.faults l.fn.sink) (g.K.Sink.faults l.sink) (Ok tt) (flat_map (word_text (opening_words l.script) l.words) (take l.at (range_with_len 0 (length l.words))));
  stretch : 0 < l.at % 8192 → IsStretch (opening_words l.script) (l.at / 8192) l.opening;
}
