use Rattle.std.proofs.Common.{arith}
use Rattle.vsm_report.specs.Opening.{word_count}
use Rattle.vsm_report.proofs.StretchWords.{words_so_far, stretch_of_zeros, stretch_more, stretch_whole, length-words_so_far}
use Rattle.vsm_report.proofs.opening.fill_stretch.Goals as goal

pub loop-word-init : goal.loop-word-init
loop-word-init c = stretch_of_zeros (word_count c.args.script.now) c.args.stretch

pub loop-word-preserved : goal.loop-word-preserved
loop-word-preserved c =
    let i = c.loop-word.word-index in
    stretch_more c.args.script.now c.as_slice-word-items.result.now i _ c.args.stretch _ c.as_slice-word-items.ensures (omega arith) (c.give.ensures (words_so_far c.args.script.now i) (length-words_so_far c.args.script.now i) c.loop-word.invariant)

pub returns : goal.returns
returns c =
    stretch_whole c.args.script.now c.as_slice-word-items.result.now c.loop-word.word-index c.args.stretch _ c.as_slice-word-items.ensures (omega arith) c.loop-word.invariant
