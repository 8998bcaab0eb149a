use Rattle.std.proofs.Common.{◌++◌, ap, ◌∙◌, arith}
use Rattle.guest_script.specs.Print.{line_text, word_words}
use Rattle.guest_script.proofs.Mapped.{all_mapped}
use Rattle.guest_script.proofs.printer.push_words.Goals as goal

pub returns : goal.returns
returns c =
    c.loop-word.invariant ∙ ap (λ text. c.args.text.now.items ++ text) (all_mapped line_text word_words c.args.words.now c.loop-word.word-index (omega arith))
