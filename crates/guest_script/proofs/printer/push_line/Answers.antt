use Rattle.std.proofs.Common.{◌++◌, ◌∷◌, [], ap, ◌∙◌, append_assoc, arith}
use Rattle.guest_script.specs.Print.{after_space}
use Rattle.guest_script.specs.Printing.{spelled}
use Rattle.guest_script.proofs.Mapped.{all_mapped}
use Rattle.guest_script.proofs.printer.push_line.Goals as goal

pub returns : goal.returns
returns c =
    let front = c.args.text.now.items ++ c.args.first.now in
    let words = all_mapped after_space spelled c.args.others.now c.loop-word.word-index (omega arith) in
    c.in_ok-push-2.ensures.items ∙ ap (λ text. text ++ 10 ∷ []) (c.loop-word.invariant ∙ ap (λ text. front ++ text) words) ∙ simp append_assoc
