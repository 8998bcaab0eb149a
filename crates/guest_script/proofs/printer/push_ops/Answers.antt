use Rattle.std.proofs.Common.{◌++◌, ap, ◌∙◌, arith}
use Rattle.guest_script.specs.Print.{line_text, op_words}
use Rattle.guest_script.proofs.Mapped.{all_mapped}
use Rattle.guest_script.proofs.printer.push_ops.Goals as goal

pub returns : goal.returns
returns c =
    c.loop-op.invariant ∙ ap (λ text. c.args.text.now.items ++ text) (all_mapped line_text op_words c.args.ops.now c.loop-op.op-index (omega arith))
