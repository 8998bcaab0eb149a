use Rattle.std.proofs.Common.{◌++◌, ap, ◌∙◌, arith}
use Rattle.guest_script.specs.Print.{line_text, mask_words}
use Rattle.guest_script.proofs.Mapped.{all_mapped}
use Rattle.guest_script.proofs.printer.push_masks.Goals as goal

pub returns : goal.returns
returns c =
    c.loop-mask.invariant ∙ ap (λ text. c.args.text.now.items ++ text) (all_mapped line_text mask_words c.args.masks.now c.loop-mask.mask-index (omega arith))
