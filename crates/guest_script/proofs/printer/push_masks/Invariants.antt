use Rattle.std.proofs.Common.{◌≡◌, ◌++◌, take}
use Rattle.std.specs.List.{flat_map}
use Rattle.guest_script.specs.Print.{line_text, mask_words}
use Rattle.guest_script.proofs.printer.push_masks.Given as goal

abbrev pub invariant-loop-mask : goal.invariant-loop-mask
invariant-loop-mask l = l.text.items ≡ l.fn.text.items ++ flat_map (λ mask. line_text (mask_words mask)) (take l.mask-index l.masks)
