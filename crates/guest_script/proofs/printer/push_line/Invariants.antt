use Rattle.std.proofs.Common.{◌≡◌, ◌++◌, take}
use Rattle.std.specs.List.{flat_map}
use Rattle.guest_script.specs.Print.{after_space}
use Rattle.guest_script.specs.Printing.{spelled}
use Rattle.guest_script.proofs.printer.push_line.Given as goal

abbrev pub invariant-loop-word : goal.invariant-loop-word
invariant-loop-word l = l.text.items ≡ (l.fn.text.items ++ l.first) ++ flat_map (λ word. after_space (spelled word)) (take l.word-index l.others)
