use Rattle.std.proofs.Common.{◌≡◌, ◌++◌, take}
use Rattle.std.specs.List.{flat_map}
use Rattle.guest_script.specs.Print.{line_text, op_words}
use Rattle.guest_script.proofs.printer.push_ops.Given as goal

abbrev pub invariant-loop-op : goal.invariant-loop-op
invariant-loop-op l = l.text.items ≡ l.fn.text.items ++ flat_map (λ op. line_text (op_words op)) (take l.op-index l.ops)
