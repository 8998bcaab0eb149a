use Rattle.std.proofs.Common.{◌≡◌, ◌++◌, drop}
use Rattle.std.specs.List.{flat_map}
use Rattle.guest_script.specs.Print.{line_text, programs_lines}
use Rattle.guest_script.proofs.printer.push_programs.Given as goal

abbrev pub invariant-loop-vp : goal.invariant-loop-vp
invariant-loop-vp l = l.text.items ++ flat_map line_text (programs_lines l.vp (drop l.vp l.programs)) ≡ l.fn.text.items ++ flat_map line_text (programs_lines 0 l.programs)
