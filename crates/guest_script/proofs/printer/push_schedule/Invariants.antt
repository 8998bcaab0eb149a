use Rattle.std.proofs.Common.{◌≡◌, ◌++◌, take}
use Rattle.std.specs.List.{flat_map}
use Rattle.guest_script.specs.Print.{line_text, schedule_words}
use Rattle.guest_script.proofs.printer.push_schedule.Given as goal

abbrev pub invariant-loop-turns : goal.invariant-loop-turns
invariant-loop-turns l = l.text.items ≡ l.fn.text.items ++ flat_map (λ turns. line_text (schedule_words turns)) (take l.turns-index l.schedule)
