use Rattle.std.proofs.Common.{◌≡◌, ◌++◌, take}
use Rattle.std.specs.List.{flat_map}
use Rattle.guest_script.specs.Keywords.{spelling}
use Rattle.guest_script.specs.Print.{after_space, entry_word}
use Rattle.guest_script.specs.declared.keyword.Keyword.TheVariants as words
use Rattle.guest_script.proofs.printer.push_entries.Given as goal

abbrev pub invariant-loop-entry : goal.invariant-loop-entry
invariant-loop-entry l = l.text.items ≡ (l.fn.text.items ++ spelling words.Schedule) ++ flat_map (λ entry. after_space (entry_word entry)) (take l.entry-index l.turns)
