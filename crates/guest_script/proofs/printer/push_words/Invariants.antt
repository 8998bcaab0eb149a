use Rattle.std.proofs.Common.{◌≡◌, ◌++◌, take}
use Rattle.std.specs.List.{flat_map}
use Rattle.guest_script.specs.Print.{line_text, word_words}
use Rattle.guest_script.proofs.printer.push_words.Given as goal

abbrev pub invariant-loop-word : goal.invariant-loop-word
invariant-loop-word l = l.text.items ≡ l.fn.text.items ++ flat_map (λ word. line_text (word_words word)) (take l.word-index l.words)
