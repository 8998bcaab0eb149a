use Rattle.std.proofs.Common.{◌≡◌, ◌+◌, drop}
use Rattle.std.specs.List.{prefix_len}
use Rattle.guest_script.specs.Tokens.{is_of_word}
use Rattle.guest_script.proofs.tokens.word_bytes.Given as goal

abbrev pub invariant-loop-at : goal.invariant-loop-at
invariant-loop-at l = l.at + prefix_len is_of_word (drop l.at l.bytes) ≡ prefix_len is_of_word l.bytes
