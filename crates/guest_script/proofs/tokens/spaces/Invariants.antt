use Rattle.std.proofs.Common.{◌≡◌, ◌+◌, drop}
use Rattle.std.specs.List.{prefix_len}
use Rattle.guest_script.specs.Tokens.{is_space}
use Rattle.guest_script.proofs.tokens.spaces.Given as goal

abbrev pub invariant-loop-at : goal.invariant-loop-at
invariant-loop-at l = l.at + prefix_len is_space (drop l.at l.bytes) ≡ prefix_len is_space l.bytes
