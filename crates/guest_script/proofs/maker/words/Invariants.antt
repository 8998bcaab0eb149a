use Rattle.std.proofs.Common.{◌≡◌, ◌++◌, map}
use Rattle.std.specs.List.{range_with_len}
use Rattle.guest_script.specs.Made.{element, inputs}
use Rattle.guest_script.proofs.maker.words.Given as goal

abbrev pub invariant-loop-i : goal.invariant-loop-i
invariant-loop-i l = l.words ≡ inputs ++ map element (range_with_len 0 l.i)
