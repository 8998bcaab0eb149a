use Rattle.std.proofs.Common.{◌≡◌, map}
use Rattle.std.specs.List.{range_with_len}
use Rattle.guest_script.specs.Made.{made_turns}
use Rattle.guest_script.proofs.maker.schedule.Given as goal

abbrev pub invariant-loop-vp : goal.invariant-loop-vp
invariant-loop-vp l = l.line ≡ map (made_turns l.n) (range_with_len 0 l.vp)
