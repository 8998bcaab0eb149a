use Rattle.std.proofs.Common.{◌≡◌, ◌-◌, ◌++◌}
use Rattle.guest_script.specs.Made.{made_programs}
use Rattle.guest_script.proofs.maker.programs.Given as goal

abbrev pub invariant-loop-vp : goal.invariant-loop-vp
invariant-loop-vp l = l.programs ++ made_programs l.n l.vp (4 - l.vp) l.state ≡ made_programs l.n 0 4 l.n
