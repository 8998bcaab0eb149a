use Rattle.std.proofs.Common.{◌≡◌, ◌+◌, ◌-◌, ◌++◌}
use Rattle.guest_script.specs.Made.{accesses, state_after}
use Rattle.guest_script.proofs.maker.push_accesses.Given as goal

abbrev pub invariant-loop-number : goal.invariant-loop-number
invariant-loop-number l = record {
  put : l.ops ++ accesses l.vp (l.number + 1) (l.n - l.number) l.state ≡ l.fn.ops ++ accesses l.vp 1 l.n l.x;
  left : state_after (l.n - l.number) l.state ≡ state_after l.n l.x;
}
