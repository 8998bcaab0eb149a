use Rattle.std.proofs.Common.{}
use Rattle.guest_script.proofs.Making.{access_put, state_passed}
use Rattle.guest_script.proofs.maker.push_accesses.Goals as goal

pub loop-number-preserved : goal.loop-number-preserved
loop-number-preserved c =
    let i = c.loop-number.invariant in
    rw (c.in_ok-push.ensures.ok, c.access_of.ensures, c.next_state-state.ensures, c.from.ensures) record {
      put = access_put c.args.vp c.loop-number.number c.args.n c.loop-number.state c.loop-number.ops _ c.loop-number-test.true i.put;
      left = state_passed c.loop-number.number c.args.n c.loop-number.state _ c.loop-number-test.true i.left;
    }
