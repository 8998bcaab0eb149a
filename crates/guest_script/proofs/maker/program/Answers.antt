use Rattle.std.proofs.Common.{ap}
use Rattle.vsm_core.specs.declared.operation.Program.{Program}
use Rattle.guest_script.specs.Made.{state_after}
use Rattle.guest_script.proofs.Making.{program_made}
use Rattle.guest_script.proofs.maker.program.Goals as goal

pub returns : goal.returns
returns c =
    rw (c.in_ok-push_trying.ensures, c.in_ok-state.ensures.ops, c.in_ok-push_all.ensures, c.new-zero.ensures, c.opening.ensures, c.in_ok-push_all-2.ensures, c.new-one.ensures, c.level_1.ensures, c.in_ok-state.ensures.state) (ap (λ (p : Program). (p, state_after c.args.n c.args.x)) (program_made c.args.n c.args.vp c.args.x))
