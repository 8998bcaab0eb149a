use Rattle.attempt.specs.Views.{origin_of}
use Rattle.attempt.proofs.Goes.{stage-goes}
use Rattle.attempt.proofs.state.VpState.goes_on.Goals as goal

pub returns-in_default : goal.returns-in_default
returns-in_default c = record {
  goes = stage-goes (origin_of c.args.self.now) c.args.under.now c.args.under.now.stage c.requires c.in_default.not-End;
  end = λ e. cc;
}
