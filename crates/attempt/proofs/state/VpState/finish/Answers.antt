use Rattle.attempt.specs.Results.{done_by}
use Rattle.attempt.specs.Views.{origin_of}
use Rattle.attempt.proofs.state.VpState.finish.Goals as goal

pub returns-in-Denied : goal.returns-in-Denied
returns-in-Denied c = rw c.in-Denied.is (c.deny.ensures (done_by (origin_of c.args.self.now) c.args.under.now))
