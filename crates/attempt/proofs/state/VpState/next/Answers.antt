use Rattle.std.proofs.Common.{sym, ap}
use Rattle.vsm_core.specs.Tree.{Taking}
use Rattle.attempt.specs.Views.{origin_of}
use Rattle.attempt.proofs.Polls.{next-taken}
use Rattle.attempt.proofs.state.VpState.next.Goals as goal

pub returns-in-Take-clause-head : goal.returns-in-Take-clause-head
returns-in-Take-clause-head c = rw (c.in-Take.is, next-taken c.in-Take.count (rw c.in-Take.is at c.requires))
    (ap Taking (sym c.word_at.ensures))

pub returns-in-Send-clause-head : goal.returns-in-Send-clause-head
returns-in-Send-clause-head c = rw c.in-Send.is (c.next_post.ensures (origin_of c.args.self.now))
