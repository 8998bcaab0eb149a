use Rattle.std.proofs.Common.{◌≢◌}
use Rattle.flush_round.specs.Steps.{IsReady}
use Rattle.flush_round.specs.declared.round.Stage.TheVariants.{Over}
use Rattle.flush_round.proofs.tests.steps.Given as goal

abbrev pub invariant-loop-at : goal.invariant-loop-at
invariant-loop-at g l = (l.round.stage ≢ Over) × IsReady l.round (g.S.Steward.stand l.steward)
