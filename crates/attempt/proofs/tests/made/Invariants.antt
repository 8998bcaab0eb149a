use Rattle.attempt.specs.Rests.{StageIs}
use Rattle.attempt.specs.Views.{origin_of}
use Rattle.attempt.proofs.tests.made.Given as goal

abbrev pub invariant-loop-answer : goal.invariant-loop-answer
invariant-loop-answer l = StageIs (origin_of l.state) l.under
