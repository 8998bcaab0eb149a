use Rattle.partition.specs.TestView.{IsOpen}
use Rattle.partition.specs.Turns.{IsPaced}
use Rattle.fabric.specs.Seats.{plain_stand}
use Rattle.partition.proofs.tests.served.Given as goal

abbrev pub invariant-loop-asked : goal.invariant-loop-asked
invariant-loop-asked l = IsOpen l.partition × IsPaced l.partition (plain_stand l.steward)
