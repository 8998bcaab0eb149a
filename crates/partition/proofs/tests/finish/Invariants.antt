use Rattle.std.proofs.Common.{◌≡◌, ◌≢◌, None}
use Rattle.partition.specs.TestView.{IsOpen, phases_of}
use Rattle.partition.specs.Turns.{IsPaced}
use Rattle.partition.proofs.tests.finish.Given as goal

abbrev pub invariant-loop-turn : goal.invariant-loop-turn
invariant-loop-turn g l = record {
  going : l.partition.under ≢ None;
  kept : IsOpen l.partition;
  paced : IsPaced l.partition (g.S.Steward.stand l.steward);
  name : (g.S.Steward.stand l.steward).name ≡ (g.S.Steward.stand l.fn.steward).name;
  phases : phases_of (g.S.Steward.stand l.steward) ≡ phases_of (g.S.Steward.stand l.fn.steward);
}
