use Rattle.std.proofs.Common.{◌≢◌}
use Rattle.fabric.specs.Seats.{plain_seat}
use Rattle.access_path.specs.declared.place.Place.TheVariants.{Over}
use Rattle.access_path.specs.Rest.{Serves}
use Rattle.access_path.proofs.tests.outcome.Given as goal

abbrev pub invariant-loop-made : goal.invariant-loop-made
invariant-loop-made l = record {
  going : l.path.place ≢ Over;
  serves : Serves l.path.aim l.path.place (plain_seat l.port);
}
