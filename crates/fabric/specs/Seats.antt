-- What is known of the ways to a plain fabric.
use Rattle.std.specs.Prelude.{None, Some, get_or}
use Rattle.vsm_core.specs.declared.event.Phase.TheVariants.{Idle}
use Rattle.vsm_core.specs.Seat.{Seat}
use Rattle.vsm_core.specs.Stand.{Stand}
use Rattle.fabric.specs.declared.plain_port.PlainPort.{PlainPort}
use Rattle.fabric.specs.declared.plain_steward.PlainSteward.{PlainSteward}

abbrev pub plain_seat : PlainPort → Seat
plain_seat p = record {
  name = p.fabric.ghost_name;
  vp = p.vp.0;
  limits = p.fabric.now.limits;
  phase = get_or p.fabric.now.fabric.phases p.vp.0 Idle;
  last = p.last;
  steps = p.steps;
  told = Some p.fabric.now.fabric;
  known = None;
}

abbrev pub plain_stand : PlainSteward → Stand
plain_stand s = record {
  name = s.fabric.ghost_name;
  limits = s.fabric.now.limits;
  turns = s.fabric.now.fabric.turns;
  cleared = s.fabric.now.fabric.cleared;
  last = s.last;
  steps = s.steps;
  told = Some s.fabric.now.fabric;
  known = None;
}
