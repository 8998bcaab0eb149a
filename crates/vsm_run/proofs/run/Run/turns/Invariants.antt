use Rattle.std.proofs.Common.{◌≡◌, ◌≤◌, ◌+◌, ◌-◌, ◌*◌, length}
use Rattle.vsm_core.specs.Protection.{owed}
use Rattle.vsm_report.specs.Schedule.{after_turns}
use Rattle.vsm_report.specs.Trace.{stepped}
use Rattle.vsm_run.specs.Fits.{Fits}
use Rattle.vsm_run.proofs.run.Run.turns.Given as goal

abbrev pub invariant-loop-turn : goal.invariant-loop-turn
invariant-loop-turn l = record {
  acts : after_turns (stepped l.programs l.vp.0) (l.count - l._turn) l.self.world ≡ after_turns (stepped l.programs l.vp.0) l.count l.fn.self.world;
  grows : length l.self.world.lines + owed l.self.world.partition.state ≤ length l.fn.self.world.lines + owed l.fn.self.world.partition.state + (l.fn.self.limits.vps + 12) * l._turn;
  fits : Fits l.programs l.self.world.vps;
  room : l.self.room ≡ l.fn.self.room;
  limits : l.self.limits ≡ l.fn.self.limits;
}
