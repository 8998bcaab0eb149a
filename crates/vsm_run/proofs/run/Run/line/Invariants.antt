use Rattle.std.proofs.Common.{◌≡◌, ◌≤◌, ◌+◌, ◌*◌, length, drop, fold}
use Rattle.guest_script.specs.Schedules.{turns_of}
use Rattle.vsm_core.specs.Protection.{owed}
use Rattle.vsm_report.specs.Schedule.{after_entry}
use Rattle.vsm_report.specs.Trace.{stepped}
use Rattle.vsm_run.specs.Fits.{Fits}
use Rattle.vsm_run.proofs.run.Run.line.Given as goal

abbrev pub invariant-loop-turns : goal.invariant-loop-turns
invariant-loop-turns l = record {
  acts : fold (after_entry (stepped l.programs)) l.self.world (drop l.turns-index l.entries) ≡ fold (after_entry (stepped l.programs)) l.fn.self.world l.entries;
  grows : length l.self.world.lines + owed l.self.world.partition.state + (l.fn.self.limits.vps + 12) * turns_of (drop l.turns-index l.entries) ≤ length l.fn.self.world.lines + owed l.fn.self.world.partition.state + (l.fn.self.limits.vps + 12) * turns_of l.entries;
  fits : Fits l.programs l.self.world.vps;
  room : l.self.room ≡ l.fn.self.room;
  limits : l.self.limits ≡ l.fn.self.limits;
}
