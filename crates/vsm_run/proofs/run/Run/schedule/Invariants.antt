use Rattle.std.proofs.Common.{◌≡◌, ◌≤◌, ◌+◌, ◌*◌, length, drop, fold}
use Rattle.guest_script.specs.Schedules.{all_turns}
use Rattle.vsm_core.specs.Protection.{owed}
use Rattle.vsm_report.specs.Schedule.{after_line}
use Rattle.vsm_report.specs.Trace.{stepped}
use Rattle.vsm_run.specs.Fits.{Fits}
use Rattle.vsm_run.proofs.run.Run.schedule.Given as goal

abbrev pub invariant-loop-entries : goal.invariant-loop-entries
invariant-loop-entries l = record {
  acts : fold (after_line (stepped l.programs)) l.self.world (drop l.entries-index l.lines) ≡ fold (after_line (stepped l.programs)) l.fn.self.world l.lines;
  grows : length l.self.world.lines + owed l.self.world.partition.state + (l.fn.self.limits.vps + 12) * all_turns (drop l.entries-index l.lines) ≤ length l.fn.self.world.lines + owed l.fn.self.world.partition.state + (l.fn.self.limits.vps + 12) * all_turns l.lines;
  fits : Fits l.programs l.self.world.vps;
  room : l.self.room ≡ l.fn.self.room;
  limits : l.self.limits ≡ l.fn.self.limits;
}
