use Rattle.std.proofs.Common.{◌≡◌, ◌≤◌, ◌+◌, ◌*◌, ℕ, false, drop, length, fold, get_or, sym, ap, subst, ◌∙◌, arith}
use Rattle.std.proofs.lemmas.List.{drop_more}
use Rattle.std.proofs.lemmas.List.Sums.{sum_by-drop_more}
use Rattle.vsm_base.specs.declared.places.Limits.{Limits}
use Rattle.vsm_core.specs.Protection.{owed}
use Rattle.guest_script.specs.Schedules.{turns_of}
use Rattle.guest_script.specs.declared.script.Turns.{Turns}
use Rattle.vsm_report.specs.Schedule.{after_entry}
use Rattle.vsm_report.specs.Trace.{stepped}
use Rattle.vsm_run.proofs.Serves.{times-add}
use Rattle.vsm_run.proofs.run.Run.line.Goals as goal

pub loop-turns-preserved : goal.loop-turns-preserved
loop-turns-preserved c =
    let entries = c.args.entries.now in
    let i = c.loop-turns.turns-index in
    let none : Turns = record { vp = record { 0 = 0 }; single = false; count = 0 } in
    let t : Turns = get_or entries i none in
    let rest = drop (i + 1) entries in
    let at = drop_more entries i none c.loop-turns-test.true in
    let was = c.loop-turns.self in
    let new = c.turns.new.self in
    let act = after_entry (stepped c.args.programs.now) in
    let each : ℕ = c.args.self.now.limits.vps + 12 in
    let grows = c.loop-turns.invariant.grows in
    let more : length new.world.lines + owed new.world.partition.state ≤ length was.world.lines + owed was.world.partition.state + each * t.count =
    subst (λ (l : Limits). length new.world.lines + owed new.world.partition.state ≤ length was.world.lines + owed was.world.partition.state + (l.vps + 12) * t.count) c.loop-turns.invariant.limits c.turns.ensures.grows in
    let split : each * turns_of (drop i entries) ≡ each * t.count + each * turns_of rest = ap (λ n. each * n) (sum_by-drop_more (λ (u : Turns). u.count) entries i none c.loop-turns-test.true) ∙ times-add each t.count (turns_of rest) in
    record {
      acts = ap (λ w. fold act w rest) c.turns.ensures.acts ∙ sym (ap (fold act was.world) at) ∙ c.loop-turns.invariant.acts;
      grows = omega arith;
      fits = c.turns.ensures.fits;
      room = c.turns.ensures.room ∙ c.loop-turns.invariant.room;
      limits = c.turns.ensures.limits ∙ c.loop-turns.invariant.limits;
    }
