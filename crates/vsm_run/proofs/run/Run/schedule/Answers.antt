use Rattle.std.proofs.Common.{◌≡◌, ◌≤◌, ◌+◌, ◌*◌, ℕ, List, drop, length, fold, get_or, sym, ap, subst, ◌∙◌, arith}
use Rattle.std.proofs.lemmas.List.{drop_more}
use Rattle.std.proofs.lemmas.List.Sums.{sum_by-drop_more}
use Rattle.vsm_base.specs.declared.places.Limits.{Limits}
use Rattle.vsm_core.specs.Protection.{owed}
use Rattle.guest_script.specs.Schedules.{all_turns, turns_of}
use Rattle.guest_script.specs.declared.script.Turns.{Turns}
use Rattle.vsm_report.specs.Schedule.{after_line}
use Rattle.vsm_report.specs.Trace.{stepped}
use Rattle.vsm_run.proofs.Serves.{times-add}
use Rattle.vsm_run.proofs.run.Run.schedule.Goals as goal

pub loop-entries-preserved : goal.loop-entries-preserved
loop-entries-preserved c =
    let lines = c.args.lines.now in
    let i = c.loop-entries.entries-index in
    let none : List Turns = c.entries-item.result in
    let t : List Turns = get_or lines i none in
    let rest = drop (i + 1) lines in
    let at = drop_more lines i none c.loop-entries-test.true in
    let was = c.loop-entries.self in
    let new = c.line.new.self in
    let act = after_line (stepped c.args.programs.now) in
    let each : ℕ = c.args.self.now.limits.vps + 12 in
    let grows = c.loop-entries.invariant.grows in
    let item : c.as_slice.result.now ≡ t = c.as_slice.ensures ∙ c.entries-item.is in
    let more : length new.world.lines + owed new.world.partition.state ≤ length was.world.lines + owed was.world.partition.state + each * turns_of t =
    subst (λ ts. length new.world.lines + owed new.world.partition.state ≤ length was.world.lines + owed was.world.partition.state + each * turns_of ts) item
    (subst (λ (l : Limits). length new.world.lines + owed new.world.partition.state ≤ length was.world.lines + owed was.world.partition.state + (l.vps + 12) * turns_of c.as_slice.result.now) c.loop-entries.invariant.limits c.line.ensures.grows) in
    let split : each * all_turns (drop i lines) ≡ each * turns_of t + each * all_turns rest = ap (λ n. each * n) (sum_by-drop_more turns_of lines i none c.loop-entries-test.true) ∙ times-add each (turns_of t) (all_turns rest) in
    record {
      acts = ap (λ w. fold act w rest) (c.line.ensures.acts ∙ ap (act was.world) item) ∙ sym (ap (fold act was.world) at) ∙ c.loop-entries.invariant.acts;
      grows = omega arith;
      fits = c.line.ensures.fits;
      room = c.line.ensures.room ∙ c.loop-entries.invariant.room;
      limits = c.line.ensures.limits ∙ c.loop-entries.invariant.limits;
    }
