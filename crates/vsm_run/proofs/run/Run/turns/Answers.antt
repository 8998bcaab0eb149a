use Rattle.std.proofs.Common.{◌≡◌, ◌+◌, ◌-◌, ℕ, sym, ap, ◌∙◌, arith}
use Rattle.vsm_base.specs.declared.places.Limits.{Limits}
use Rattle.vsm_report.specs.Schedule.{after_turns}
use Rattle.vsm_report.specs.Trace.{stepped}
use Rattle.vsm_run.proofs.Serves.{times-add}
use Rattle.vsm_run.proofs.Turning.{after_turns-add-one, after_turns-zero}
use Rattle.vsm_run.proofs.run.Run.turns.Goals as goal

pub loop-turn-preserved : goal.loop-turn-preserved
loop-turn-preserved c =
    let act = stepped c.args.programs.now c.args.vp.0 in
    let k = c.args.count - (c.loop-turn._turn + 1) in
    let e : c.args.count - c.loop-turn._turn ≡ k + 1 = omega arith in
    let grows = c.loop-turn.invariant.grows in
    let more = c.act.ensures.grows in
    let limits : c.loop-turn.self.limits.vps ≡ c.args.self.now.limits.vps = ap (λ (l : Limits). l.vps) c.loop-turn.invariant.limits in
    let each : ℕ = c.args.self.now.limits.vps + 12 in
    let times = times-add each c.loop-turn._turn 1 in
    record {
      acts = ap (after_turns act k) c.act.ensures.acts ∙ sym (after_turns-add-one act k c.loop-turn.self.world) ∙ sym (ap (λ j. after_turns act j c.loop-turn.self.world) e) ∙ c.loop-turn.invariant.acts;
      grows = omega arith;
      fits = c.act.ensures.fits;
      room = c.act.ensures.room ∙ c.loop-turn.invariant.room;
      limits = c.act.ensures.limits ∙ c.loop-turn.invariant.limits;
    }

pub returns-clause-acts : goal.returns-clause-acts
returns-clause-acts c =
    let act = stepped c.args.programs.now c.args.vp.0 in
    let e : c.args.count - c.loop-turn._turn ≡ 0 = omega arith in
    sym (after_turns-zero act c.loop-turn.self.world) ∙ sym (ap (λ j. after_turns act j c.loop-turn.self.world) e) ∙ c.loop-turn.invariant.acts
