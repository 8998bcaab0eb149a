use Rattle.std.proofs.Common.{ℕ, ◌+◌, Bool, length, ap, sym, ◌∙◌, arith}
use Rattle.partition.specs.PartView.{is_running}
use Rattle.partition.proofs.Counted.{counted-yes, counted-no, counted-all}
use Rattle.partition.proofs.running.running_of.Goals as goal
use Rattle.partition.proofs.running.running_of.Goals.{then-is_running, else-is_running}

pub loop-vp-preserved : goal.loop-vp-preserved
loop-vp-preserved c =
    let runs : ℕ → Bool = is_running c.args.state.now c.args.ended.now in
    let n : ℕ = length c.args.state.now.vps in
    elim c.if-is_running.branch [
      | then-is_running w ↦ record {
        count = w.count-is ∙ ap (λ x. x + 1) c.loop-vp.invariant.count ∙ sym (counted-yes runs n c.loop-vp.vp (omega arith) (sym c.is_running.ensures ∙ w.if-is_running.true));
        few = omega arith;
      }
      | else-is_running w ↦ record {
        count = w.count-is ∙ c.loop-vp.invariant.count ∙ sym (counted-no runs n c.loop-vp.vp (omega arith) (sym c.is_running.ensures ∙ w.if-is_running.false));
        few = omega arith;
      }
    ]

pub returns : goal.returns
returns c = c.loop-vp.invariant.count ∙ counted-all (is_running c.args.state.now c.args.ended.now) (length c.args.state.now.vps) c.loop-vp.vp (omega arith)
