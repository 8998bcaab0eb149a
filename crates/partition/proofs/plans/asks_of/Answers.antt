use Rattle.std.proofs.Common.{rules, arith, sym, ◌∙◌}
use Rattle.partition.proofs.Asks.{within_push, passes}
use Rattle.partition.proofs.plans.asks_of.Goals as goal

pub loop-page-preserved : goal.loop-page-preserved
loop-page-preserved c =
    let p = passes c.args.count c.loop-page.page-index c.args.pages.now (omega (arith, c.loop-page-test.true)) (sym c.page_refusal.ensures ∙ c.in_default.is) in
    record {
      asks = search rules;
      count = search rules;
      within = rw c.push.ensures.items (within_push _ _ _ c.loop-page.invariant.within (search rules));
      acted = omega (arith, p.acted, c.loop-page.invariant.acted);
      refusal = sym p.refusal ∙ c.loop-page.invariant.refusal;
    }
