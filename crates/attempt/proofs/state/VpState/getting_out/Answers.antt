use Rattle.std.proofs.Common.{◌≡◌, sym, subst, rules}
use Rattle.vsm_core.specs.Outcomes.{Origin}
use Rattle.attempt.specs.declared.stage.Decided.{Decided}
use Rattle.attempt.specs.declared.stage.Plan.{Plan}
use Rattle.attempt.specs.declared.under.Under.{Under}
use Rattle.attempt.specs.Plans.{PlanIs}
use Rattle.attempt.specs.Rests.{DecidedIs, StageIs}
use Rattle.attempt.specs.Unders.{made_by}
use Rattle.attempt.specs.Views.{origin_of}
use Rattle.attempt.proofs.state.VpState.getting_out.Goals as goal

made-is : (from : Origin) (old new : Under) (plan : Plan) (decided : Decided) → new ≡ made_by old plan decided
    → PlanIs plan → ((u : Under) → DecidedIs from u decided) → StageIs from new
made-is from old new plan decided e is decides =
    subst (λ (u : Under). StageIs from u) (sym e) (record { plan = is; decided = decides (made_by old plan decided) })

pub returns : goal.returns
returns c =
    let from = origin_of c.args.self.now in
    let is = made-is from (record c.args.under.now { output = _ }) _ _ _ c.make.ensures c.put_words.ensures.is.is
    (c.decided_by.ensures.is from) in
    record { rest = search rules; is = is; op = search rules }
