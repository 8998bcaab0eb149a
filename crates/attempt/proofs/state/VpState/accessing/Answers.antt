use Rattle.std.proofs.Common.{◌≡◌, ◌∙◌, Option, Some, None, refl, ap, rules}
use Rattle.vsm_core.specs.declared.mark.Grant.{Grant}
use Rattle.vsm_core.specs.declared.mark.GuestFault.{GuestFault}
use Rattle.vsm_core.specs.declared.mark.What.{What}
use Rattle.vsm_core.specs.Access.{Goal, access}
use Rattle.vsm_core.specs.Attempt.{begun, by_access, leaves}
use Rattle.vsm_core.specs.Outcomes.{Origin}
use Rattle.vsm_core.specs.State.{State}
use Rattle.vsm_core.specs.Tree.{then_}
use Rattle.attempt.specs.Paths.{goal_of}
use Rattle.attempt.specs.Results.{granted_of}
use Rattle.attempt.specs.Views.{origin_of}
use Rattle.attempt.proofs.state.VpState.accessing.Goals as goal

begun-none : (from : Origin) (granted : Grant → What × State) (goal : Goal) (fault : Option GuestFault)
    → fault ≡ None → then_ (access goal) (leaves from goal.gva granted) ≡ begun from granted goal fault
begun-none from granted goal None e = refl
begun-none from granted goal (Some fault) e = cc

pub returns-in-Ok : goal.returns-in-Ok
returns-in-Ok c =
    let from = origin_of c.args.self.now in
    let granted = granted_of from.state c.args.under.now.op in
    record {
      rest = begun-none from granted (goal_of c.aim-aim.result) _ c.in-Ok.ensures.ok
          ∙ ap (by_access from granted) c.aim-aim.ensures;
      is = search rules;
      op = search rules;
    }
