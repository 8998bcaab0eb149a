use Rattle.std.proofs.Common.{◌∙◌, refl, ap, rules}
use Rattle.vsm_core.specs.Attempt.{interrupts}
use Rattle.vsm_core.specs.Outcomes.{Outcome}
use Rattle.vsm_core.specs.Tree.{Tree, Asks, Leaving}
use Rattle.attempt.specs.Rests.{rest_of}
use Rattle.attempt.specs.Views.{origin_of}
use Rattle.attempt.proofs.state.VpState.given.Goals as goal

pub returns-in-EnableVpVtl : goal.returns-in-EnableVpVtl
returns-in-EnableVpVtl c = record {
  rest = ap (rest_of (origin_of c.args.self.now)) c.depart-in-EnableVpVtl.ensures ∙ rw c.in-EnableVpVtl.is refl;
  is = search rules;
  op = search rules;
}

pub returns-in-StartVirtualProcessor : goal.returns-in-StartVirtualProcessor
returns-in-StartVirtualProcessor c = record {
  rest = ap (rest_of (origin_of c.args.self.now)) c.depart-in-StartVirtualProcessor.ensures
      ∙ rw c.in-StartVirtualProcessor.is refl;
  is = search rules;
  op = search rules;
}

pub returns-in-SendSyntheticClusterIpi : goal.returns-in-SendSyntheticClusterIpi
returns-in-SendSyntheticClusterIpi c =
    let sends = c.judged.ensures.rest ∙ ap (interrupts (origin_of c.args.self.now)) c.front_of.ensures in
    record {
      rest = rw c.in-SendSyntheticClusterIpi.is (ap (λ (t : Tree Outcome). Asks Leaving (λ _. t)) sends);
      is = c.judged.ensures.is;
      op = refl;
    }
