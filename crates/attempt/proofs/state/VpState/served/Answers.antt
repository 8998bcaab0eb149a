use Rattle.std.proofs.Common.{◌≡◌, ◌∙◌, ℕ, Option, Some, List, length, sym, ap, subst, rules}
use Rattle.std.proofs.lemmas.List.{take_at}
use Rattle.vsm_base.specs.declared.places.Vtl.{Vtl}
use Rattle.vsm_core.specs.Contexts.{with_context}
use Rattle.vsm_core.specs.Hypercalls.{own_context, replied, replied_with}
use Rattle.vsm_core.specs.Outcomes.{Origin}
use Rattle.vsm_core.specs.Tree.{Ends}
use Rattle.attempt.specs.declared.under.Under.{Under}
use Rattle.attempt.specs.Rests.{rest_of}
use Rattle.attempt.specs.Results.{reply_outcome}
use Rattle.attempt.specs.Views.{origin_of}
use Rattle.attempt.proofs.state.VpState.served.Goals as goal

pub returns-in-Some : goal.returns-in-Some
returns-in-Some c =
    let from : Origin = origin_of c.args.self.now in
    let reply = c.args.reply.now in
    let context = c.in-Some.context in
    let long : length c.copy_from_slice.new.self ≡ 28 = search rules in
    record {
      rest = subst (λ (u : Under). rest_of from u ≡ Ends (replied from reply)) (sym c.end.ensures)
          (ap (λ (w : List ℕ). Ends (reply_outcome from
          (with_context from.state (Some (context.0, w))) c.bits-value.result))
          (take_at c.copy_from_slice.new.self _ 28 long ∙ c.copy_from_slice.ensures.after)
          ∙ ap (λ v. Ends (reply_outcome from (with_context from.state (Some (context.0, context.1))) v))
          c.bits-value.ensures.value
          ∙ ap (λ (x : Option (Vtl × List ℕ × Option (List ℕ))). Ends
          (replied_with from reply.status reply.done (own_context x))) (sym c.in-Some.is));
      is = search rules;
      op = search rules;
    }
