use Rattle.std.proofs.Common.{◌∙◌, ◌+◌, ◌<◌, ℕ, List, drop, take, sym, ap, rules}
use Rattle.std.proofs.lemmas.List.{take_more_set}
use Rattle.vsm_core.specs.Access.{Decision}
use Rattle.vsm_core.specs.Attempt.{leaves, polled}
use Rattle.vsm_core.specs.Controllers.{vector_words}
use Rattle.vsm_core.specs.Outcomes.{Origin}
use Rattle.vsm_core.specs.Tree.{Tree, after, takes, then_}
use Rattle.attempt.specs.declared.path.Aim.{Aim}
use Rattle.attempt.specs.declared.path.Path.{Path}
use Rattle.attempt.specs.declared.stage.Stage.{Stage}
use Rattle.attempt.specs.declared.under.Under.{Under}
use Rattle.attempt.specs.Paths.{path_rest, reached_rest}
use Rattle.attempt.specs.Rests.{stage_rest}
use Rattle.attempt.specs.Results.{granted_of, result_of}
use Rattle.attempt.specs.Plans.{planned}
use Rattle.attempt.specs.Views.{origin_of}
use Rattle.attempt.proofs.Polls.{next-taken}
use Rattle.attempt.proofs.Puts.{asks-same}
use Rattle.attempt.proofs.Steps.{after-then, path-asks}
use Rattle.attempt.proofs.state.VpState.resume.Goals as goal

pub returns-in-Access-clause-rest : goal.returns-in-Access-clause-rest
returns-in-Access-clause-rest c =
    let from : Origin = origin_of c.args.self.now in
    let u : Under = c.args.under.now in
    let path : Path = u.path in
    let r = c.resume-reached in
    c.reached.ensures.rest
    ∙ ap (λ (aim : Aim). then_ (reached_rest r.new.self r.result)
    (leaves from aim.gva.0 (granted_of from.state u.op))) r.ensures.aim
    ∙ ap (λ (t : Tree Decision). then_ t (leaves from path.aim.gva.0 (granted_of from.state u.op))) r.ensures.rest
    ∙ sym (after-then (path_rest path) (leaves from path.aim.gva.0 (granted_of from.state u.op)) c.args.answer
    (path-asks path))
    ∙ ap (λ (s : Stage). after (stage_rest from u s) c.args.answer) (sym c.in-Access.is)

pub returns-in-Make-clause-rest : goal.returns-in-Make-clause-rest
returns-in-Make-clause-rest c =
    let from : Origin = origin_of c.args.self.now in
    let u : Under = c.args.under.now in
    c.made.ensures.rest
    ∙ asks-same (planned from.number u.output u.plan) (result_of from u) 0 c.args.answer
    ∙ ap (λ (s : Stage). after (stage_rest from u s) c.args.answer) (sym c.in-Make.is)

pub returns-in-Take-clause-rest : goal.returns-in-Take-clause-rest
returns-in-Take-clause-rest c =
    let from : Origin = origin_of c.args.self.now in
    let u : Under = c.args.under.now in
    let count : ℕ = c.in-Take.count in
    let low : count < 8 = rw c.in-Take.is at c.requires.is in
    let next = next-taken count low in
    c.taken.ensures.rest
    ∙ ap (λ (found : List ℕ). takes (drop (count + 1) vector_words) found (polled from))
    (take_more_set u.taken count c.args.answer (search rules))
    ∙ sym (ap (λ words. after (takes words (take count u.taken) (polled from)) c.args.answer) next)
    ∙ ap (λ (s : Stage). after (stage_rest from u s) c.args.answer) (sym c.in-Take.is)
