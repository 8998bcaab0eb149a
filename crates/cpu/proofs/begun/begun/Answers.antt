use Rattle.std.proofs.Common.{◌∙◌, refl, sym, ap, inl}
use Rattle.vsm_core.specs.Attempt.{attempt}
use Rattle.attempt.specs.Views.{origin_of}
use Rattle.cpu.proofs.Ends.{at-once}
use Rattle.cpu.proofs.Leading.{begun}
use Rattle.cpu.proofs.begun.begun.Goals as goal

pub returns-then-not-acting-clause-means : goal.returns-then-not-acting-clause-means
returns-then-not-acting-clause-means c = λ heard log m.
    let off = rw c.if-not-acting.true at m in
    let rest = c.begin.ensures.rest ∙ ap (attempt (origin_of c.args.state.now)) (sym c.begin.ensures.op) in
    begun c.args.state.now c.begin.new.under heard log c.requires.vp c.requires.vps off.2 off.0 c.begin.ensures.is rest
    (inl off.1)

pub returns-then-not-acting-clause-kept : goal.returns-then-not-acting-clause-kept
returns-then-not-acting-clause-kept c = λ grant ends again.
    let rest = c.begin.ensures.rest ∙ ap (attempt (origin_of c.args.state.now)) (sym c.begin.ensures.op) in
    absurd (at-once (origin_of c.args.state.now) c.begin.new.under _ grant refl (sym rest ∙ ends) again)
