use Rattle.std.proofs.Common.{refl, sym, ◌∙◌}
use Rattle.attempt.proofs.ContextGiven.{has-level}
use Rattle.attempt.proofs.state.VpState.begin_at.Goals as goal

pub returns-then-enabled : goal.returns-then-enabled
returns-then-enabled c =
    let level = has-level c.self.inside.bank c.self.inside.levels c.args.level in
    rw (← c.self.view_is, c.begin_at.ensures, level ∙ sym c.enabled.ensures ∙ c.if-enabled.true) refl

pub returns-else-enabled : goal.returns-else-enabled
returns-else-enabled c =
    let level = has-level c.self.inside.bank c.self.inside.levels c.args.level in
    rw (← c.self.view_is, level ∙ sym c.enabled.ensures ∙ c.if-enabled.false) refl
