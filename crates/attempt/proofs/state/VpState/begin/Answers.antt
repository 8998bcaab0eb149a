use Rattle.std.proofs.Common.{◌∙◌, refl}
use Rattle.attempt.proofs.state.VpState.begin.Goals as goal

pub returns-in-Load-clause-rest : goal.returns-in-Load-clause-rest
returns-in-Load-clause-rest c = c.accessing.ensures.rest ∙ rw c.in-Load.is refl

pub returns-in-Spin-clause-rest : goal.returns-in-Spin-clause-rest
returns-in-Spin-clause-rest c = c.accessing-in-Spin.ensures.rest ∙ rw c.in-Spin.is refl

pub returns-in-Store-clause-rest : goal.returns-in-Store-clause-rest
returns-in-Store-clause-rest c = c.accessing-in-Store.ensures.rest ∙ rw (c.in-Store.is, c.operand.ensures) refl

pub returns-in-Exec-clause-rest : goal.returns-in-Exec-clause-rest
returns-in-Exec-clause-rest c = c.accessing-in-Exec.ensures.rest ∙ rw c.in-Exec.is refl
