use Rattle.std.proofs.Common.{◌∙◌, sym}
use Rattle.attempt.specs.Views.{origin_of}
use Rattle.cpu.proofs.Settled.{at-end, decided-at, goes-so, in-attempt, marked-sound, settled-so, short-so, vain}
use Rattle.cpu.proofs.processor.Cpu.settle.Goals as goal

pub goes_on-goes_on-requires : goal.goes_on-goes_on-requires
goes_on-goes_on-requires c = (in-attempt _ _ c.self.view_is c.self.invariant c.requires.acting).way.is

pub returns-then-goes_on-clause-new : goal.returns-then-goes_on-clause-new
returns-then-goes_on-clause-new c =
    let on = in-attempt _ _ c.self.view_is c.self.invariant c.requires.acting in
    rw (← c.self.view_is) (goes-so _ on (rw c.if-goes_on.true at c.goes_on-goes_on.ensures.goes)).0

pub returns-then-goes_on-clause-turn : goal.returns-then-goes_on-clause-turn
returns-then-goes_on-clause-turn c =
    let on = in-attempt _ _ c.self.view_is c.self.invariant c.requires.acting in
    rw (← c.self.view_is) (λ asked. (goes-so _ on (rw c.if-goes_on.true at c.goes_on-goes_on.ensures.goes)).1 _)

pub again-requires : goal.again-requires
again-requires c =
    let on = in-attempt _ _ c.self.view_is c.self.invariant c.requires.acting in
    (origin_of c.self.inside.state, decided-at _ on (c.goes_on-goes_on.ensures.end c.if-goes_on.false))

pub mark_again-requires-clause-spins : goal.mark_again-requires-clause-spins
mark_again-requires-clause-spins c =
    let over = rw c.if-goes_on.false at c.goes_on-goes_on.ensures.goes in
    let end = at-end _ _ c.self.view_is c.self.invariant c.requires.acting over in
    rw (← c.self.view_is) (vain _ c.in-Some.grant end (sym c.again.ensures ∙ c.in-Some.is))

pub leave_mark-pace-requires-clause-may : goal.leave_mark-pace-requires-clause-may
leave_mark-pace-requires-clause-may c =
    let over = rw c.if-goes_on.false at c.goes_on-goes_on.ensures.goes in
    (at-end _ _ c.self.view_is c.self.invariant c.requires.acting over).may

pub invariant_of-self : goal.invariant_of-self
invariant_of-self c =
    let over = rw c.if-goes_on.false at c.goes_on-goes_on.ensures.goes in
    let end = at-end _ _ c.self.view_is c.self.invariant c.requires.acting over in
    let left = c.leave_mark-pace.ensures in
    marked-sound _ _ _ end left.state left.log c.self.invariant left.has

pub returns-clause-new : goal.returns-clause-new
returns-clause-new c =
    let over = rw c.if-goes_on.false at c.goes_on-goes_on.ensures.goes in
    let end = at-end _ _ c.self.view_is c.self.invariant c.requires.acting over in
    let left = c.leave_mark-pace.ensures in
    rw (← c.self.view_is) (settled-so _ _ _ end left.state left.log (sym c.again.ensures ∙ c.in_default.is))

pub returns-clause-turn : goal.returns-clause-turn
returns-clause-turn c =
    let over = rw c.if-goes_on.false at c.goes_on-goes_on.ensures.goes in
    let end = at-end _ _ c.self.view_is c.self.invariant c.requires.acting over in
    rw (← c.self.view_is, end.ends) c.leave_mark-pace.ensures.turn

pub returns-clause-short : goal.returns-clause-short
returns-clause-short c =
    let over = rw c.if-goes_on.false at c.goes_on-goes_on.ensures.goes in
    let end = at-end _ _ c.self.view_is c.self.invariant c.requires.acting over in
    let left = c.leave_mark-pace.ensures in
    rw (← c.self.view_is) (short-so _ _ _ end left.state left.log)
