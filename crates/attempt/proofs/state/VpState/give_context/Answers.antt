use Rattle.std.proofs.Common.{◌≡◌, true, refl, ap}
use Rattle.vsm_core.specs.Contexts.{is_legal_context}
use Rattle.vsm_core.specs.State.{State}
use Rattle.attempt.specs.declared.state.VpState.TheInside.{Inside}
use Rattle.attempt.specs.States.{held_of}
use Rattle.attempt.specs.Views.{VpView}
use Rattle.attempt.proofs.ContextGiven.{context-given}
use Rattle.attempt.proofs.state.VpState.give_context.Goals as goal

abbrev with_state : Inside → State → VpView
with_state s state = record {
  limits = s.limits;
  number = s.number.0;
  state = state;
  controllers =
      held_of s.controllers;
  room = s.controllers.synic.room;
}

pub returns-in-Ok : goal.returns-in-Ok
returns-in-Ok c =
    let i = c.self.inside in
    let legal : is_legal_context c.args.words.now ≡ true = c.in-Ok.ensures.exact.0 refl in
    rw (← c.self.view_is) (ap (with_state i)
    (context-given i.bank i.levels c.args.level c.args.words.now c.in-Ok.context c.enable.result _ legal
    c.in-Ok.ensures.ok c.enable.ensures.exact c.enable.ensures.ok c.enable.ensures.refused))
