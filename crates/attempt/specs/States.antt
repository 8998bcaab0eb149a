-- A processor's state, by the parts that hold it.
use Rattle.vtl_state.specs.States.{state_of}
use Rattle.vsm_core.specs.Controllers.{Controllers}
use Rattle.attempt.specs.declared.state.Controllers.{Controllers as Parts}
use Rattle.attempt.specs.declared.state.VpState.TheInside.{Inside}
use Rattle.attempt.specs.Views.{VpView}

abbrev pub held_of : Parts → Controllers
held_of parts = record { zero = parts.zero; one = parts.one; waiting = parts.synic.waiting }

abbrev pub view_of : Inside → VpView
view_of s = record {
  limits = s.limits;
  number = s.number.0;
  state = state_of s.bank s.levels;
  controllers = held_of s.controllers;
  room = s.controllers.synic.room;
}
