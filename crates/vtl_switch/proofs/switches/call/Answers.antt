use Rattle.std.proofs.Common.{rules, ◌≡◌, IsTrue, ap}
use Rattle.vsm_core.specs.State.{State}
use Rattle.vsm_core.specs.Switch.{may_call, called}
use Rattle.vtl_state.specs.States.{state_of}
use Rattle.vtl_switch.proofs.Kept.{call-keeps}
use Rattle.vtl_switch.proofs.switches.call.Goals as goal

pub returns-clause-stays : goal.returns-clause-stays
returns-clause-stays c =
    let before : State = state_of c.args.bank.now c.args.levels.now in
    let lawful : IsTrue (may_call before) = search rules in
    let state : state_of c.go_on.new.bank c.begin_at.new.self ≡ called before = search rules in
    call-keeps before c.go_on.new.bank lawful (ap (λ (s : State). s.registers) state)
