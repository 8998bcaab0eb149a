use Rattle.std.proofs.Common.{rules, ◌≡◌, IsTrue, ap}
use Rattle.vsm_core.specs.State.{State}
use Rattle.vsm_core.specs.Switch.{may_return, returned}
use Rattle.vtl_state.specs.States.{state_of}
use Rattle.vtl_switch.proofs.Kept.{return-keeps}
use Rattle.vtl_switch.proofs.switches.give_back.Goals as goal

pub returns-clause-stays : goal.returns-clause-stays
returns-clause-stays c =
    let before : State = state_of c.args.bank.now c.args.levels.now in
    let lawful : IsTrue (may_return before) = search rules in
    let state : state_of c.give.new.bank c.begin_at.new.self ≡ returned before c.args.pair = search rules in
    return-keeps before c.args.pair c.give.new.bank lawful (ap (λ (s : State). s.registers) state)
