use Rattle.std.proofs.Common.{◌<◌, subst, rules, arith}
use Rattle.fabric.specs.Seats.{plain_seat}
use Rattle.vsm_base.specs.declared.places.Limits.{Limits}
use Rattle.vsm_core.specs.Processor.{operation_at}
use Rattle.cpu.specs.Turns.{asked_next, turn_of}
use Rattle.vsm_run.proofs.Wholes.{turn-agrees, turn-leads, turn-parts, turn-phases}
use Rattle.vsm_run.proofs.acting.turn_at.Goals as goal

pub returns-clause-leads : goal.returns-clause-leads
returns-clause-leads c =
    let is = c.vp-vp.ensures in
    let part = is.part in
    let first = is.first in
    turn-leads c.args.fabric.now.limits c.args.cpu.now.number (operation_at c.args.program.now c.args.cpu.now.state) c.args.cpu.now c.step-pace.new.self (plain_seat c.port-port.result) (plain_seat c.step-pace.new.port) c.args.fabric.now.fabric c.step-pace.new.port.fabric.now.fabric (turn_of c.step-pace.result (asked_next c.step-pace.new.self))
    (record { told = search rules; tells = search rules; limits_same = search rules; number = search rules }) (record { part = omega arith; first = first; heard = c.requires.heard }) (c.step-pace.ensures.turned c.requires.started) _ (search rules)

pub returns-clause-others : goal.returns-clause-others
returns-clause-others c = λ q apart.
    let is = c.vp-vp.ensures in
    let part = is.part in
    let first = is.first in
    turn-phases c.args.fabric.now.limits c.args.cpu.now.number (operation_at c.args.program.now c.args.cpu.now.state) c.args.cpu.now c.step-pace.new.self (plain_seat c.port-port.result) (plain_seat c.step-pace.new.port) c.args.fabric.now.fabric c.step-pace.new.port.fabric.now.fabric (turn_of c.step-pace.result (asked_next c.step-pace.new.self))
    (record { told = search rules; tells = search rules; limits_same = search rules; number = search rules }) (record { part = omega arith; first = first; heard = c.requires.heard }) (c.step-pace.ensures.turned c.requires.started) _ (search rules) q apart

pub returns-clause-agrees : goal.returns-clause-agrees
returns-clause-agrees c =
    let is = c.vp-vp.ensures in
    let part = is.part in
    let first = is.first in
    let whole = c.port-port.ensures.whole in
    let below : c.args.cpu.now.number < c.args.fabric.now.limits.vps = subst (λ (l : Limits). c.args.cpu.now.number < l.vps) c.requires.limits is.below in
    let phased = whole.phased in
    let sized = whole.sized in
    let agrees = turn-agrees c.args.fabric.now.limits c.args.cpu.now.number (operation_at c.args.program.now c.args.cpu.now.state) c.args.cpu.now c.step-pace.new.self (plain_seat c.port-port.result) (plain_seat c.step-pace.new.port) c.args.fabric.now.fabric c.step-pace.new.port.fabric.now.fabric (turn_of c.step-pace.result (asked_next c.step-pace.new.self))
    (record { told = search rules; tells = search rules; limits_same = search rules; number = search rules }) (record { part = omega arith; first = first; heard = c.requires.heard })
    (search rules) (omega arith) (omega arith) (c.step-pace.ensures.turned c.requires.started) in
    search (rules, agrees)

pub returns-clause-turns : goal.returns-clause-turns
returns-clause-turns c =
    let is = c.vp-vp.ensures in
    let part = is.part in
    let first = is.first in
    let parts = turn-parts c.args.fabric.now.limits c.args.cpu.now.number (operation_at c.args.program.now c.args.cpu.now.state) c.args.cpu.now c.step-pace.new.self (plain_seat c.port-port.result) (plain_seat c.step-pace.new.port) c.args.fabric.now.fabric c.step-pace.new.port.fabric.now.fabric (turn_of c.step-pace.result (asked_next c.step-pace.new.self))
    (record { told = search rules; tells = search rules; limits_same = search rules; number = search rules }) (record { part = omega arith; first = first; heard = c.requires.heard }) (c.step-pace.ensures.turned c.requires.started) in
    let turns = parts.turns in
    search (rules, turns)

pub returns-clause-cleared : goal.returns-clause-cleared
returns-clause-cleared c =
    let is = c.vp-vp.ensures in
    let part = is.part in
    let first = is.first in
    let parts = turn-parts c.args.fabric.now.limits c.args.cpu.now.number (operation_at c.args.program.now c.args.cpu.now.state) c.args.cpu.now c.step-pace.new.self (plain_seat c.port-port.result) (plain_seat c.step-pace.new.port) c.args.fabric.now.fabric c.step-pace.new.port.fabric.now.fabric (turn_of c.step-pace.result (asked_next c.step-pace.new.self))
    (record { told = search rules; tells = search rules; limits_same = search rules; number = search rules }) (record { part = omega arith; first = first; heard = c.requires.heard }) (c.step-pace.ensures.turned c.requires.started) in
    let cleared = parts.cleared in
    search (rules, cleared)
