use Rattle.std.proofs.Common.{rules}
use Rattle.fabric.specs.Seats.{plain_seat}
use Rattle.vsm_run.proofs.Starting.{take-agrees, take-parts, take-phases, turn-takes}
use Rattle.vsm_run.proofs.acting.take_at.Goals as goal

pub returns-clause-takes : goal.returns-clause-takes
returns-clause-takes c =
    turn-takes c.args.fabric.now.limits c.args.cpu.now c.turn-turn.new.self (plain_seat c.port-port.result) (plain_seat c.turn-turn.new.port) c.args.fabric.now.fabric c.turn-turn.new.port.fabric.now.fabric c.turn-turn.result
    (record { told = search rules; tells = search rules; limits_same = search rules; number = search rules }) c.requires.place.rests c.requires.place.unheard (c.turn-turn.ensures.woken c.requires.waits) _ (search rules)

pub returns-clause-phases : goal.returns-clause-phases
returns-clause-phases c =
    let phases = take-phases c.args.fabric.now.limits c.args.cpu.now c.turn-turn.new.self (plain_seat c.port-port.result) (plain_seat c.turn-turn.new.port) c.args.fabric.now.fabric c.turn-turn.new.port.fabric.now.fabric c.turn-turn.result
    (record { told = search rules; tells = search rules; limits_same = search rules; number = search rules }) c.requires.place.rests c.requires.place.unheard (c.turn-turn.ensures.woken c.requires.waits) (search rules) in
    search (rules, phases)

pub returns-clause-turns : goal.returns-clause-turns
returns-clause-turns c =
    let parts = take-parts c.args.fabric.now.limits c.args.cpu.now c.turn-turn.new.self (plain_seat c.port-port.result) (plain_seat c.turn-turn.new.port) c.args.fabric.now.fabric c.turn-turn.new.port.fabric.now.fabric c.turn-turn.result
    (record { told = search rules; tells = search rules; limits_same = search rules; number = search rules }) c.requires.place.rests c.requires.place.unheard (c.turn-turn.ensures.woken c.requires.waits) in
    let turns = parts.turns in
    search (rules, turns)

pub returns-clause-cleared : goal.returns-clause-cleared
returns-clause-cleared c =
    let parts = take-parts c.args.fabric.now.limits c.args.cpu.now c.turn-turn.new.self (plain_seat c.port-port.result) (plain_seat c.turn-turn.new.port) c.args.fabric.now.fabric c.turn-turn.new.port.fabric.now.fabric c.turn-turn.result
    (record { told = search rules; tells = search rules; limits_same = search rules; number = search rules }) c.requires.place.rests c.requires.place.unheard (c.turn-turn.ensures.woken c.requires.waits) in
    let cleared = parts.cleared in
    search (rules, cleared)

pub returns-clause-agrees : goal.returns-clause-agrees
returns-clause-agrees c =
    let agrees = take-agrees c.args.fabric.now.limits c.args.cpu.now c.turn-turn.new.self (plain_seat c.port-port.result) (plain_seat c.turn-turn.new.port) c.args.fabric.now.fabric c.turn-turn.new.port.fabric.now.fabric c.turn-turn.result
    (record { told = search rules; tells = search rules; limits_same = search rules; number = search rules }) c.requires.place.rests c.requires.place.unheard (c.turn-turn.ensures.woken c.requires.waits) (search rules) in
    search (rules, agrees)
