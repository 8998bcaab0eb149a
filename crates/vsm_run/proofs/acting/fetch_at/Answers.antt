use Rattle.std.proofs.Common.{rules}
use Rattle.fabric.specs.Seats.{plain_seat}
use Rattle.vsm_run.proofs.Starting.{turn-fetches}
use Rattle.vsm_run.proofs.acting.fetch_at.Goals as goal

pub returns-clause-asks : goal.returns-clause-asks
returns-clause-asks c =
    let asks = (turn-fetches c.args.cpu.now c.turn.new.self (plain_seat c.port-port.result) (plain_seat c.turn.new.port) c.turn.result c.requires.taken (c.turn.ensures.woken c.requires.waits)).asks in
    search (rules, asks)
