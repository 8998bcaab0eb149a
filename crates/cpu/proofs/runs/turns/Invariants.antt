use Rattle.std.proofs.Common.{◌≡◌, false}
use Rattle.cpu.specs.Turns.{VpServes, Fits}
use Rattle.cpu.proofs.runs.turns.Given as goal

abbrev pub invariant-turns : goal.invariant-turns
invariant-turns g l = record {
  fits : Fits l.program l.cpu;
  serves : VpServes l.cpu
      (g.P.Port.seat l.port);
  answered : l.cpu.owes ≡ false;
}
