use Rattle.std.proofs.Common.{◌≡◌, ◌+◌, ◌≤◌, ◌<◌, ◌^◌, length, drop, false}
use Rattle.std.specs.Fmt.{digits}
use Rattle.guest_script.proofs.HexSteps.{written}
use Rattle.guest_script.proofs.printer.hex_digits.Given as goal

abbrev pub invariant-loop-rest : goal.invariant-loop-rest
invariant-loop-rest l = record {
  same : written l.at l.rest (drop (l.at + 1) l.buffer) ≡ digits 16 false l.n;
  small : l.rest < 16 ^ (l.at + 1);
  within : l.at ≤ 31;
  whole : length l.buffer ≡ 32;
}

abbrev pub decreases-loop-rest : goal.decreases-loop-rest
decreases-loop-rest l = l.rest
