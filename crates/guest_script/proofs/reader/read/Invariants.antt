use Rattle.std.proofs.Common.{◌≡◌, length}
use Rattle.guest_script.specs.Lines.{lines_of}
use Rattle.guest_script.specs.Grammar.{said_by, script}
use Rattle.guest_script.specs.Sound.{IsSound}
use Rattle.guest_script.proofs.reader.read.Given as goal

abbrev pub invariant-loop-rest : goal.invariant-loop-rest
invariant-loop-rest l = (said_by l.reading l.number (lines_of l.rest) ≡ script l.bytes) × IsSound l.reading

abbrev pub decreases-loop-rest : goal.decreases-loop-rest
decreases-loop-rest l = length l.rest
