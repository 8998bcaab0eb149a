use Rattle.vsm_report.proofs.DigitSteps.{hex_low, hex_halves}
use Rattle.vsm_report.proofs.words.value_piece.Goals as goal

pub returns-then-is_wide : goal.returns-then-is_wide
returns-then-is_wide c = rw (← c.is_wide.ensures, c.if-is_wide.true, c.upper_half.ensures, c.lower_half.ensures) (hex_halves c.args.value)

pub returns-else-is_wide : goal.returns-else-is_wide
returns-else-is_wide c = rw (← c.is_wide.ensures, c.if-is_wide.false, c.lower_half-else-is_wide.ensures) (hex_low 16 c.args.value)
