use Rattle.std.proofs.Common.{◌∙◌}
use Rattle.vsm_main.proofs.answer.Goals as goal

pub returns : goal.returns
returns g c = record { status = c.vsm-status.result; number = c.from.ensures ∙ c.number.ensures; serves = c.vsm-status.ensures }
