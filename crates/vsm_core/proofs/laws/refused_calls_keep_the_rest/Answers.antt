use Rattle.vsm_core.proofs.KeptRefusals.{refused-call-keeps}
use Rattle.vsm_core.proofs.laws.refused_calls_keep_the_rest.Goals as goal

pub returns : goal.returns
returns c = refused-call-keeps
