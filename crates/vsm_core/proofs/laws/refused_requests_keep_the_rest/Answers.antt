use Rattle.vsm_core.proofs.KeptRefusals.{refused-so, refusal-keeps}
use Rattle.vsm_core.proofs.laws.refused_requests_keep_the_rest.Goals as goal

pub returns-clause-partition : goal.returns-clause-partition
returns-clause-partition c = refused-so

pub returns-clause-processor : goal.returns-clause-processor
returns-clause-processor c = refusal-keeps
