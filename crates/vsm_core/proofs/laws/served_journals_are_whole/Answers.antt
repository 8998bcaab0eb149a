use Rattle.vsm_core.proofs.ServedBlocks.{served-whole}
use Rattle.vsm_core.proofs.laws.served_journals_are_whole.Goals as goal

pub returns : goal.returns
returns c = served-whole
