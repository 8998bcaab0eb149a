use Rattle.vsm_core.proofs.FewEntries.{few-entries}
use Rattle.vsm_core.proofs.laws.requests_add_few_entries.Goals as goal

pub returns : goal.returns
returns c = few-entries
