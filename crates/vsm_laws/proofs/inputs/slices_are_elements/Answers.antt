use Rattle.vsm_laws.proofs.SliceElements.{masks-at, settings-at, numbers-at}
use Rattle.vsm_laws.proofs.inputs.slices_are_elements.Goals as goal

pub returns-clause-masks : goal.returns-clause-masks
returns-clause-masks c = masks-at

pub returns-clause-settings : goal.returns-clause-settings
returns-clause-settings c = settings-at

pub returns-clause-numbers : goal.returns-clause-numbers
returns-clause-numbers c = numbers-at
