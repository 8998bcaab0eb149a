use Rattle.vsm_core.proofs.KeptElements.{header-keeps, get-element-keeps, set-element-keeps}
use Rattle.vsm_core.proofs.laws.refused_elements_keep_the_rest.Goals as goal

pub returns-clause-get_header : goal.returns-clause-get_header
returns-clause-get_header c = λ from header words status. header-keeps from status

pub returns-clause-set_header : goal.returns-clause-set_header
returns-clause-set_header c = λ from header words status. header-keeps from status

pub returns-clause-get_element : goal.returns-clause-get_element
returns-clause-get_element c = get-element-keeps

pub returns-clause-set_element : goal.returns-clause-set_element
returns-clause-set_element c = set-element-keeps
