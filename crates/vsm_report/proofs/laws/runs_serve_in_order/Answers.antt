use Rattle.vsm_report.proofs.Serving.{served-are, flat-whole, flat-masks}
use Rattle.vsm_report.proofs.Stepping.{flat-journal}
use Rattle.vsm_report.proofs.laws.runs_serve_in_order.Goals as goal

pub returns-clause-served : goal.returns-clause-served
returns-clause-served c = served-are

pub returns-clause-journal : goal.returns-clause-journal
returns-clause-journal c = flat-journal

pub returns-clause-whole : goal.returns-clause-whole
returns-clause-whole c = flat-whole

pub returns-clause-masks : goal.returns-clause-masks
returns-clause-masks c = flat-masks
