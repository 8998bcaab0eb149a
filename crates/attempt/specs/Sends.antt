-- How a call goes on that requests an interrupt of processors.
use Rattle.vsm_core.specs.Hypercalls.{result_outcome}
use Rattle.vsm_core.specs.Outcomes.{Origin, Outcome}
use Rattle.vsm_core.specs.Tree.{Tree, Ends}
use Rattle.attempt.specs.declared.stage.Sends.{Sends}
use Rattle.attempt.specs.declared.stage.Sends.TheVariants.{Post, Over}
use Rattle.attempt.specs.Calls.{SendIs, sends_now}

-- what is left outside of accesses
abbrev pub sends_rest : Origin → Sends → Tree Outcome
sends_rest from (Post sending) = sends_now from sending
sends_rest from (Over status) = Ends (result_outcome from from.state status 0)

abbrev pub SendsIs : Origin → Sends → Type 0
SendsIs from (Post sending) = SendIs from sending
SendsIs from (Over status) = Unit {0}
