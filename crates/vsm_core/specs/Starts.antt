-- A processor that starts: it takes its start word, fetches its contexts, and begins with them (TLFS, HvCallStartVirtualProcessor; which context level 1 begins with, where there are two, is this project's own).
use Rattle.std.specs.Prelude.{ℕ, if◌then◌else◌, Option, Some, None, List, []}
use Rattle.vsm_base.specs.declared.places.Vtl.{Vtl}
use Rattle.vsm_base.specs.declared.places.Vtl.TheVariants.{Zero, One}
use Rattle.vsm_core.specs.declared.event.PendingWord.TheVariants.{Start}
use Rattle.vsm_core.specs.declared.mark.What.TheVariants.{Started}
use Rattle.vsm_core.specs.declared.request.PartCall.TheVariants.{Fetch}
use Rattle.vsm_core.specs.declared.request.Reply.{Reply}
use Rattle.vsm_core.specs.Contexts.{is_legal_context, values_of, placed, has_level, with_context}
use Rattle.vsm_core.specs.Hypercalls.{asked_of}
use Rattle.vsm_core.specs.Outcomes.{Origin, Outcome, outcome_at}
use Rattle.vsm_core.specs.Registers.{with_private}
use Rattle.vsm_core.specs.State.{State}
use Rattle.vsm_core.specs.Tree.{Tree, Ends, Asks, Wants, Taking}

-- level 0's own registers become those of a context; no register has a bit that must be zero
abbrev pub with_zero : State → List ℕ → State
with_zero state words =
    if is_legal_context words then record state { registers = with_private state.registers Zero (placed (values_of words)) } else state

-- level 1 is enabled with the context that has waited for it, if one has
abbrev pub with_waiting : State → Option (List ℕ) → State
with_waiting state None = state
with_waiting state (Some words) = with_context state (Some (One, words))

-- the start's context goes to the level of the start; one that has waited is left aside where that is level 1
abbrev pub with_contexts : State → Vtl → List ℕ → Option (List ℕ) → State
with_contexts state Zero words waiting = with_waiting (with_zero state words) waiting
with_contexts state One words waiting = with_context state (Some (One, words))

-- a level that the processor has is active
abbrev pub active_at : State → Vtl → State
active_at state level = if has_level state level then record state { active = level } else state

abbrev pub started_at : State → Vtl → List ℕ → Option (List ℕ) → State
started_at state level words waiting = active_at (with_contexts state level words waiting) level

-- a reply without contexts leaves the registers as they are
abbrev pub started_by : State → Option (Vtl × List ℕ × Option (List ℕ)) → State
started_by state None = state
started_by state (Some c) = started_at state c.0 c.1 c.2

abbrev pub start_outcome : Origin → Reply → Outcome
start_outcome from reply = outcome_at from Started (started_by from.state reply.context) []

-- the start of a processor whose start word was posted to
abbrev pub start_tree : Origin → Tree Outcome
start_tree from = Asks (Taking Start) (λ _. Wants (asked_of from Fetch) (λ reply. Ends (start_outcome from reply)))
