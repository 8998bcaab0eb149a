-- The state of a processor, by its registers and its levels.
use Rattle.vsm_base.specs.declared.places.Vtl.{Vtl}
use Rattle.vsm_core.specs.Contexts.{enabled_by}
use Rattle.vsm_core.specs.Registers.{Registers}
use Rattle.vsm_core.specs.State.{State}
use Rattle.register_file.specs.Contexts.{context_values}
use Rattle.register_file.specs.declared.context.Context.{Context}
use Rattle.vtl_state.specs.Levels.{LevelsView}

abbrev pub state_of : Registers → LevelsView → State
state_of registers levels = record { registers = registers; active = levels.active; enabled = levels.enabled }

-- a level is enabled: its own registers become the context's, and those that the context doesn't name what they are at the opening
abbrev pub enabled_with : State → Vtl → Context → State
enabled_with state level context = enabled_by state level (context_values context)
