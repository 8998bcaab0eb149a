-- A processor's state, as far as the operations that are built reach: its registers, the level that is active, and whether it has level 1.
use Rattle.std.specs.Prelude.{ℕ, ◌+◌, ◌/◌, ◌%◌, ◌^◌, ◌==◌, ◌||◌, Bool, true, false, if◌then◌else◌}
use Rattle.vsm_base.specs.declared.name.Name.{Name}
use Rattle.vsm_base.specs.declared.name.Name.TheVariants as names
use Rattle.vsm_base.specs.Names.{is_general}
use Rattle.vsm_base.specs.declared.places.Vtl.{Vtl}
use Rattle.vsm_base.specs.declared.places.Vtl.TheVariants.{Zero}
use Rattle.vsm_core.specs.declared.operation.Operand.{Operand}
use Rattle.vsm_core.specs.declared.operation.Operand.TheVariants.{Number, Register}
use Rattle.vsm_core.specs.Registers.{Registers, is_legal, opening, get as get_in, put as put_in}

pub record State : Type 0 where
  pub registers : Registers
  pub active : Vtl
  pub enabled : Bool

abbrev pub get : State → Name → ℕ
get state name = get_in state.registers state.active name

abbrev pub put : State → Name → ℕ → State
put state name value = record state { registers = put_in state.registers state.active name value }

-- a register takes no value that has a must-be-zero bit
abbrev pub put_legal : State → Name → ℕ → State
put_legal state name value = if is_legal name value then put state name value else state

-- the low 64 bits of a register
abbrev pub word_of : State → Name → ℕ
word_of state name = get state name % 2 ^ 64

-- the operation where the active level's program stands
abbrev pub rip_of : State → ℕ
rip_of state = word_of state names.Rip

-- the active level's program stands there
abbrev pub gone_to : State → ℕ → State
gone_to state rip = put_legal state names.Rip rip

abbrev pub gone_on : State → State
gone_on state = gone_to state (rip_of state + 1)

-- the privilege level: the two low bits of the code segment's selector
abbrev pub privilege_of : State → ℕ
privilege_of state = get state names.Cs / 2 ^ 96 % 4

-- the registers that every privilege level may name
abbrev pub is_free : Name → Bool
is_free names.Rsp = true
is_free names.Rflags = true
is_free name = is_general name

abbrev pub may_name : State → Name → Bool
may_name state name = (privilege_of state == 0) || is_free name

-- what a store writes: the number, or the low 64 bits of the register
abbrev pub operand : State → Operand → ℕ
operand state (Number value) = value
operand state (Register name) = word_of state name

unfoldable pub opening_state : State
opening_state = record { registers = opening; active = Zero; enabled = false }
