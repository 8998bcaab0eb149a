-- The calls that get and set registers: what they name, what refuses them, and what each element does (TLFS, HvCallGetVpRegisters and HvCallSetVpRegisters; the order of the checks is this project's own).
use Rattle.std.specs.Prelude.{ℕ, ◌+◌, ◌*◌, ◌/◌, ◌-◌, ◌%◌, ◌^◌, ◌==◌, ◌&&◌, Bool, true, false, not, nat_le, Option, Some, None, is_none, List, [], ◌∷◌, ◌++◌, map, find, flat_map, fold, take, drop}
use Rattle.vsm_base.specs.declared.name.Name.{Name}
use Rattle.vsm_base.specs.declared.name.Name.TheVariants as names
use Rattle.vsm_base.specs.Names.{numbered}
use Rattle.vsm_base.specs.declared.places.Vtl.{Vtl}
use Rattle.vsm_base.specs.declared.places.Vtl.TheVariants.{Zero, One}
use Rattle.vsm_base.specs.declared.status.HvStatus.{HvStatus}
use Rattle.vsm_base.specs.declared.status.TheConstants.HvStatus as statuses
use Rattle.vsm_core.specs.declared.mark.What.TheVariants.{Part}
use Rattle.vsm_core.specs.declared.register.CallRegister.{CallRegister}
use Rattle.vsm_core.specs.declared.register.CallRegister.TheVariants.{Kept, EndOfMessage, CodePageOffsets, VpStatus, PartitionStatus, Capabilities, PartitionConfig}
use Rattle.vsm_core.specs.declared.request.PartCall.{PartCall}
use Rattle.vsm_core.specs.declared.request.PartCall.TheVariants.{ReadStatus, ReadConfig, WriteConfig}
use Rattle.vsm_core.specs.Calls.{Check, check, first_failed, count_in, start_in}
use Rattle.vsm_core.specs.Fills.{Cached}
use Rattle.vsm_core.specs.Hypercalls.{input_value, result_with}
use Rattle.vsm_core.specs.Outcomes.{Origin, Outcome, empties, outcome_at}
use Rattle.vsm_core.specs.Partition.{named, index_of, is_other_partition}
use Rattle.vsm_core.specs.Registers.{is_legal, get as get_in, put as put_in}
use Rattle.vsm_core.specs.Reps.{RepEnd, Refused, GoesOn, Complete, slice_past, acting, refusing, rep_end, with_start}
use Rattle.vsm_core.specs.State.{State, put_legal}
use Rattle.vsm_core.specs.Status.{vp_status, capabilities, code_page_offsets}
use Rattle.vsm_core.specs.Switch.{is_zero}
use Rattle.vsm_core.specs.Targets.{is_byte_form, target_level, is_above}

-- the registers that these calls name beside those that a processor keeps, by their numbers
abbrev pub own_number : CallRegister → ℕ
own_number (Kept name) = 0
own_number EndOfMessage = 0x000A_0014
own_number CodePageOffsets = 0x000D_0002
own_number VpStatus = 0x000D_0003
own_number PartitionStatus = 0x000D_0004
own_number Capabilities = 0x000D_0006
own_number PartitionConfig = 0x000D_0007

unfoldable pub own_registers : List CallRegister
own_registers = EndOfMessage ∷ CodePageOffsets ∷ VpStatus ∷ PartitionStatus ∷ Capabilities ∷ PartitionConfig ∷ []

abbrev pub kept_or : Option Name → Option CallRegister → Option CallRegister
kept_or (Some name) other = Some (Kept name)
kept_or None other = other

-- the register of a number, if there is one
unfoldable pub register_of : ℕ → Option CallRegister
register_of number = kept_or (numbered number) (find (λ register. own_number register == number) own_registers)

-- a register is one of level 1 alone, one of the partition, one that isn't written
abbrev pub is_level_one : CallRegister → Bool
is_level_one (Kept names.CrInterceptControl) = true
is_level_one (Kept names.CrInterceptCr0Mask) = true
is_level_one (Kept names.CrInterceptCr4Mask) = true
is_level_one PartitionConfig = true
is_level_one _ = false

abbrev pub is_partitions : CallRegister → Bool
is_partitions PartitionStatus = true
is_partitions PartitionConfig = true
is_partitions _ = false

abbrev pub is_end_of_message : CallRegister → Bool
is_end_of_message EndOfMessage = true
is_end_of_message _ = false

abbrev pub is_read_alone : CallRegister → Bool
is_read_alone CodePageOffsets = true
is_read_alone VpStatus = true
is_read_alone PartitionStatus = true
is_read_alone Capabilities = true
is_read_alone _ = false

-- Rip of the caller's own level
abbrev pub is_own_rip : Vtl → Vtl → CallRegister → Bool
is_own_rip Zero Zero (Kept names.Rip) = true
is_own_rip One One (Kept names.Rip) = true
is_own_rip caller target register = false

-- a register takes a value that has no must-be-zero bit
abbrev pub takes_value : ℕ → CallRegister → Bool
takes_value value (Kept name) = is_legal name value
takes_value value _ = true

-- a number names such a register
abbrev pub names_one : (CallRegister → Bool) → Option CallRegister → Bool
names_one test None = false
names_one test (Some register) = test register

-- the checks of a header's two words, where there are so many processors
abbrev pub register_checks : (vps by : ℕ) → Vtl → List ℕ → List Check
register_checks vps by caller header =
    check statuses.INVALID_PARTITION_ID (is_other_partition header) ∷
    check statuses.INVALID_VP_INDEX (nat_le vps (named by (index_of header))) ∷
    check statuses.INVALID_VP_STATE (not (named by (index_of header) == by)) ∷
    check statuses.INVALID_PARAMETER (not (is_byte_form header)) ∷
    check statuses.ACCESS_DENIED (is_above (target_level caller header) caller) ∷ []

-- the checks of what an element names, of a call of so many elements
abbrev pub name_checks : (caller target : Vtl) → ℕ → Option CallRegister → List Check
name_checks caller target count register =
    check statuses.INVALID_PARAMETER (is_none register) ∷
    check statuses.INVALID_PARAMETER (names_one is_partitions register && not (count == 1)) ∷
    check statuses.ACCESS_DENIED (names_one is_level_one register && is_zero caller) ∷
    check statuses.INVALID_PARAMETER (names_one is_level_one register && is_zero target) ∷
    check statuses.INVALID_PARAMETER (names_one is_end_of_message register) ∷ []

-- an element of a call that sets registers: the register's number, whether its padding is zero, and the value
pub record Setting : Type 0 where
  pub number : ℕ
  pub padded : Bool
  pub value : ℕ

abbrev pub setting_of : ℕ → ℕ → ℕ → ℕ → Setting
setting_of first second third fourth = record {
  number = first % 2 ^ 32;
  padded = (first / 2 ^ 32 == 0) && (second == 0);
  value = third + 2 ^ 64 * fourth;
}

-- four words have an element
abbrev pub settings : List ℕ → List Setting
settings (first ∷ second ∷ third ∷ fourth ∷ words) = setting_of first second third fourth ∷ settings words
settings _ = []

abbrev pub setting_checks : (caller target : Vtl) → ℕ → Setting → List Check
setting_checks caller target count s =
    name_checks caller target count (register_of s.number) ++
    check statuses.INVALID_PARAMETER (not s.padded) ∷
    check statuses.INVALID_PARAMETER (names_one is_read_alone (register_of s.number)) ∷
    check statuses.INVALID_PARAMETER (names_one (is_own_rip caller target) (register_of s.number)) ∷
    check statuses.INVALID_REGISTER_VALUE (not (names_one (takes_value s.value) (register_of s.number))) ∷ []

abbrev pub set_refusal : (caller target : Vtl) → ℕ → Setting → Option HvStatus
set_refusal caller target count s = first_failed (setting_checks caller target count s)

abbrev pub put_at : State → Vtl → Name → ℕ → State
put_at state level name value = record state { registers = put_in state.registers level name value }

abbrev pub set_named : State → Vtl → Option CallRegister → ℕ → State
set_named state target (Some (Kept name)) value = put_at state target name value
set_named state target _ value = state

-- a register of a level is set, and what that does to the level's translations
abbrev pub set_one : Vtl → State → Setting → State
set_one target state s = set_named state target (register_of s.number) s.value

abbrev pub emptied_by : Vtl → Option CallRegister → List Cached
emptied_by target (Some (Kept name)) = empties target name
emptied_by target _ = []

abbrev pub all_set : Vtl → State → List Setting → State
all_set target state settings = fold (set_one target) state settings

abbrev pub all_emptied : Vtl → List Setting → List Cached
all_emptied target settings = flat_map (λ (s : Setting). emptied_by target (register_of s.number)) settings

-- an element of a call that gets registers is half a word, the low half first; the first word that was read may begin with an element of the slice before
abbrev pub halves : List ℕ → List ℕ
halves [] = []
halves (word ∷ words) = word % 2 ^ 32 ∷ word / 2 ^ 32 ∷ halves words

abbrev pub numbers : (start past : ℕ) → List ℕ → List ℕ
numbers start past words = take (past - start) (drop (start % 2) (halves words))

abbrev pub get_refusal : (caller target : Vtl) → ℕ → ℕ → Option HvStatus
get_refusal caller target count number = first_failed (name_checks caller target count (register_of number))

-- what a register of a level has; that of the partition is known there alone
abbrev pub value_in_call : State → Vtl → CallRegister → ℕ
value_in_call state target (Kept name) = get_in state.registers target name
value_in_call state target CodePageOffsets = code_page_offsets 0x10 0x20
value_in_call state target VpStatus = vp_status state.active state.enabled
value_in_call state target Capabilities = capabilities true true
value_in_call state target _ = 0

abbrev pub value_named : State → Vtl → Option CallRegister → ℕ
value_named state target None = 0
value_named state target (Some register) = value_in_call state target register

-- the two words that an element puts out
abbrev pub value_words : ℕ → List ℕ
value_words value = value % 2 ^ 64 ∷ value / 2 ^ 64 ∷ []

abbrev pub got_words : State → Vtl → List ℕ → List ℕ
got_words state target numbers = flat_map (λ number. value_words (value_named state target (register_of number))) numbers

-- a register that the partition alone knows is asked for there, and the partition's configuration is written there
abbrev pub read_call : Option CallRegister → Option PartCall
read_call (Some PartitionStatus) = Some ReadStatus
read_call (Some PartitionConfig) = Some ReadConfig
read_call _ = None

abbrev pub write_call : Option CallRegister → ℕ → Option PartCall
write_call (Some PartitionConfig) value = Some (WriteConfig value)
write_call _ value = None

-- unless something refuses the element
abbrev pub unless_refused : Option HvStatus → Option PartCall → Option PartCall
unless_refused None call = call
unless_refused (Some status) call = None

-- what a slice asks of the partition: a call that names a register of the partition has no other element
abbrev pub look_in : (caller target : Vtl) → ℕ → List ℕ → Option PartCall
look_in caller target count [] = None
look_in caller target count (number ∷ numbers) = unless_refused (get_refusal caller target count number) (read_call (register_of number))

abbrev pub write_in : (caller target : Vtl) → ℕ → List Setting → Option PartCall
write_in caller target count [] = None
write_in caller target count (s ∷ settings) = unless_refused (set_refusal caller target count s) (write_call (register_of s.number) s.value)

-- a call goes on at another element by the same operation: the input value tells where
abbrev pub part_outcome : Origin → State → List Cached → ℕ → Outcome
part_outcome from state does next = outcome_at from (Part next) (put_legal state names.Rcx (with_start (input_value from.state) next)) does

-- what a slice comes to that has led to this state
abbrev pub slice_outcome : Origin → State → List Cached → RepEnd → Outcome
slice_outcome from state does (Refused status done) = result_with from state does status done
slice_outcome from state does (GoesOn next) = part_outcome from state does next
slice_outcome from state does (Complete done) = result_with from state does statuses.SUCCESS done

-- of a caller's slice: how many elements the call has, the first of the slice, and where the slice ends
abbrev pub count_of : Origin → ℕ
count_of from = count_in (input_value from.state)

abbrev pub start_of : Origin → ℕ
start_of from = start_in (input_value from.state)

abbrev pub past_of : Origin → ℕ
past_of from = slice_past (start_of from) (count_of from)

abbrev pub header_refusal : Origin → List ℕ → Option HvStatus
header_refusal from header = first_failed (register_checks from.vps from.number from.state.active header)

-- the elements of a slice, each with what refuses it
abbrev pub set_refusals : Origin → Vtl → List Setting → List (Option HvStatus)
set_refusals from target settings = map (set_refusal from.state.active target (count_of from)) settings

abbrev pub get_refusals : Origin → Vtl → List ℕ → List (Option HvStatus)
get_refusals from target numbers = map (get_refusal from.state.active target (count_of from)) numbers

-- the end of a slice, by what refuses its elements
abbrev pub slice_end : Origin → List (Option HvStatus) → RepEnd
slice_end from refusals = rep_end (start_of from) (count_of from) (acting refusals) (refusing refusals)

-- the registers of a slice are set, up to the first element that is refused
abbrev pub set_slice : Origin → Vtl → List Setting → Outcome
set_slice from target settings =
    slice_outcome from
    (all_set target from.state (take (acting (set_refusals from target settings)) settings))
    (all_emptied target (take (acting (set_refusals from target settings)) settings))
    (slice_end from (set_refusals from target settings))

-- the numbers of a slice of a call that gets registers, what it puts out for those before the first that is refused, and its end
abbrev pub slice_numbers : Origin → List ℕ → List ℕ
slice_numbers from words = numbers (start_of from) (past_of from) words

abbrev pub slice_output : Origin → Vtl → List ℕ → List ℕ
slice_output from target numbers = got_words from.state target (take (acting (get_refusals from target numbers)) numbers)

abbrev pub got_slice : Origin → Vtl → List ℕ → Outcome
got_slice from target numbers = slice_outcome from from.state [] (slice_end from (get_refusals from target numbers))
