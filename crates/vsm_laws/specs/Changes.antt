-- Which registers an attempt may change.
use Rattle.std.specs.Prelude.{ℕ, ◌≡◌, ◌==◌, ◌&&◌, ◌||◌, Bool, true, false, not, if◌then◌else◌, Some, is_none, is_some, List, [], ◌∷◌, take, drop}
use Rattle.std.specs.List.{list_any}
use Rattle.vsm_base.specs.Names.{is_shared, number_of}
use Rattle.vsm_base.specs.declared.name.Name.{Name}
use Rattle.vsm_base.specs.declared.name.Name.TheVariants as names
use Rattle.vsm_base.specs.declared.places.Vtl.{Vtl}
use Rattle.vsm_base.specs.declared.places.Vtl.TheVariants.{Zero, One}
use Rattle.vsm_core.specs.Calls.{code_in}
use Rattle.vsm_core.specs.Hypercalls.{input_value}
use Rattle.vsm_core.specs.Keeps.{other_level}
use Rattle.vsm_core.specs.Outcomes.{Origin}
use Rattle.vsm_core.specs.Processor.{Vp, attempted, operation_at, origin_of}
use Rattle.vsm_core.specs.RegisterCalls.{Setting, header_refusal, names_one, register_of, set_refusals, settings}
use Rattle.vsm_core.specs.Reps.{acting}
use Rattle.vsm_core.specs.State.{State}
use Rattle.vsm_core.specs.Switch.{restored_from}
use Rattle.vsm_core.specs.Targets.{is_level, target_level}
use Rattle.vsm_core.specs.Whole.{Flat}
use Rattle.vsm_core.specs.declared.operation.Op.{Op}
use Rattle.vsm_core.specs.declared.operation.Op.TheVariants.{Set, Load, Ack, Hypercall, VtlReturn}
use Rattle.vsm_core.specs.declared.operation.Program.{Program}
use Rattle.vsm_core.specs.declared.partition_state.PartitionState.{PartitionState}
use Rattle.vsm_core.specs.declared.register.CallRegister.{CallRegister}
use Rattle.vsm_core.specs.declared.register.CallRegister.TheVariants.{Kept}
use Rattle.vsm_laws.specs.ReadWords.{words_read}

abbrev pub is_same : Name → Name → Bool
is_same one other = number_of one == number_of other

-- what one level has by this name is what the other has
abbrev pub is_common : Vtl → Vtl → Name → Bool
is_common one other name = is_shared name || is_level one other

-- the registers that an operation sets by itself where its level stays active: the one that it names; of a hypercall RAX, which has its result, and RCX, which has the start of its next part
abbrev pub sets_staying : Op → Name → Bool
sets_staying (Set register value) name = is_same register name
sets_staying (Load register gva) name = is_same register name
sets_staying (Ack register) name = is_same register name
sets_staying Hypercall name = is_same names.Rax name || is_same names.Rcx name
sets_staying _ name = false

-- and where it is left: of a return RAX and RCX, where it takes them from the assist page
abbrev pub sets_leaving : Origin → Op → Name → Bool
sets_leaving from VtlReturn name = is_some (restored_from from.pages from.state) && (is_same names.Rax name || is_same names.Rcx name)
sets_leaving from _ name = false

abbrev pub sets_alone : Origin → Op → State → Name → Bool
sets_alone from op new name = if is_level from.state.active new.active then sets_staying op name else sets_leaving from op name

-- the elements that are done of a call that sets registers and reads these words: where its header isn't refused, those before the first that is
abbrev pub done_of : Origin → List ℕ → List Setting → List Setting
done_of from header elements = take (acting (set_refusals from (target_level from.state.active header) elements)) elements

abbrev pub done_by : Origin → List ℕ → List Setting
done_by from words =
    if (code_in (input_value from.state) == 0x0051) && is_none (header_refusal from (take 2 words)) then done_of from (take 2 words) (settings (drop 2 words)) else []

-- an element names such a register of a processor
abbrev pub is_kept : (Name → Bool) → CallRegister → Bool
is_kept test (Kept name) = test name
is_kept test _ = false

abbrev pub names_kept : (Name → Bool) → Setting → Bool
names_kept test s = names_one (is_kept test) (register_of s.number)

-- a hypercall that reads these words has an element which is done and names such a register
abbrev pub sets_some : (Name → Bool) → Origin → Op → List ℕ → Bool
sets_some test from Hypercall words = list_any (names_kept test) (done_by from words)
sets_some test from _ words = false

-- the level whose registers the call names
abbrev pub level_named : Origin → List ℕ → Vtl
level_named from words = target_level from.state.active (take 2 words)

-- level 1 is enabled: all registers of its own are new
abbrev pub is_new : State → State → Vtl → Name → Bool
is_new old new level name = not old.enabled && new.enabled && is_level One level && not (is_shared name)

-- the attempt of an operation that reads these words and comes to this state may change this register of a level
abbrev pub may_change : Origin → Op → List ℕ → State → Vtl → Name → Bool
may_change from op words new level name =
    (is_common from.state.active level name && is_same names.Rip name) ||
    (is_common from.state.active level name && sets_alone from op new name) ||
    (is_common (level_named from words) level name && sets_some (λ register. is_same register name) from op words) ||
    is_new from.state new level name

-- the processor has started, and none of these attempts, one after the other, may change this register
abbrev pub NoneChanges : Vtl → Name → Program → Vp → List (PartitionState × Flat) → Type 0
NoneChanges level name program v [] = Unit {0}
NoneChanges level name program v (e ∷ es) =
    (v.started ≡ true) ×
    ((op : Op) → operation_at program v.state ≡ Some op → may_change (origin_of v) op (words_read program v e.0 e.1) (attempted program v e.0 e.1).vp.state level name ≡ false) ×
    NoneChanges level name program (attempted program v e.0 e.1).vp es

-- a call that reads these words sets no register of level 0's own: no element that is done names one of level 0
abbrev pub SparesZero : Origin → List ℕ → Type 0
SparesZero from words = (is_level (level_named from words) Zero && sets_some (λ register. not (is_shared register)) from Hypercall words) ≡ false

-- level 1 sets none by a call; level 0 cannot set those of level 1
abbrev pub SparesOwn : Vtl → Program → Vp → List ℕ → Type 0
SparesOwn One program v words = Unit {0}
SparesOwn Zero program v words = operation_at program v.state ≡ Some Hypercall → SparesZero (origin_of v) words

-- the processor has started, each of these attempts begins at the other level, none enables level 1, and none sets registers of this level's own by a call
abbrev pub IsAway : Vtl → Program → Vp → List (PartitionState × Flat) → Type 0
IsAway level program v [] = Unit {0}
IsAway level program v (e ∷ es) =
    (v.started ≡ true) × (v.state.active ≡ other_level level) × ((attempted program v e.0 e.1).vp.state.enabled ≡ v.state.enabled) × SparesOwn level program v (words_read program v e.0 e.1) × IsAway level program (attempted program v e.0 e.1).vp es
