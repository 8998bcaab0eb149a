-- The slices of a rep call: what refuses their elements, and what attempts come to that take them one by one.
use Rattle.std.specs.Prelude.{ℕ, zero, suc, ◌≡◌, ◌+◌, ◌==◌, ◌||◌, Bool, true, false, if◌then◌else◌, Option, Some}
use Rattle.std.specs.Prelude.{None, List, [], ◌∷◌, ◌++◌, map, take, drop}
use Rattle.vsm_base.specs.declared.places.Vtl.{Vtl}
use Rattle.vsm_base.specs.declared.status.HvStatus.{HvStatus}
use Rattle.vsm_base.specs.declared.status.TheConstants.HvStatus as statuses
use Rattle.vsm_core.specs.declared.mark.Mark.{Mark}
use Rattle.vsm_core.specs.declared.mark.What.{What}
use Rattle.vsm_core.specs.declared.mark.What.TheVariants.{Part, Reply as Result}
use Rattle.vsm_core.specs.declared.operation.Op.TheVariants.{Hypercall}
use Rattle.vsm_core.specs.declared.operation.Program.{Program}
use Rattle.vsm_core.specs.declared.partition_state.PartitionState.{PartitionState}
use Rattle.vsm_core.specs.declared.request.PartCall.{PartCall}
use Rattle.vsm_core.specs.declared.request.PartCall.TheVariants.{WriteConfig}
use Rattle.vsm_core.specs.Calls.{code_in, first_failed, result_value, row_of}
use Rattle.vsm_core.specs.Hypercalls.{input_address, input_refusal, input_value, output_address}
use Rattle.vsm_core.specs.Outcomes.{Origin}
use Rattle.vsm_core.specs.Processor.{Vp, attempted, new_marks, operation_at, origin_of}
use Rattle.vsm_core.specs.Protection.{config_checks, modify_checks, page_refusals}
use Rattle.vsm_core.specs.RegisterCalls.{Setting, count_of, get_refusals, header_refusal, look_in, past_of}
use Rattle.vsm_core.specs.RegisterCalls.{set_refusals, settings, slice_numbers, start_of, write_in}
use Rattle.vsm_core.specs.Registers.{IsWhole}
use Rattle.vsm_core.specs.Reps.{RepEnd, Refused, GoesOn, Complete, slice_past}
use Rattle.vsm_core.specs.Targets.{target_level}
use Rattle.vsm_core.specs.Whole.{Flat}
use Rattle.vsm_laws.specs.ReadWords.{words_read}

-- the calls whose elements are read slice by slice: that for masks, and those that get and set registers
abbrev pub is_sliced : ℕ → Bool
is_sliced code = (code == 0x000C) || (code == 0x0050) || (code == 0x0051)

-- so many slices of a call, from this element on: each begins eight behind the one before, and none passes the count
abbrev pub slices_from : (many start count : ℕ) → List (ℕ × ℕ)
slices_from zero start count = []
slices_from (suc many) start count = (start, slice_past start count) ∷ slices_from many (start + 8) count

-- a header that is refused refuses its slice at the first element
abbrev pub behind_header : Option HvStatus → List (Option HvStatus) → List (Option HvStatus)
behind_header None refusals = refusals
behind_header (Some status) refusals = Some status ∷ []

-- what the partition refuses of a register of its own
abbrev pub partition_refusal : PartitionState → PartCall → Option HvStatus
partition_refusal s (WriteConfig value) = first_failed (config_checks s.config value)
partition_refusal s _ = None

-- a slice that asks the partition for such a register has no other element
abbrev pub or_asked : PartitionState → Option PartCall → List (Option HvStatus) → List (Option HvStatus)
or_asked s None refusals = refusals
or_asked s (Some call) refusals = partition_refusal s call ∷ []

-- the elements of a slice, each with what refuses it, of a call that gets registers and of one that sets them
abbrev pub get_slice_refusals : PartitionState → Origin → Vtl → List ℕ → List (Option HvStatus)
get_slice_refusals s from target numbers =
    or_asked s (look_in from.state.active target (count_of from) numbers) (get_refusals from target numbers)

abbrev pub set_slice_refusals : PartitionState → Origin → Vtl → List Setting → List (Option HvStatus)
set_slice_refusals s from target settings =
    or_asked s (write_in from.state.active target (count_of from) settings) (set_refusals from target settings)

-- the same of each call, by the words of its header and of its slice
abbrev pub get_call_refusals : PartitionState → Origin → (header words : List ℕ) → List (Option HvStatus)
get_call_refusals s from header words =
    behind_header (header_refusal from header)
    (get_slice_refusals s from (target_level from.state.active header) (slice_numbers from words))

abbrev pub set_call_refusals : PartitionState → Origin → (header words : List ℕ) → List (Option HvStatus)
set_call_refusals s from header words =
    behind_header (header_refusal from header)
    (set_slice_refusals s from (target_level from.state.active header) (settings words))

abbrev pub mask_call_refusals : PartitionState → Origin → (header words : List ℕ) → List (Option HvStatus)
mask_call_refusals s from header words =
    behind_header (first_failed (modify_checks s from.state.active header)) (page_refusals s.pages words)

abbrev pub call_refusals : PartitionState → Origin → ℕ → (header words : List ℕ) → List (Option HvStatus)
call_refusals s from code header words =
    if code == 0x0050 then get_call_refusals s from header words
    else (if code == 0x0051 then set_call_refusals s from header words else mask_call_refusals s from header words)

-- and of an attempt that reads these words
abbrev pub slice_refusals : PartitionState → Origin → List ℕ → List (Option HvStatus)
slice_refusals s from words = call_refusals s from (code_in (input_value from.state)) (take 2 words) (drop 2 words)

-- what an attempt comes to, by the end of its slice
abbrev pub what_of : RepEnd → What
what_of (Refused status done) = Result (result_value status done)
what_of (GoesOn next) = Part next
what_of (Complete done) = Result (result_value statuses.SUCCESS done)

-- a call that isn't refused before its first step
abbrev pub IsAdmitted : Origin → Type 0
IsAdmitted from =
    input_refusal from.pages (row_of (code_in (input_value from.state))) (input_value from.state)
    (input_address from.state) (output_address from.state) ≡ None

-- a processor whose program stands at a call that goes by slices
pub record IsAtCall (program : Program) (v : Vp) : Type 0 where
  pub started : v.started ≡ true
  pub hypercall : operation_at program v.state ≡ Some Hypercall
  pub sliced : is_sliced (code_in (input_value v.state)) ≡ true
  pub whole : IsWhole v.state.registers

-- what the new marks of a processor say
abbrev pub whats_left : Vp → Vp → List What
whats_left old new = map (λ (m : Mark). m.what) (new_marks old new)

-- elements of the call are left
abbrev pub is_part : List What → Bool
is_part (Part next ∷ []) = true
is_part _ = false

-- an attempt leaves elements of its call, or has a result
abbrev pub goes_or_ends : What → Bool
goes_or_ends (Part next) = true
goes_or_ends (Result value) = true
goes_or_ends _ = false

-- attempts one after the other go through one call: each but the last leaves elements of it, the last has this result
abbrev pub GoThrough : Program → Vp → List (PartitionState × Flat) → (result : ℕ) → Type 0
GoThrough program v [] result = ⊥
GoThrough program v (e ∷ []) result =
    IsAdmitted (origin_of v) × (whats_left v (attempted program v e.0 e.1).vp ≡ Result result ∷ [])
GoThrough program v (e ∷ f ∷ es) result =
    (is_part (whats_left v (attempted program v e.0 e.1).vp) ≡ true)
    × GoThrough program (attempted program v e.0 e.1).vp (f ∷ es) result

-- the slices of these attempts, and the elements of all of them, each with what refuses it
abbrev pub slices_of : Program → Vp → List (PartitionState × Flat) → List (ℕ × ℕ)
slices_of program v [] = []
slices_of program v (e ∷ es) =
    (start_of (origin_of v), past_of (origin_of v)) ∷ slices_of program (attempted program v e.0 e.1).vp es

abbrev pub refusals_of : Program → Vp → List (PartitionState × Flat) → List (Option HvStatus)
refusals_of program v [] = []
refusals_of program v (e ∷ es) =
    slice_refusals e.0 (origin_of v) (words_read program v e.0 e.1)
    ++ refusals_of program (attempted program v e.0 e.1).vp es
