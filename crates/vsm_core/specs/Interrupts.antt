-- The call that requests an interrupt of processors: its fields, what refuses it, and its posts (TLFS, HvCallSendSyntheticClusterIpi; the order of the checks is this project's own).
use Rattle.std.specs.Prelude.{ℕ, ◌/◌, ◌%◌, ◌^◌, ◌==◌, ◌||◌, Bool, not, nat_lt, List, [], ◌∷◌, map, filter, slice_index}
use Rattle.std.specs.List.{range_with_len}
use Rattle.vsm_base.specs.declared.places.Vtl.{Vtl}
use Rattle.vsm_base.specs.declared.status.TheConstants.HvStatus as statuses
use Rattle.vsm_core.specs.declared.event.PendingWord.TheVariants.{Vectors}
use Rattle.vsm_core.specs.Calls.{Check, check}
use Rattle.vsm_core.specs.Targets.{is_byte_word, level_meant, is_above}
use Rattle.vsm_core.specs.Tree.{WordStep, Posting}
use Rattle.vsm_core.specs.Vectors.{part_of, bit_of}

-- the vector in bits 31:0 of the first word, with the input VTL byte behind it, and in the second word a bit for each processor
abbrev pub vector_in : List ℕ → ℕ
vector_in words = slice_index words 0 % 2 ^ 32

abbrev pub processors_in : List ℕ → ℕ
processors_in words = slice_index words 1

-- the level whose interrupt a caller of this level means
abbrev pub interrupted_level : Vtl → List ℕ → Vtl
interrupted_level caller words = level_meant caller (slice_index words 0)

-- among so many processors
abbrev pub interrupt_checks : ℕ → Vtl → List ℕ → List Check
interrupt_checks vps caller words =
    check statuses.INVALID_PARAMETER (not (is_byte_word (slice_index words 0))) ∷
    check statuses.ACCESS_DENIED (is_above (interrupted_level caller words) caller) ∷
    check statuses.INVALID_PARAMETER (nat_lt (vector_in words) 0x10 || nat_lt 0xFF (vector_in words)) ∷
    check statuses.INVALID_PARAMETER (not (processors_in words / 2 ^ vps == 0)) ∷ []

-- a processor has its bit
abbrev pub is_in : ℕ → ℕ → Bool
is_in bits p = bits / 2 ^ p % 2 == 1

-- of so many processors from this one on those that have their bits, in the order of their numbers
abbrev pub those_in : (bits p count : ℕ) → List ℕ
those_in bits p count = filter (is_in bits) (range_with_len p count)

-- a vector is requested for a level of a processor
abbrev pub interrupt_step : Vtl → (vector p : ℕ) → WordStep
interrupt_step level vector p = Posting p (Vectors level (part_of vector)) (bit_of vector)

abbrev pub interrupt_steps : Vtl → (vector : ℕ) → List ℕ → List WordStep
interrupt_steps level vector ps = map (interrupt_step level vector) ps
