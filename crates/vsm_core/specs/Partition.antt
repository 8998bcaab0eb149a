-- The partition: the fields of its calls, and the checks of each call in their order (TLFS, HvCallEnablePartitionVtl, HvCallEnableVpVtl and HvCallStartVirtualProcessor; the order of the checks is this project's own).
use Rattle.std.specs.Prelude.{ℕ, ◌/◌, ◌%◌, ◌^◌, ◌==◌, ◌&&◌, ◌||◌, Bool, false, not, if◌then◌else◌, nat_lt, nat_le, is_some, None, List, [], ◌∷◌, length, map, slice_index}
use Rattle.std.specs.List.{list_any, range_with_len}
use Rattle.std.proofs.Common.{get_or}
use Rattle.vsm_base.specs.declared.places.Limits.{Limits}
use Rattle.vsm_base.specs.declared.places.Vtl.{Vtl}
use Rattle.vsm_base.specs.declared.status.TheConstants.HvStatus as statuses
use Rattle.vsm_core.specs.Calls.{Check, check}
use Rattle.vsm_core.specs.Contexts.{is_legal_context}
use Rattle.vsm_core.specs.Status.{denies_startup}
use Rattle.vsm_core.specs.Switch.{is_zero}
use Rattle.vsm_core.specs.declared.partition_state.PartitionState.{PartitionState}
use Rattle.vsm_core.specs.declared.partition_state.Standing.{Standing}

-- the partition before the first request: the first so many of its processors are started
abbrev pub opening_standing : ℕ → ℕ → Standing
opening_standing started vp = record { one = false; started = nat_lt vp started; start = None; waiting = None }

abbrev pub opening_partition : Limits → ℕ → PartitionState
opening_partition limits started = record { pages = limits.pages; enabled = false; config = 0; rounds = 0; vps = map (opening_standing started) (range_with_len 0 limits.vps) }

-- what is known of a processor that there is, and of one that there isn't
abbrev pub nobody : Standing
nobody = record { one = false; started = false; start = None; waiting = None }

abbrev pub standing : PartitionState → ℕ → Standing
standing s vp = get_or s.vps vp nobody

-- the words of a call begin with the number of a partition, which can be the caller's own alone
abbrev pub is_other_partition : List ℕ → Bool
is_other_partition words = not (slice_index words 0 == 0xFFFFFFFFFFFFFFFF)

-- of the call for the partition: the target level in bits 7:0 of the second word, and flags and padding above it
abbrev pub low_target : List ℕ → ℕ
low_target words = slice_index words 1 % 2 ^ 8

abbrev pub above_low_target : List ℕ → ℕ
above_low_target words = slice_index words 1 / 2 ^ 8

-- of the calls for a processor: its index in bits 31:0 of the second word, the target level in bits 39:32, and padding above it
abbrev pub index_of : List ℕ → ℕ
index_of words = slice_index words 1 % 2 ^ 32

abbrev pub byte_in : ℕ → ℕ
byte_in word = word / 2 ^ 32 % 2 ^ 8

abbrev pub target_of : List ℕ → ℕ
target_of words = byte_in (slice_index words 1)

abbrev pub padding_in : ℕ → ℕ
padding_in word = word / 2 ^ 40

abbrev pub padding_of : List ℕ → ℕ
padding_of words = padding_in (slice_index words 1)

-- the processor that an index names: the caller, or the one of this number
abbrev pub named : ℕ → ℕ → ℕ
named by index = if index == 0xFFFFFFFE then by else index

-- a processor is started, or its start was accepted
abbrev pub is_called : Standing → Bool
is_called p = p.started || is_some p.start

-- level 1 is enabled on some processor
abbrev pub someone_has_one : PartitionState → Bool
someone_has_one s = list_any (λ (p : Standing). p.one) s.vps

abbrev pub enable_partition_checks : PartitionState → List ℕ → List Check
enable_partition_checks s words =
    check statuses.INVALID_PARTITION_ID (is_other_partition words) ∷
    check statuses.INVALID_PARAMETER (not (low_target words == 1)) ∷
    check statuses.INVALID_PARAMETER (not (above_low_target words == 0)) ∷
    check statuses.VTL_ALREADY_ENABLED s.enabled ∷ []

-- the context stands behind the first two words
abbrev pub enable_vp_checks : PartitionState → ℕ → Vtl → ℕ → List ℕ → List ℕ → List Check
enable_vp_checks s by level vp words context =
    check statuses.INVALID_PARTITION_ID (is_other_partition words) ∷
    check statuses.INVALID_VP_INDEX (nat_le (length s.vps) vp) ∷
    check statuses.INVALID_PARAMETER (not (target_of words == 1)) ∷
    check statuses.INVALID_PARAMETER (not (padding_of words == 0)) ∷
    check statuses.INVALID_VTL_STATE (not s.enabled) ∷
    check statuses.VTL_ALREADY_ENABLED (standing s vp).one ∷
    check statuses.ACCESS_DENIED (is_zero level && someone_has_one s) ∷
    check statuses.INVALID_VP_STATE (not (vp == by) && is_called (standing s vp)) ∷
    check statuses.INVALID_REGISTER_VALUE (not (is_legal_context context)) ∷ []

-- the target is the level at which the processor starts: 0 or 1, and none above the caller's. The configuration may deny level 0 all starts
abbrev pub start_checks : PartitionState → Vtl → ℕ → List ℕ → List ℕ → List Check
start_checks s level vp words context =
    check statuses.INVALID_PARTITION_ID (is_other_partition words) ∷
    check statuses.INVALID_VP_INDEX (nat_le (length s.vps) vp) ∷
    check statuses.INVALID_PARAMETER (nat_lt 1 (target_of words)) ∷
    check statuses.INVALID_PARAMETER (not (padding_of words == 0)) ∷
    check statuses.ACCESS_DENIED (is_zero level && (target_of words == 1)) ∷
    check statuses.ACCESS_DENIED (is_zero level && denies_startup s.config) ∷
    check statuses.INVALID_VTL_STATE ((target_of words == 1) && not (standing s vp).one) ∷
    check statuses.INVALID_VP_STATE (is_called (standing s vp)) ∷
    check statuses.INVALID_REGISTER_VALUE (not (is_legal_context context)) ∷ []
