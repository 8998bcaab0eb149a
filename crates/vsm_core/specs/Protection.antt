-- The protection of pages: what refuses the call that asks for masks, and a write of the partition's configuration, in their order, and the asks that follow (TLFS, HvCallModifyVtlProtectionMask and HV_REGISTER_VSM_PARTITION_CONFIG; the order of the checks is this project's own).
use Rattle.std.specs.Prelude.{ℕ, ◌+◌, ◌≤◌, ◌<◌, ◌%◌, ◌^◌, ◌==◌, ◌&&◌, not, if◌then◌else◌, nat_le, Option, List, [], ◌∷◌, length, map, slice_index}
use Rattle.std.specs.List.{range_with_len}
use Rattle.vsm_base.specs.Masks.{is_mask}
use Rattle.vsm_base.specs.declared.places.Page.{Page}
use Rattle.vsm_base.specs.declared.places.Vtl.{Vtl}
use Rattle.vsm_base.specs.declared.status.HvStatus.{HvStatus}
use Rattle.vsm_base.specs.declared.status.TheConstants.HvStatus as statuses
use Rattle.vsm_core.specs.Calls.{Check, check, first_failed}
use Rattle.vsm_core.specs.Partition.{is_other_partition}
use Rattle.vsm_core.specs.Status.{protects, default_mask}
use Rattle.vsm_core.specs.Switch.{is_zero}
use Rattle.vsm_core.specs.Targets.{is_byte_form}
use Rattle.vsm_core.specs.declared.partition_state.PartitionState.{PartitionState}
use Rattle.vsm_core.specs.declared.request.PartCall.{PartCall}
use Rattle.vsm_core.specs.declared.request.PartCall.TheVariants.{Modify, Flush}

-- the mask that a call asks for: bits 31:0 of its second word
abbrev pub map_flags : List ℕ → ℕ
map_flags header = slice_index header 1 % 2 ^ 32

-- the checks of a header; a level that is named in byte form is accepted, whichever it is, and the mask binds level 0
abbrev pub modify_checks : PartitionState → Vtl → List ℕ → List Check
modify_checks s level header =
    check statuses.INVALID_PARTITION_ID (is_other_partition header) ∷
    check statuses.ACCESS_DENIED (is_zero level) ∷
    check statuses.INVALID_PARAMETER (not (is_byte_form header)) ∷
    check statuses.INVALID_VTL_STATE (not (protects s.config)) ∷
    check statuses.INVALID_PARAMETER (not (is_mask (map_flags header))) ∷ []

-- what refuses an element: its page isn't one of so many
abbrev pub page_refusal : ℕ → ℕ → Option HvStatus
page_refusal pages page = first_failed (check statuses.INVALID_PARAMETER (nat_le pages page) ∷ [])

abbrev pub page_refusals : ℕ → List ℕ → List (Option HvStatus)
page_refusals pages elements = map (page_refusal pages) elements

-- the checks of a value that a partition with this configuration is to have: protection isn't turned off, and its mask stays
abbrev pub config_checks : (config value : ℕ) → List Check
config_checks config value =
    check statuses.INVALID_REGISTER_VALUE (nat_le (2 ^ 7) value) ∷
    check statuses.INVALID_REGISTER_VALUE (not (is_mask (default_mask value))) ∷
    check statuses.INVALID_REGISTER_VALUE (protects config && not (protects value)) ∷
    check statuses.INVALID_REGISTER_VALUE (protects config && not (default_mask value == default_mask config)) ∷ []

-- one mask is asked for each of these pages
abbrev pub ask_of : (mask page : ℕ) → Page × ℕ
ask_of mask page = (record { 0 = page }, mask)

abbrev pub asks_for : ℕ → List ℕ → List (Page × ℕ)
asks_for mask pages = map (ask_of mask) pages

-- and for every page that there is
abbrev pub asks_for_all : ℕ → ℕ → List (Page × ℕ)
asks_for_all mask pages = asks_for mask (range_with_len 0 pages)

-- a slice has at most eight pages, which are some of the call's elements, and a call has fewer than 4096
abbrev pub IsSlice : PartCall → Type 0
IsSlice (Modify header pages start total) = (length pages.items ≤ 8) × (start + length pages.items ≤ total) × (total < 4096)
IsSlice (Flush total) = total < 4096
IsSlice _ = Unit {0}

-- for how many pages a mask is still asked when protection is first turned on
abbrev pub owed : PartitionState → ℕ
owed s = if protects s.config then 0 else s.pages
