-- A start that a level asks for.
use Rattle.std.specs.Prelude.{ℕ, ◌≡◌, ◌<◌, false, List, length}
use Rattle.vsm_base.specs.declared.places.VpIndex.{VpIndex}
use Rattle.vsm_base.specs.declared.places.Vtl.{Vtl}
use Rattle.vsm_core.specs.Partition.{named, index_of, is_other_partition, padding_of, target_of}
use Rattle.vsm_core.specs.declared.partition_state.PartitionState.{PartitionState}
use Rattle.vsm_core.specs.declared.request.PartCall.TheVariants.{Start}
use Rattle.vsm_core.specs.declared.request.Request.{Request}

-- a level of a processor asks for a start by these words
abbrev pub start_by : Vtl → VpIndex → List ℕ → Request
start_by level by words = record { by = by; level = level; call = Start words }

-- its partition, its index and its padding are good, and the processor is to start at level 0
pub record IsWellFormed (s : PartitionState) (by : VpIndex) (words : List ℕ) : Type 0 where
  pub own : is_other_partition words ≡ false
  pub there : named by.0 (index_of words) < length s.vps
  pub padded : padding_of words ≡ 0
  pub to_zero : target_of words ≡ 0
