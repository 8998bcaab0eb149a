-- The registers by which a guest reads and writes the state of Virtual Secure Mode: the bits of each, and what bits are read as.
use Rattle.std.specs.Prelude.{ℕ, ◌+◌, ◌*◌, ◌/◌, ◌%◌, ◌^◌, ◌==◌, if◌then◌else◌, Option}
use Rattle.std.specs.Bool.{then_some}
use Rattle.std.specs.Int.{from_bool}
use Rattle.vsm_base.specs.declared.places.Vtl.{Vtl}
use Rattle.vsm_base.specs.declared.places.Vtl.TheVariants.{Zero, One}
use Rattle.vsm_core.specs.Status.{vp_status, partition_status, capabilities, code_page_offsets}
use Rattle.vsm_core.specs.Status.{default_mask, denies_startup, protects}
use Rattle.vsm_status.specs.declared.vp_status.VpStatus.{VpStatus}
use Rattle.vsm_status.specs.declared.partition_status.PartitionStatus.{PartitionStatus}
use Rattle.vsm_status.specs.declared.partition_config.PartitionConfig.{PartitionConfig}
use Rattle.vsm_status.specs.declared.capabilities.Capabilities.{Capabilities}
use Rattle.vsm_status.specs.declared.code_page_offsets.CodePageOffsets.{CodePageOffsets}

-- a value, where these are its bits by the layout
abbrev pub if_has : {A : Type 0} → (A → ℕ) → ℕ → A → Option A
if_has layout bits value = then_some (layout value == bits) value

-- the levels of a processor
abbrev pub vp_status_bits : VpStatus → ℕ
vp_status_bits status = vp_status status.active status.one_enabled

-- the active level, if these are the bits of a status
abbrev pub level_in : ℕ → Vtl
level_in bits = if bits % 2 ^ 4 == 1 then One else Zero

abbrev pub read_vp_status : ℕ → Option VpStatus
read_vp_status bits = if_has vp_status_bits bits (record { active = level_in bits; one_enabled = bits / 2 ^ 17 % 2 == 1 })

-- the levels of a partition; the greatest is 1
abbrev pub partition_status_bits : PartitionStatus → ℕ
partition_status_bits status = partition_status status.one_enabled

abbrev pub read_partition_status : ℕ → Option PartitionStatus
read_partition_status bits = if_has partition_status_bits bits (record { one_enabled = bits / 2 % 2 == 1 })

-- what a level asks for the whole partition
abbrev pub partition_config_bits : PartitionConfig → ℕ
partition_config_bits config = from_bool config.protect + 2 * config.default + 2 ^ 5 * from_bool config.zero_on_reset + 2 ^ 6 * from_bool config.deny_startup

-- the fields that bits have; bits 63:7 aren't looked at
abbrev pub partition_config_in : ℕ → PartitionConfig
partition_config_in bits = record {
  protect = protects bits;
  default = default_mask bits;
  zero_on_reset = bits / 2 ^ 5 % 2 == 1;
  deny_startup = denies_startup bits;
}

abbrev pub read_partition_config : ℕ → Option PartitionConfig
read_partition_config bits = if_has partition_config_bits bits (partition_config_in bits)

-- what the hypervisor offers
abbrev pub capabilities_bits : Capabilities → ℕ
capabilities_bits offered = capabilities offered.dr6_shared offered.deny_startup

abbrev pub read_capabilities : ℕ → Option Capabilities
read_capabilities bits = if_has capabilities_bits bits (record { dr6_shared = bits % 2 == 1; deny_startup = bits / 2 ^ 17 % 2 == 1 })

-- where the code of the two switches begins
abbrev pub code_page_offsets_bits : CodePageOffsets → ℕ
code_page_offsets_bits offsets = code_page_offsets offsets.call offsets.back

abbrev pub read_code_page_offsets : ℕ → Option CodePageOffsets
read_code_page_offsets bits = if_has code_page_offsets_bits bits (record { call = bits % 2 ^ 12; back = bits / 2 ^ 12 % 2 ^ 12 })
