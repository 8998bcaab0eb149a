-- The registers by which a guest reads and writes the state of Virtual Secure Mode: where each field stands (TLFS, Virtual Secure Mode: VSM registers).
use Rattle.std.specs.Prelude.{ℕ, ◌+◌, ◌*◌, ◌/◌, ◌%◌, ◌^◌, ◌==◌, Bool}
use Rattle.std.specs.Int.{from_bool}
use Rattle.vsm_base.specs.Levels.{level_number}
use Rattle.vsm_base.specs.declared.places.Vtl.{Vtl}

-- of a processor: the active level, that level 0 is enabled, and whether level 1 is
abbrev pub vp_status : Vtl → Bool → ℕ
vp_status active one_enabled = level_number active + 2 ^ 16 + 2 ^ 17 * from_bool one_enabled

-- of a partition: that level 0 is enabled, whether level 1 is, and that the greatest level is 1
abbrev pub partition_status : Bool → ℕ
partition_status one_enabled = 1 + 2 * from_bool one_enabled + 2 ^ 16

-- what the hypervisor offers: that the levels share Dr6, and that startup can be denied to level 0
abbrev pub capabilities : Bool → Bool → ℕ
capabilities dr6_shared deny_startup = from_bool dr6_shared + 2 ^ 17 * from_bool deny_startup

-- where the code of the two switches begins
abbrev pub code_page_offsets : ℕ → ℕ → ℕ
code_page_offsets call back = call + 2 ^ 12 * back

-- in a configuration of the partition, bit 0 turns the protection of pages on, and bits 4:1 are the mask that pages have which were given none
abbrev pub protects : ℕ → Bool
protects config = config % 2 == 1

abbrev pub default_mask : ℕ → ℕ
default_mask config = config / 2 % 2 ^ 4

-- bit 6 denies level 0 to start processors
abbrev pub denies_startup : ℕ → Bool
denies_startup config = config / 2 ^ 6 % 2 == 1
