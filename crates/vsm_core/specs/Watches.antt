-- Which writes and reads of registers level 1 intercepts (TLFS, HV_REGISTER_CR_INTERCEPT_CONTROL; which bits there are, and their places, are this project's own table after it).
use Rattle.std.specs.Prelude.{ℕ, ◌/◌, ◌%◌, ◌^◌, ◌==◌, ◌&&◌, Bool, true, false, not, bit_and, bit_xor, Option, Some, None}
use Rattle.vsm_base.specs.declared.name.Name.{Name}
use Rattle.vsm_base.specs.declared.name.Name.TheVariants as names
use Rattle.vsm_base.specs.declared.places.Vtl.TheVariants.{One}
use Rattle.vsm_core.specs.Registers.{Registers, get}

-- what level 1 watches: which accesses, and which bits of Cr0 and of Cr4
pub record Watched : Type 0 where
  pub control : ℕ
  pub cr0_mask : ℕ
  pub cr4_mask : ℕ

-- what a processor's registers say of it
abbrev pub watched_in : Registers → Watched
watched_in registers = record {
  control = get registers One names.CrInterceptControl % 2 ^ 64;
  cr0_mask = get registers One names.CrInterceptCr0Mask % 2 ^ 64;
  cr4_mask = get registers One names.CrInterceptCr4Mask % 2 ^ 64;
}

-- the bit of the control that stands for the writes of a register, and the one that stands for its reads
unfoldable pub write_bit : Name → Option ℕ
write_bit names.Cr0 = Some 0
write_bit names.Cr4 = Some 1
write_bit names.Lstar = Some 6
write_bit names.Star = Some 8
write_bit names.Efer = Some 14
write_bit names.Gdtr = Some 15
write_bit names.Idtr = Some 16
write_bit names.Ldtr = Some 17
write_bit names.Tr = Some 18
write_bit names.SysenterCs = Some 19
write_bit names.SysenterEip = Some 20
write_bit names.SysenterEsp = Some 21
write_bit _ = None

unfoldable pub read_bit : Name → Option ℕ
read_bit names.Lstar = Some 5
read_bit names.Star = Some 7
read_bit names.Efer = Some 13
read_bit _ = None

-- the control has this bit, if there is one
abbrev pub has_bit : ℕ → Option ℕ → Bool
has_bit control None = false
has_bit control (Some bit) = control / 2 ^ bit % 2 == 1

-- a bit of the mask changes
abbrev pub changes : ℕ → ℕ → ℕ → Bool
changes mask old new = not (bit_and (bit_xor old new) mask == 0)

-- a write of Cr0 and of Cr4 is intercepted only where it changes a bit of that register's mask
unfoldable pub changes_watched : Watched → Name → ℕ → ℕ → Bool
changes_watched w names.Cr0 old new = changes w.cr0_mask old new
changes_watched w names.Cr4 old new = changes w.cr4_mask old new
changes_watched w _ old new = true

-- level 1 intercepts a write of a register that has one value and would get another, and a read of it
abbrev pub hits_write : Watched → Name → ℕ → ℕ → Bool
hits_write w name old new = has_bit w.control (write_bit name) && changes_watched w name old new

abbrev pub hits_read : Watched → Name → Bool
hits_read w name = has_bit w.control (read_bit name)
