-- Masks: which are valid, and what each allows.
use Rattle.std.specs.Prelude.{ℕ, Bool, ◌||◌, ◌==◌, bit_and}
use Rattle.vsm_base.specs.declared.places.Access.{Access}
use Rattle.vsm_base.specs.declared.places.Access.TheVariants.{Read, Write, Execute}

-- the five valid masks
abbrev pub is_mask : ℕ → Bool
is_mask m = (m == 0) || (m == 1) || (m == 3) || (m == 13) || (m == 15)

-- the bits of a mask that an access needs
abbrev pub need : Access → ℕ
need Read = 1
need Write = 2
need Execute = 12

-- a page with this mask may be used so
abbrev pub allows : ℕ → Access → Bool
allows m access = bit_and m (need access) == need access
