-- The virtual trust levels.
use Rattle.std.specs.Prelude.{ℕ}
use Rattle.vsm_base.specs.declared.places.Vtl.{Vtl}
use Rattle.vsm_base.specs.declared.places.Vtl.TheVariants.{Zero, One}

abbrev pub level_number : Vtl → ℕ
level_number Zero = 0
level_number One = 1
