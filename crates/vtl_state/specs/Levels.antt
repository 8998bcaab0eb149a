-- Which level of a processor is active, and which are enabled.
use Rattle.std.specs.Prelude.{Bool, true}
use Rattle.vsm_base.specs.declared.places.Vtl.{Vtl}
use Rattle.vsm_base.specs.declared.places.Vtl.TheVariants.{Zero, One}

-- the active level, and whether level 1 is enabled
pub record LevelsView : Type 0 where
  pub active : Vtl
  pub enabled : Bool

-- level 0 always is
abbrev pub is_enabled : LevelsView → Vtl → Bool
is_enabled levels Zero = true
is_enabled levels One = levels.enabled

-- the same levels, with this one active
abbrev pub at_level : LevelsView → Vtl → LevelsView
at_level levels level = record levels { active = level }
