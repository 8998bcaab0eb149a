-- A run under way.
use Rattle.std.specs.Prelude.{ℕ}
use Rattle.vsm_base.specs.declared.places.Limits.{Limits}
use Rattle.vsm_report.specs.Trace.{Stepped}

-- the words, the processors and the lines, the room for lines, and the limits
pub record Running : Type 0 where
  pub world : Stepped
  pub room : ℕ
  pub limits : Limits
