-- The page that holds a call's input.
use Rattle.std.specs.Prelude.{ℕ, List}

-- its bytes, and the place where the input begins
pub record Page : Type 0 where
  pub bytes : List ℕ
  pub offset : ℕ
