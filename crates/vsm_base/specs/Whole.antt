-- An input that is read to its end, and a text that is written whole or in part.
use Rattle.std.specs.Prelude.{◌≡◌, ℕ, ◌+◌, ◌≤◌, List, length, take, Option, Result, OnErr, OnOk}
use Rattle.std.specs.Io.KnownBytes.{prepend_known, append_known}
use Rattle.vsm_base.specs.Outside.{IsAtEnd, Rose}
use Rattle.vsm_base.specs.declared.whole.WriteFailed.{WriteFailed}

-- the most bytes that an input may have
abbrev pub limit : ℕ
limit = 1048576

-- these bytes came, and nothing is left
pub record ReadsWhole (old new : Option (List ℕ)) (bytes : List ℕ) : Type 0 where
  pub came : old ≡ prepend_known bytes new
  pub at_end : IsAtEnd new
  pub short : length bytes ≤ limit

-- one byte more than the limit came
pub record ReadsTooMuch (old new : Option (List ℕ)) : Type 0 where
  pub bytes : List ℕ
  pub came : old ≡ prepend_known bytes new
  pub long : length bytes ≡ limit + 1

-- a front of what was left came
abbrev pub LosesFront : Option (List ℕ) → Option (List ℕ) → Type 0
LosesFront old new = (bytes : List ℕ) × (old ≡ prepend_known bytes new)

-- a front of the text was appended
abbrev pub AppendsFront : Option (List ℕ) → Option (List ℕ) → List ℕ → Type 0
AppendsFront old new text = (n : ℕ) × (new ≡ append_known old (take n text))

-- the text was written whole, or where a write failed a front of it; the count of faults says where one did
pub record Puts (old new : Option (List ℕ)) (before now : ℕ) (result : Result (Unit {0}) WriteFailed) (text : List ℕ) : Type 0 where
  pub whole : OnOk result (new ≡ append_known old text)
  pub front : OnErr result (AppendsFront old new text)
  pub later : before ≤ now
  pub risen : OnErr result (Rose before now)
