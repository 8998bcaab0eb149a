-- A text that is gathered on its way to a sink.
use Rattle.std.specs.Prelude.{◌≡◌, ℕ, ◌≤◌, List, ◌++◌, Option, Result, OnErr, OnOk}
use Rattle.std.specs.Io.KnownBytes.{append_known}
use Rattle.vsm_base.specs.Outside.{Rose}
use Rattle.vsm_base.specs.Whole.{AppendsFront}
use Rattle.vsm_base.specs.declared.whole.WriteFailed.{WriteFailed}

-- of what was held and the text behind it, a front went and the rest is held
abbrev pub Passes : Option (List ℕ) → List ℕ → Option (List ℕ) → List ℕ → List ℕ → Type 0
Passes old held new kept text = (went : List ℕ) × (new ≡ append_known old went) × (went ++ kept ≡ held ++ text)

-- the text was added behind what was held, or where a write failed a front of both went; the count of faults says where one did
pub record Gathers (old : Option (List ℕ)) (held : List ℕ) (new : Option (List ℕ)) (kept : List ℕ) (before now : ℕ) (result : Result (Unit {0}) WriteFailed) (text : List ℕ) : Type 0 where
  pub whole : OnOk result (Passes old held new kept text)
  pub front : OnErr result (AppendsFront old new (held ++ text))
  pub later : before ≤ now
  pub risen : OnErr result (Rose before now)
