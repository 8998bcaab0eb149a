-- One step of a machine that walks a tree.
use Rattle.std.specs.Prelude.{ℕ}
use Rattle.vsm_core.specs.Seat.{Seat, Makes}
use Rattle.vsm_core.specs.Tree.{Tree, Ends, Asks, Wants}

-- the one next step of the tree was made at the port, and Q holds of what is left then
abbrev pub Turned : {A : Type 0} → Tree A → Seat → Seat → (Tree A → Type 0) → Type 0
Turned (Ends a) old new Q = ⊥
Turned (Asks s k) old new Q = (x : ℕ) × Makes old s x new × Q (k x)
Turned (Wants q k) old new Q = ⊥
