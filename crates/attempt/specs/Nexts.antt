-- The next step of a tree, and its answers.
use Rattle.std.specs.Prelude.{◌≡◌, ℕ}
use Rattle.vsm_core.specs.Seat.{Seat, MayMake}
use Rattle.vsm_core.specs.Tree.{Tree, Ends, Asks, Wants, WordStep}
use Rattle.attempt.specs.Asked.{IsAnswer}

-- this step comes next
abbrev pub IsNext : {A : Type 0} → Tree A → WordStep → Type 0
IsNext (Ends a) step = ⊥
IsNext (Asks s k) step = s ≡ step
IsNext (Wants q k) step = ⊥

-- the next step may be answered so
abbrev pub IsAnswerTo : {A : Type 0} → Tree A → ℕ → Type 0
IsAnswerTo (Ends a) x = ⊥
IsAnswerTo (Asks s k) x = IsAnswer s x
IsAnswerTo (Wants q k) x = ⊥

-- the next step may be made at this port
abbrev pub MayNext : {A : Type 0} → Seat → Tree A → Type 0
MayNext seat (Ends a) = ⊥
MayNext seat (Asks s k) = MayMake seat s
MayNext seat (Wants q k) = ⊥

-- a step comes next
abbrev pub IsAsking : {A : Type 0} → Tree A → Type 0
IsAsking (Ends a) = ⊥
IsAsking (Asks s k) = Unit {0}
IsAsking (Wants q k) = ⊥
