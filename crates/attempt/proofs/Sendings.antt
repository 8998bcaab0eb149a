-- The posts of a call that requests an interrupt.
use Rattle.std.proofs.Common.{◌≡◌, ◌+◌, ◌-◌, ◌<◌, ◌≤◌, ℕ, suc, true, false, None, List, ◌∷◌, refl, arith, lit<}
use Rattle.std.specs.Prelude.{◌^◌}
use Rattle.std.proofs.Math.Nat.{pow-le-pow_right}
use Rattle.vsm_core.specs.Attempt.{interrupts_by}
use Rattle.vsm_core.specs.Interrupts.{is_in, those_in, vector_in, processors_in, interrupted_level}
use Rattle.vsm_core.specs.Outcomes.{Origin}
use Rattle.hyper_abi.specs.declared.interrupt.Interrupt.{Interrupt}
use Rattle.attempt.specs.Calls.{sends_from}

one-less : (p past : ℕ) → p < past → past - p ≡ suc (past - (p + 1))
one-less p past low = omega arith

-- a processor that is named is the next one
pub those-next : (bits p past : ℕ) → p < past → is_in bits p ≡ true
    → those_in bits p (past - p) ≡ p ∷ those_in bits (p + 1) (past - (p + 1))
those-next bits p past low is = rw (one-less p past low, is) refl

-- and one that isn't is passed over
pub those-skip : (bits p past : ℕ) → p < past → is_in bits p ≡ false
    → those_in bits p (past - p) ≡ those_in bits (p + 1) (past - (p + 1))
those-skip bits p past low is = rw (one-less p past low, is) refl

-- the bits of so many processors are those of eight
pub few-bits : (n vps : ℕ) → vps ≤ 8 → n < 2 ^ vps → n < 2 ^ 8
few-bits n vps few low = omega (arith, low, pow-le-pow_right {n = 2} (lit< tt) few)

-- all posts of a call that nothing refuses
pub all-sent : (from : Origin) (i : Interrupt) (header : List ℕ) → i.level ≡ interrupted_level from.state.active header
    → i.vector ≡ vector_in header → i.processors ≡ processors_in header
    → interrupts_by from header None ≡ sends_from from i 0
all-sent from i header level vector processors =
    let all : from.vps - 0 ≡ from.vps = omega arith in
    rw (all, level, vector, processors) refl
