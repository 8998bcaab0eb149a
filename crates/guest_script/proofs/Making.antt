-- Making a script, step by step.
use Rattle.std.proofs.Common.{◌≡◌, ℕ, suc, ◌+◌, ◌-◌, ◌<◌, List, [], ◌∷◌, ◌++◌, Bool, true, false, cond, eqb, eqb-true, refl, sym, ap, ◌∙◌, append_assoc, arith}
use Rattle.vsm_core.specs.declared.operation.Op.{Op}
use Rattle.vsm_core.specs.declared.operation.Program.{Program}
use Rattle.guest_script.specs.Made.{access_of, accesses, enabling, made_program, next_state, protecting, state_after, trying}

-- an access that is put is the first of those that were to come
pub access_put : (vp number n x : ℕ) (ops all : List Op) → number < n → ops ++ accesses vp (number + 1) (n - number) x ≡ all → (ops ++ access_of vp (number + 1) (next_state x) ∷ []) ++ accesses vp (number + 1 + 1) (n - (number + 1)) (next_state x) ≡ all
access_put vp number n x ops all h e =
    let one : n - number ≡ suc (n - (number + 1)) = omega arith in
    append_assoc ops (access_of vp (number + 1) (next_state x) ∷ []) (accesses vp (number + 1 + 1) (n - (number + 1)) (next_state x)) ∙ sym (ap (λ k. ops ++ accesses vp (number + 1) k x) one) ∙ e

-- a state is passed
pub state_passed : (number n x last : ℕ) → number < n → state_after (n - number) x ≡ last → state_after (n - (number + 1)) (next_state x) ≡ last
state_passed number n x last h e =
    let one : n - number ≡ suc (n - (number + 1)) = omega arith in sym (ap (λ k. state_after k x) one) ∙ e

-- by whether it is the first processor
program_by : (b : Bool) (n vp x : ℕ) → eqb vp 0 ≡ b → ◌≡◌ {A = Program} (record { zero = cond b enabling [] ++ accesses vp 1 n x ++ trying; one = cond b protecting [] }) (cond b (record { zero = enabling ++ accesses 0 1 n x ++ trying; one = protecting }) (record { zero = accesses vp 1 n x ++ trying; one = [] }))
program_by true n vp x e = ap (λ (v : ℕ). record { zero = enabling ++ accesses v 1 n x ++ trying; one = protecting }) (eqb-true vp 0 e)
program_by false n vp x e = refl

-- the programs of a processor by their parts
pub program_made : (n vp x : ℕ) → record { zero = cond (eqb vp 0) enabling [] ++ accesses vp 1 n x ++ trying; one = cond (eqb vp 0) protecting [] } ≡ made_program n vp x
unfolding made_program
program_made n vp x = program_by (eqb vp 0) n vp x refl
