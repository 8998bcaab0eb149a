-- The hexadecimal digits of a number, written from the last one on.
use Rattle.std.proofs.Common.{◌≡◌, ℕ, zero, suc, ◌+◌, ◌-◌, ◌/◌, ◌%◌, ◌^◌, ◌<◌, ◌≤◌, List, ◌∷◌, length, take, drop, set, cond, false, sym, ap, ◌∙◌, arith, eq-eqb}
use Rattle.std.specs.Fmt.{digits, digits_onto, digit_glyph}
use Rattle.std.proofs.Math.Nat.{pow-suc}
use Rattle.std.proofs.lemmas.Bool.{ne_eqb}
use Rattle.std.proofs.lemmas.List.{drop-set, nil_from_length, length-drop, take_rest}

-- the digits of what is left, before those that have been written from the next place on
pub written : ℕ → ℕ → List ℕ → List ℕ
written at rest done = digits_onto (at + 33) 16 false rest done

-- nothing has been written
pub hex_start : (n : ℕ) (buffer : List ℕ) → length buffer ≡ 32 → written 31 n (drop 32 buffer) ≡ digits 16 false n
unfolding digits written
hex_start n buffer h =
    ap (λ done. digits_onto 64 16 false n done) (nil_from_length (drop 32 buffer) (omega (arith, length-drop 32 buffer)))

-- the last digit of what is left, and no other
onto_last : (k rest : ℕ) (done : List ℕ) → rest < 16 → digits_onto (suc k) 16 false rest done ≡ digit_glyph false (rest % 16) ∷ done
onto_last k rest done h =
    ap (λ b. cond b (digit_glyph false (rest % 16) ∷ done) (digits_onto k 16 false (rest / 16) (digit_glyph false (rest % 16) ∷ done))) (eq-eqb (rest / 16) 0 (omega arith))

-- the last digit of what is left, before which others come
onto_more : (k rest : ℕ) (done : List ℕ) → 16 ≤ rest → digits_onto (suc k) 16 false rest done ≡ digits_onto k 16 false (rest / 16) (digit_glyph false (rest % 16) ∷ done)
onto_more k rest done h =
    ap (λ b. cond b (digit_glyph false (rest % 16) ∷ done) (digits_onto k 16 false (rest / 16) (digit_glyph false (rest % 16) ∷ done))) (ne_eqb (rest / 16) 0 (λ e. absurd (omega arith)))

-- a digit is written, and others come before it
pub hex_step : (at rest digit : ℕ) (buffer : List ℕ) → 16 ≤ rest → 0 < at → at < length buffer → digit ≡ digit_glyph false (rest % 16) → written (at - 1) (rest / 16) (drop (at - 1 + 1) (set buffer at digit)) ≡ written at rest (drop (at + 1) buffer)
unfolding written
hex_step at rest digit buffer more some room is =
    let here : at - 1 + 1 ≡ at = omega arith in
    let fuel : at + 33 ≡ suc (at - 1 + 33) = omega arith in
    let put = ap (λ i. drop i (set buffer at digit)) here ∙ drop-set buffer at digit room ∙ ap (λ d. d ∷ drop (at + 1) buffer) is in
    ap (λ done. digits_onto (at - 1 + 33) 16 false (rest / 16) done) put ∙ sym (onto_more (at - 1 + 33) rest (drop (at + 1) buffer) more) ∙ sym (ap (λ k. digits_onto k 16 false rest (drop (at + 1) buffer)) fuel)

-- the first digit is written
pub hex_end : (at rest digit : ℕ) (buffer : List ℕ) → rest < 16 → at < length buffer → digit ≡ digit_glyph false rest → drop at (set buffer at digit) ≡ written at rest (drop (at + 1) buffer)
unfolding written
hex_end at rest digit buffer last room is =
    let fuel : at + 33 ≡ suc (at + 32) = omega arith in
    let same : rest ≡ rest % 16 = omega arith in
    drop-set buffer at digit room ∙ ap (λ d. d ∷ drop (at + 1) buffer) (is ∙ ap (digit_glyph false) same) ∙ sym (onto_last (at + 32) rest (drop (at + 1) buffer) last) ∙ sym (ap (λ k. digits_onto k 16 false rest (drop (at + 1) buffer)) fuel)

-- where other digits come before the last one, there is a place for them
pub hex_room : (at rest : ℕ) → 16 ≤ rest → rest < 16 ^ (at + 1) → 0 < at
hex_room zero rest h l = absurd (omega arith)
hex_room (suc at) rest h l = omega arith

-- and what is left fits the places that are left
pub hex_less : (at rest : ℕ) → 0 < at → rest < 16 ^ (at + 1) → rest / 16 < 16 ^ (at - 1 + 1)
hex_less zero rest h l = absurd (omega arith)
hex_less (suc at) rest h l =
    let here : suc at - 1 + 1 ≡ suc at = omega arith in
    let next : suc at + 1 ≡ suc (suc at) = omega arith in
    rw here (omega (arith, rw next at l, pow-suc 16 (suc at)))

-- the end of a list of this length
pub hex_rest : (at : ℕ) (buffer : List ℕ) → length buffer ≡ 32 → take (32 - at) (drop at buffer) ≡ drop at buffer
hex_rest at buffer h = ap (λ n. take (n - at) (drop at buffer)) (sym h) ∙ take_rest buffer at
