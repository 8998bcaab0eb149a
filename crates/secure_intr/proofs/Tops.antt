-- The highest vector of a set is the highest bit of the highest word that isn't 0.
use Rattle.std.proofs.Common.{◌≡◌, ℕ, zero, suc, ◌+◌, ◌-◌, ◌*◌, ◌/◌, ◌%◌, ◌^◌, ◌<◌, ◌≤◌, ◌==◌, true, false, Option, Some, None, List, get_or, refl, ap, add-one, ◌∙◌, arith}
use Rattle.std.proofs.Math.Nat.{div-eq_of_lt, div-eq_of_lt-le, pow-le-pow_right, pow-suc}
use Rattle.vsm_core.specs.Vectors.{has, highest_below, highest}

-- the highest vector of the first words of a set
unfoldable pub highest_within : List ℕ → ℕ → Option ℕ
highest_within set words = highest_below set (64 * words)

pub whole : (set : List ℕ) → highest set ≡ highest_within set 4
unfolding highest highest_within
whole set = refl

pub no-words : (set : List ℕ) → highest_within set 0 ≡ None
unfolding highest_within
no-words set = refl

-- a vector is a bit of a word
has-bit : (set : List ℕ) (i b : ℕ) → b < 64 → has set (64 * i + b) ≡ (get_or set i 0 / 2 ^ b % 2 == 1)
has-bit set i b h =
    let word : (64 * i + b) / 64 ≡ i = omega arith in
    let bit : (64 * i + b) % 64 ≡ b = omega arith in
    rw (word, bit) refl

bit-above : (word b : ℕ) → word < 2 ^ b → (word / 2 ^ b % 2 == 1) ≡ false
bit-above word b h = rw div-eq_of_lt refl

bit-highest : (word b : ℕ) → 2 ^ b ≤ word → word < 2 ^ (b + 1) → (word / 2 ^ b % 2 == 1) ≡ true
bit-highest word b low high =
    let one : word / 2 ^ b ≡ 1 = div-eq_of_lt-le (2 ^ b) (omega arith) (omega (arith, pow-suc 2 b, ap (λ n. 2 ^ n) (add-one b))) in
    rw one refl

-- the next vector that a set doesn't have, or has
passed : (set : List ℕ) (n : ℕ) → has set n ≡ false → highest_below set (suc n) ≡ highest_below set n
passed set n h = rw h refl

found : (set : List ℕ) (n : ℕ) → has set n ≡ true → highest_below set (suc n) ≡ Some n
found set n h = rw h refl

-- no bit from this one on is 1
bits-above : (set : List ℕ) (i b d : ℕ) → get_or set i 0 < 2 ^ b → b + d ≤ 64 → highest_below set (64 * i + (b + d)) ≡ highest_below set (64 * i + b)
bits-above set i b zero high within = ap (λ n. highest_below set (64 * i + n)) (omega arith)
bits-above set i b (suc d) high within =
    let above : get_or set i 0 < 2 ^ (b + d) = omega (arith, pow-le-pow_right {n = 2} (omega arith) {i = b} {j = b + d} (omega arith)) in
    let next : 64 * i + (b + suc d) ≡ suc (64 * i + (b + d)) = omega arith in
    ap (highest_below set) next
    ∙ passed set (64 * i + (b + d)) (has-bit set i (b + d) (omega arith) ∙ bit-above (get_or set i 0) (b + d) above)
    ∙ bits-above set i b d high (omega arith)

pub word-empty : (set : List ℕ) (n : ℕ) → 0 < n → get_or set (n - 1) 0 ≡ 0 → highest_within set n ≡ highest_within set (n - 1)
unfolding highest_within
word-empty set n some empty =
    let whole_word : 64 * n ≡ 64 * (n - 1) + (0 + 64) = omega arith in
    let below : get_or set (n - 1) 0 < 2 ^ 0 = omega arith in
    ap (highest_below set) whole_word ∙ bits-above set (n - 1) 0 64 below (omega arith) ∙ ap (highest_below set) (omega arith)

pub word-top : (set : List ℕ) (n b : ℕ) → 0 < n → b < 64 → 2 ^ b ≤ get_or set (n - 1) 0 → get_or set (n - 1) 0 < 2 ^ (b + 1) → highest_within set n ≡ Some (64 * (n - 1) + b)
unfolding highest_within
word-top set n b some within low high =
    let whole_word : 64 * n ≡ 64 * (n - 1) + ((b + 1) + (63 - b)) = omega arith in
    let next : 64 * (n - 1) + (b + 1) ≡ suc (64 * (n - 1) + b) = omega arith in
    ap (highest_below set) whole_word
    ∙ bits-above set (n - 1) (b + 1) (63 - b) high (omega arith)
    ∙ ap (highest_below set) next
    ∙ found set (64 * (n - 1) + b) (has-bit set (n - 1) b within ∙ bit-highest (get_or set (n - 1) 0) b low high)
