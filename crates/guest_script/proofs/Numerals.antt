-- When a word spells a number.
use Rattle.std.proofs.Common.{◌≡◌, ℕ, ◌+◌, ◌*◌, ◌^◌, ◌<◌, ◌≤◌, List, [], ◌∷◌, length, take, get_or, Bool, true, false, cond, ◌&&◌, nat_lt, nat_le, Some, None, refl, ap, arith}
use Rattle.std.specs.List.{list_all}
use Rattle.std.specs.Char.{is_digit, digit_value}
use Rattle.std.specs.Str.Parse.{digits_value}
use Rattle.std.proofs.lemmas.Bool.Decides.{nat_tests}
use Rattle.std.proofs.lemmas.List.Recursion.{and_fails_at, and_from_places}
use Rattle.std.proofs.lemmas.Int.Digits.{digits_value_more}
use Rattle.std.proofs.lemmas.Str.Parse.{digits_value-take-le}
use Rattle.guest_script.specs.Numbers.{is_numeral, numeral}

abbrev all_digits : ℕ → List ℕ → Bool
all_digits base word = list_all (λ c. is_digit c base) word

second : (a b c d : Bool) → b ≡ false → a && b && c && d ≡ false
second true b c d e = ap (λ b. b && c && d) e
second false b c d e = refl

third : (a b c d : Bool) → c ≡ false → a && b && c && d ≡ false
third true true c d e = ap (λ c. c && d) e
third true false c d e = refl
third false b c d e = refl

fourth : (a b c d : Bool) → d ≡ false → a && b && c && d ≡ false
fourth true true true d e = e
fourth true true false d e = refl
fourth true false c d e = refl
fourth false b c d e = refl

none : (base most : ℕ) (word : List ℕ) → is_numeral base most word ≡ false → numeral base most word ≡ None
none base most word e = ap (λ b. cond b (Some (digits_value base word)) None) e

-- a byte that is no digit
pub numeral-other : (base most : ℕ) (word : List ℕ) (i : ℕ) → i < length word → base ≤ digit_value (get_or word i 0) → numeral base most word ≡ None
numeral-other base most word i h o =
    let e : is_digit (get_or word i 0) base ≡ false = grind (arith, nat_tests) in
    none base most word (third (nat_le 1 (length word)) (nat_le (length word) most) (all_digits base word) (nat_lt (digits_value base word) (2 ^ 128)) (and_fails_at (all_digits base) (λ c. is_digit c base) refl (λ _ _. refl) word i 0 h e))

-- digits that spell too much already
pub numeral-large : (base most : ℕ) (word : List ℕ) (i : ℕ) → 1 ≤ base → i < length word → 2 ^ 128 ≤ digits_value base (take i word) * base + digit_value (get_or word i 0) → numeral base most word ≡ None
numeral-large base most word i b h o =
    let m = digits_value_more base word i h in
    let l = digits_value-take-le base word (i + 1) b in
    let e : nat_lt (digits_value base word) (2 ^ 128) ≡ false = grind (arith, nat_tests, m, l) in
    none base most word (fourth (nat_le 1 (length word)) (nat_le (length word) most) (all_digits base word) (nat_lt (digits_value base word) (2 ^ 128)) e)

-- too short or too long
pub numeral-length : (base most : ℕ) (word : List ℕ) → (length word ≡ 0) → numeral base most word ≡ None
numeral-length base most [] e = refl
numeral-length base most (c ∷ word) e = absurd (omega arith)

pub numeral-long : (base most : ℕ) (word : List ℕ) → most < length word → numeral base most word ≡ None
numeral-long base most word o =
    let e : nat_le (length word) most ≡ false = grind (arith, nat_tests) in
    none base most word (second (nat_le 1 (length word)) (nat_le (length word) most) (all_digits base word) (nat_lt (digits_value base word) (2 ^ 128)) e)

-- digits, not too many, of a number that isn't too large
pub numeral-digits : (base most : ℕ) (word : List ℕ) → 1 ≤ length word → length word ≤ most → ((k : ℕ) → k < length word → digit_value (get_or word k 0) < base) → digits_value base word < 2 ^ 128 → numeral base most word ≡ Some (digits_value base word)
numeral-digits base most word s l d v =
    let a : nat_le 1 (length word) ≡ true = grind (arith, nat_tests) in
    let b : nat_le (length word) most ≡ true = grind (arith, nat_tests) in
    let c : all_digits base word ≡ true = and_from_places (all_digits base) (λ c. is_digit c base) refl (λ _ _. refl) word 0 (λ k h. let dk = d k h in grind (arith, nat_tests)) in
    let e : nat_lt (digits_value base word) (2 ^ 128) ≡ true = grind (arith, nat_tests) in
    rw (a, b, c, e) refl
