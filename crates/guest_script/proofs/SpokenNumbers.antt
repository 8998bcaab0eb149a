-- Numbers and names that are printed are words, and are read again.
use Rattle.std.proofs.Common.{◌≡◌, ℕ, zero, suc, ◌+◌, ◌/◌, ◌%◌, ◌==◌, ◌^◌, ◌<◌, ◌≤◌, List, [], ◌∷◌, length, take, drop, get_or, Bool, true, false, cond, ◌&&◌, nat_lt, nat_le, find, Some, Ok, refl, ap, ◌∙◌, arith, codes}
use Rattle.std.specs.List.{list_all}
use Rattle.std.specs.Char.{digit_value}
use Rattle.std.specs.Fmt.{decimal, digits, digits_onto, digit_glyph}
use Rattle.std.specs.Str.{bytes_eq}
use Rattle.std.specs.Str.Parse.{AllDigits}
use Rattle.std.proofs.lemmas.Bool.Decides.{nat_tests}
use Rattle.std.proofs.lemmas.Fmt.{decimal_is_IsNumeral, digits_is_IsNumeral, length-decimal-le}
use Rattle.std.proofs.lemmas.Slice.Eq.{bytes_eq-Decides}
use Rattle.vsm_base.specs.Names.{spelling, named_by, is_spelled, all_names}
use Rattle.vsm_base.specs.declared.name.Name.{Name}
use Rattle.vsm_base.specs.declared.name.Name.TheVariants as names
use Rattle.guest_script.proofs.Numerals.{numeral-digits}
use Rattle.guest_script.proofs.Spoken.{IsWord, is_shown}
use Rattle.guest_script.specs.Fields.{Words, any_number, number}
use Rattle.guest_script.specs.Keywords.{keyword_of, all_keywords}
use Rattle.guest_script.specs.Keywords as keywords
use Rattle.guest_script.specs.Numbers.{numeral, number_of}
use Rattle.guest_script.specs.Print.{hex}
use Rattle.guest_script.specs.declared.keyword.Keyword.{Keyword}
use Rattle.guest_script.specs.declared.keyword.Keyword.TheVariants as words

-- the digit at a place
pub digit_at : (base : ℕ) (ds : List ℕ) (k : ℕ) → AllDigits base ds → k < length ds → digit_value (get_or ds k 0) < base
digit_at base [] k a l = absurd (omega arith)
digit_at base (d ∷ ds) zero a l = a.0
digit_at base (d ∷ ds) (suc k) a l = digit_at base ds k a.1 (omega arith)

-- a digit is shown
digit_is_shown : (c : ℕ) → digit_value c < 16 → is_shown c ≡ true
digit_is_shown c d = grind (arith, nat_tests)

-- and so are all digits of a number
pub digits_are_shown : (base : ℕ) (ds : List ℕ) → base ≤ 16 → AllDigits base ds → list_all is_shown ds ≡ true
digits_are_shown base [] b a = refl
digits_are_shown base (d ∷ ds) b a = rw (digit_is_shown d (omega (arith, a.0)), digits_are_shown base ds b a.1) refl

-- a decimal number is a word
pub decimal_is_word : (n : ℕ) → n < 2 ^ 64 → IsWord (decimal n)
decimal_is_word n f =
    let d = decimal_is_IsNumeral n f in
    record { some = d.0.0; shown = digits_are_shown 10 (decimal n) (omega arith) d.0.1 }

-- digits of a number below 16^j are j at most
few_digits : (k j n : ℕ) (acc : List ℕ) → 0 < j → n < 16 ^ j → length (digits_onto k 16 false n acc) ≤ j + length acc
few_digits zero j n acc s f = omega arith
few_digits (suc k) j n acc s f = by j (n / 16 == 0) (λ i. few_digits k i (n / 16) (g ∷ acc)) s f refl
  where
    g : ℕ
    g = digit_glyph false (n % 16)

    rest : List ℕ
    rest = digits_onto k 16 false (n / 16) (g ∷ acc)

    by : (j : ℕ) (b : Bool) → ((i : ℕ) → 0 < i → n / 16 < 16 ^ i → length rest ≤ i + length (g ∷ acc)) → 0 < j → n < 16 ^ j → (n / 16 == 0) ≡ b → length (cond b (g ∷ acc) rest) ≤ j + length acc
    by j true h s f e = omega arith
    by zero false h s f e = absurd (omega arith)
    by (suc zero) false h s f e = let o : 0 < n / 16 = grind (arith, nat_tests) in absurd (omega arith)
    by (suc (suc j)) false h s f e = omega (arith, h (suc j) (omega arith) (omega arith))

-- the digits of a value or an address are 32 at most
few : (n : ℕ) → n < 2 ^ 128 → length (digits 16 false n) ≤ 32
unfolding digits
few n f = few_digits 64 32 n [] (omega arith) (omega arith)

-- a value or an address is a word
pub hex_is_word : (n : ℕ) → n < 2 ^ 128 → IsWord (hex n)
hex_is_word n f =
    let d = digits_is_IsNumeral 16 false (omega arith) (omega arith) n (omega arith) in
    record { some = omega arith; shown = digits_are_shown 16 (digits 16 false n) (omega arith) d.0.1 }

-- a decimal number is read again as a numeral
pub numeral-decimal : (n : ℕ) → n < 2 ^ 64 → numeral 10 39 (decimal n) ≡ Some n
numeral-decimal n f =
    let d = decimal_is_IsNumeral n f in
    let l = length-decimal-le 20 n (omega arith) (omega arith) f in
    numeral-digits 10 39 (decimal n) (omega (arith, d.0.0)) (omega arith) (λ k h. digit_at 10 (decimal n) k d.0.1 h) (omega (arith, d.1)) ∙ ap Some d.1

-- decimal digits don't begin with 0x
no_prefix : (ds : List ℕ) → AllDigits 10 ds → bytes_eq (take 2 ds) (codes "0x") ≡ true → ⊥
no_prefix [] a e = cc
no_prefix (c ∷ []) a e =
    let p = (bytes_eq-Decides (c ∷ []) (codes "0x")).0 e in absurd (omega (arith, ap length p))
no_prefix (c ∷ d ∷ ds) a e =
    let p = (bytes_eq-Decides (c ∷ d ∷ []) (codes "0x")).0 e in
    let q : d ≡ 120 = ap (λ xs. get_or xs 1 0) p in
    let r : digit_value 120 < 10 = rw q at a.1.0 in
    absurd (omega (arith, r))

-- a test that cannot pass
is_false : (b : Bool) → (b ≡ true → ⊥) → b ≡ false
is_false true n = absurd (n refl)
is_false false n = refl

-- a decimal number is read again
pub number_of-decimal : (n : ℕ) → n < 2 ^ 64 → number_of (decimal n) ≡ Some n
unfolding number_of
number_of-decimal n f =
    let d = decimal_is_IsNumeral n f in
    ap (λ b. cond b (numeral 16 32 (drop 2 (decimal n))) (numeral 10 39 (decimal n))) (is_false (bytes_eq (take 2 (decimal n)) (codes "0x")) (no_prefix (decimal n) d.0.1)) ∙ numeral-decimal n f

-- a value or an address is read again
pub number_of-hex : (n : ℕ) → n < 2 ^ 128 → number_of (hex n) ≡ Some n
unfolding number_of
number_of-hex n f =
    let d = digits_is_IsNumeral 16 false (omega arith) (omega arith) n (omega arith) in
    let l = few n f in
    numeral-digits 16 32 (digits 16 false n) (omega (arith, d.0.0)) l (λ k h. digit_at 16 (digits 16 false n) k d.0.1 h) (omega (arith, d.1)) ∙ ap Some d.1

-- any number that is printed, and the words after it
pub any_number-decimal : (n : ℕ) (ws : Words) → n < 2 ^ 64 → any_number (decimal n ∷ ws) ≡ Ok (n, ws)
unfolding any_number
any_number-decimal n ws f = rw (number_of-decimal n f) refl

-- any value or address that is printed
pub any_number-hex : (n : ℕ) (ws : Words) → n < 2 ^ 128 → any_number (hex n ∷ ws) ≡ Ok (n, ws)
unfolding any_number
any_number-hex n ws f = rw (number_of-hex n f) refl

-- a number in range that is printed, and the words after it
pub number-decimal : (low high n : ℕ) (ws : Words) → n < 2 ^ 64 → low ≤ n → n < high → number low high (decimal n ∷ ws) ≡ Ok (n, ws)
unfolding number
number-decimal low high n ws f a b =
    let p : nat_le low n ≡ true = grind (arith, nat_tests) in
    let q : nat_lt n high ≡ true = grind (arith, nat_tests) in
    rw (any_number-decimal n ws f, p, q) refl

-- a value or an address in range
pub number-hex : (low high n : ℕ) (ws : Words) → n < 2 ^ 128 → low ≤ n → n < high → number low high (hex n ∷ ws) ≡ Ok (n, ws)
unfolding number
number-hex low high n ws f a b =
    let p : nat_le low n ≡ true = grind (arith, nat_tests) in
    let q : nat_lt n high ≡ true = grind (arith, nat_tests) in
    rw (any_number-hex n ws f, p, q) refl

-- a register's name is read again
pub named_by-spelling : (name : Name) → named_by (spelling name) ≡ Some name
unfolding named_by all_names
named_by-spelling names.Rax = refl
named_by-spelling names.Rcx = refl
named_by-spelling names.Rdx = refl
named_by-spelling names.Rbx = refl
named_by-spelling names.Rsp = refl
named_by-spelling names.Rbp = refl
named_by-spelling names.Rsi = refl
named_by-spelling names.Rdi = refl
named_by-spelling names.R8 = refl
named_by-spelling names.R9 = refl
named_by-spelling names.R10 = refl
named_by-spelling names.R11 = refl
named_by-spelling names.R12 = refl
named_by-spelling names.R13 = refl
named_by-spelling names.R14 = refl
named_by-spelling names.R15 = refl
named_by-spelling names.Rip = refl
named_by-spelling names.Rflags = refl
named_by-spelling names.Cr0 = refl
named_by-spelling names.Cr2 = refl
named_by-spelling names.Cr3 = refl
named_by-spelling names.Cr4 = refl
named_by-spelling names.Cr8 = refl
named_by-spelling names.Dr0 = refl
named_by-spelling names.Dr1 = refl
named_by-spelling names.Dr2 = refl
named_by-spelling names.Dr3 = refl
named_by-spelling names.Dr6 = refl
named_by-spelling names.Dr7 = refl
named_by-spelling names.Es = refl
named_by-spelling names.Cs = refl
named_by-spelling names.Ss = refl
named_by-spelling names.Ds = refl
named_by-spelling names.Fs = refl
named_by-spelling names.Gs = refl
named_by-spelling names.Ldtr = refl
named_by-spelling names.Tr = refl
named_by-spelling names.Idtr = refl
named_by-spelling names.Gdtr = refl
named_by-spelling names.Efer = refl
named_by-spelling names.KernelGsBase = refl
named_by-spelling names.Pat = refl
named_by-spelling names.SysenterCs = refl
named_by-spelling names.SysenterEip = refl
named_by-spelling names.SysenterEsp = refl
named_by-spelling names.Star = refl
named_by-spelling names.Lstar = refl
named_by-spelling names.Cstar = refl
named_by-spelling names.Sfmask = refl
named_by-spelling names.VpAssistPage = refl
named_by-spelling names.Sint0 = refl
named_by-spelling names.Scontrol = refl
named_by-spelling names.Simp = refl
named_by-spelling names.CrInterceptControl = refl
named_by-spelling names.CrInterceptCr0Mask = refl
named_by-spelling names.CrInterceptCr4Mask = refl

-- a line's first word is read again
pub keyword_of-spelling : (k : Keyword) → keyword_of (keywords.spelling k) ≡ Some k
unfolding keyword_of all_keywords
keyword_of-spelling words.Vsm = refl
keyword_of-spelling words.Vps = refl
keyword_of-spelling words.Pages = refl
keyword_of-spelling words.Budget = refl
keyword_of-spelling words.Started = refl
keyword_of-spelling words.Mask = refl
keyword_of-spelling words.Word = refl
keyword_of-spelling words.Program = refl
keyword_of-spelling words.Set = refl
keyword_of-spelling words.Get = refl
keyword_of-spelling words.Load = refl
keyword_of-spelling words.Store = refl
keyword_of-spelling words.Exec = refl
keyword_of-spelling words.Spin = refl
keyword_of-spelling words.Jump = refl
keyword_of-spelling words.JumpNe = refl
keyword_of-spelling words.Hypercall = refl
keyword_of-spelling words.VtlCall = refl
keyword_of-spelling words.VtlReturn = refl
keyword_of-spelling words.Poll = refl
keyword_of-spelling words.Ack = refl
keyword_of-spelling words.Eoi = refl
keyword_of-spelling words.Eom = refl
keyword_of-spelling words.Schedule = refl
keyword_of-spelling words.End = refl

-- what is found in a list passes each test that all of the list passes
pub found : {X : Type 0} (finds test : X → Bool) (xs : List X) (x : X) → find finds xs ≡ Some x → list_all test xs ≡ true → test x ≡ true
found finds test [] x e a = cc
found {X} finds test (y ∷ xs) x e a = by (finds y) (test y) refl (found finds test xs x) e a
  where
    by : (f g : Bool) → test y ≡ g → (find finds xs ≡ Some x → list_all test xs ≡ true → test x ≡ true) → cond f (Some y) (find finds xs) ≡ Some x → g && list_all test xs ≡ true → test x ≡ true
    by f false h more e a = cc
    by true true h more e a = cc
    by false true h more e a = more e a

-- a word, as a test
abbrev is_word : List ℕ → Bool
is_word [] = false
is_word (b ∷ word) = list_all is_shown (b ∷ word)

-- what passes it is a word
from_test : (word : List ℕ) → is_word word ≡ true → IsWord word
from_test [] e = cc
from_test (b ∷ word) e = record { some = omega arith; shown = e }

-- a register's name is a word
pub name_is_word : (name : Name) → IsWord (spelling name)
unfolding named_by all_names
name_is_word name =
    from_test (spelling name) (found (is_spelled (spelling name)) (λ n. is_word (spelling n)) all_names name (named_by-spelling name) refl)

-- a line's first word is a word
pub keyword_is_word : (k : Keyword) → IsWord (keywords.spelling k)
unfolding keyword_of all_keywords
keyword_is_word k =
    from_test (keywords.spelling k) (found (keywords.is_spelled (keywords.spelling k)) (λ n. is_word (keywords.spelling n)) all_keywords k (keyword_of-spelling k) refl)
