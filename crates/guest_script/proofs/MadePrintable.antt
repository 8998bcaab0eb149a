-- The script that is made from a number is one that the language has.
use Rattle.std.proofs.Common.{◌≡◌, ℕ, zero, suc, ◌+◌, ◌/◌, ◌%◌, ◌^◌, ◌<◌, ◌≤◌, List, [], ◌∷◌, ◌++◌, length, Bool, true, false, not, cond, ◌&&◌, ◌==◌, nat_lt, refl, arith, length-append}
use Rattle.vsm_base.specs.declared.name.Name.TheVariants as registers
use Rattle.vsm_base.specs.declared.places.Page.{Page}
use Rattle.vsm_core.specs.declared.operation.Op.{Op}
use Rattle.vsm_core.specs.declared.operation.Op.TheVariants as ops
use Rattle.vsm_core.specs.declared.operation.Operand.TheVariants.{Number}
use Rattle.guest_script.specs.Made.{next_state, state_after, address_of, access_of, accesses, enabling, protecting, trying, inputs, made_program, made_programs, made_turns, made_words, made_schedule, made}
use Rattle.guest_script.specs.Within.{IsWithin}
use Rattle.guest_script.specs.Words.{is_given}
use Rattle.guest_script.proofs.FieldsSaid.{and_first, and_second, less}
use Rattle.guest_script.proofs.Printable.{CanSay, CanSayAll, IsProgram, ArePrograms, AreWords, IsEntry, AreLines, IsPrintable}

-- memory words that can be given one after another, by a test
abbrev are_words : ℕ → List (Page × ℕ × ℕ) → List (Page × ℕ × ℕ) → Bool
are_words pages before [] = true
are_words pages before (w ∷ others) =
    nat_lt w.0.0 pages && (nat_lt w.1 512 && (nat_lt w.2 (2 ^ 64) && (not (is_given w.0.0 w.1 before) && are_words pages (before ++ w ∷ []) others)))

not_true : (b : Bool) → not b ≡ true → b ≡ false
not_true true e = cc
not_true false e = refl

-- the test tells so
AreWords-from : (pages : ℕ) (before words : List (Page × ℕ × ℕ)) → are_words pages before words ≡ true → AreWords pages before words
AreWords-from pages before [] e = tt
AreWords-from pages before (w ∷ words) e =
    let page = nat_lt w.0.0 pages in
    let index = nat_lt w.1 512 in
    let value = nat_lt w.2 (2 ^ 64) in
    let fresh = not (is_given w.0.0 w.1 before) in
    let others = are_words pages (before ++ w ∷ []) words in
    let e1 = and_second page (index && (value && (fresh && others))) e in
    let e2 = and_second index (value && (fresh && others)) e1 in
    let e3 = and_second value (fresh && others) e2 in (
      less w.0.0 pages (and_first page (index && (value && (fresh && others))) e),
      (
        less w.1 512 (and_first index (value && (fresh && others)) e1),
        (
          less w.2 (2 ^ 64) (and_first value (fresh && others) e2),
          (not_true (is_given w.0.0 w.1 before) (and_first fresh others e3), AreWords-from pages (before ++ w ∷ []) words (and_second fresh others e3)),
        ),
      ),
    )

-- the memory words
words_are : AreWords 64 [] made_words
unfolding made_words inputs
words_are = AreWords-from 64 [] made_words refl

-- a state is below 2^64
next_below : (x : ℕ) → next_state x < 2 ^ 64
unfolding next_state
next_below x = omega arith

-- an address is one of the first 32 pages
address_below : (vp x : ℕ) → vp ≤ 3 → x < 2 ^ 64 → address_of vp x < 2 ^ 64
unfolding address_of
address_below vp x v b = omega arith

-- an access
can_access : (vp number x : ℕ) → vp ≤ 3 → number < 2 ^ 64 → x < 2 ^ 64 → CanSay (access_of vp number x)
unfolding access_of
can_access vp number x v n b =
    let a = address_below vp x v b in
    elim (x / 2 ^ 51 % 2 == 1) as (λ b. CanSay (cond b (ops.Store (record { 0 = address_of vp x }) (Number number)) (ops.Load registers.Rax (record { 0 = address_of vp x })))) [ true ↦ (a, n) | false ↦ (refl, a) ]

-- so many accesses
can_access_all : (vp number count x : ℕ) → vp ≤ 3 → number + count ≤ 2 ^ 64 → CanSayAll (accesses vp number count x)
can_access_all vp number zero x v n = tt
can_access_all vp number (suc count) x v n =
    (can_access vp number (next_state x) v (omega arith) (next_below x), can_access_all vp (number + 1) count (next_state x) v (omega arith))

-- how many they are
length-accesses : (vp number count x : ℕ) → length (accesses vp number count x) ≡ count
length-accesses vp number zero x = refl
length-accesses vp number (suc count) x =
    let l = length-accesses vp (number + 1) count (next_state x) in
    omega arith

-- the operations that don't depend on the number
can_enable : CanSayAll enabling
unfolding enabling
can_enable =
    ((refl, omega arith), ((refl, omega arith), ((refl, omega arith), (tt, ((refl, omega arith), ((refl, omega arith), (tt, ((refl, omega arith), (tt, tt)))))))))

can_protect : CanSayAll protecting
unfolding protecting
can_protect =
    ((refl, omega arith), ((refl, omega arith), (tt, ((refl, omega arith), ((refl, omega arith), (tt, ((refl, omega arith), (tt, tt))))))))

can_try : CanSayAll trying
unfolding trying
can_try = ((refl, omega arith), ((omega arith, omega arith), tt))

-- operations after others
can_say-append : (xs ys : List Op) → CanSayAll xs → CanSayAll ys → CanSayAll (xs ++ ys)
can_say-append [] ys a b = b
can_say-append (x ∷ xs) ys a b = (a.0, can_say-append xs ys a.1 b)

-- how many operations don't depend on the number
length-enabling : length enabling ≡ 9
unfolding enabling
length-enabling = refl

length-protecting : length protecting ≡ 8
unfolding protecting
length-protecting = refl

length-trying : length trying ≡ 2
unfolding trying
length-trying = refl

-- the programs of the first processor, of another and of any
first_is : (n x : ℕ) → n ≤ 1000 → IsProgram (record { zero = enabling ++ accesses 0 1 n x ++ trying; one = protecting })
first_is n x few = record {
  zero_few = simp (length-append, length-enabling, length-trying, length-accesses) (omega arith);
  one_few = simp length-protecting (omega arith);
  zero_said = can_say-append (enabling ++ accesses 0 1 n x) trying (can_say-append enabling (accesses 0 1 n x) can_enable (can_access_all 0 1 n x (omega arith) (omega arith))) can_try;
  one_said = can_protect;
}

other_is : (n vp x : ℕ) → n ≤ 1000 → vp ≤ 3 → IsProgram (record { zero = accesses vp 1 n x ++ trying; one = [] })
other_is n vp x few v = record {
  zero_few = simp (length-append, length-trying, length-accesses) (omega arith);
  one_few = omega arith;
  zero_said = can_say-append (accesses vp 1 n x) trying (can_access_all vp 1 n x v (omega arith)) can_try;
  one_said = tt;
}

program_is : (n vp x : ℕ) → n ≤ 1000 → vp ≤ 3 → IsProgram (made_program n vp x)
unfolding made_program
program_is n vp x few v =
    elim (vp == 0) as (λ b. IsProgram (cond b (record { zero = enabling ++ accesses 0 1 n x ++ trying; one = protecting }) (record { zero = accesses vp 1 n x ++ trying; one = [] }))) [ true ↦ first_is n x few | false ↦ other_is n vp x few v ]

-- the programs of so many processors
programs_are : (n vp count x : ℕ) → n ≤ 1000 → vp + count ≤ 4 → ArePrograms (made_programs n vp count x)
programs_are n vp zero x few v = tt
programs_are n vp (suc count) x few v =
    (program_is n vp x few (omega arith), programs_are n (vp + 1) count (state_after n x) few (omega arith))

-- the entry of a processor
turns_are : (n vp : ℕ) → n ≤ 1000 → IsEntry (made_turns n vp)
turns_are n vp few = record { whole = refl; some = omega arith; few = omega arith }

-- the one line of the schedule
schedule_is : (n : ℕ) → n ≤ 1000 → AreLines (made_schedule n)
unfolding made_schedule
schedule_is n few = (omega arith, ((turns_are n 0 few, (turns_are n 1 few, (turns_are n 2 few, (turns_are n 3 few, tt)))), tt))

-- the script that is made keeps the limits
pub made_is_within : (n : ℕ) → 1 ≤ n → n ≤ 1000 → IsWithin (made n)
unfolding made made_schedule
made_is_within n some few = record {
  vps_some = omega arith;
  vps_few = omega arith;
  pages_some = omega arith;
  pages_few = omega arith;
  budget_some = omega arith;
  budget_few = omega arith;
  started_some = omega arith;
  started_few = omega arith;
  programs = refl;
  turns_few = omega arith;
  entries = refl;
}

-- the script that is made is one that the language has
pub made_is_printable : (n : ℕ) → 1 ≤ n → n ≤ 1000 → IsPrintable (made n)
unfolding made
made_is_printable n some few = record {
  within = made_is_within n some few;
  masks = tt;
  words = words_are;
  programs = programs_are n 0 4 n few (omega arith);
  schedule = schedule_is n few;
}
