-- The calls that go by slices: their rows, their input values, and how many elements a slice's words have.
use Rattle.std.proofs.Common.{◌≡◌, ◌≢◌, ◌≤◌, ◌<◌, ◌+◌, ◌*◌, ◌-◌, ◌/◌, ◌%◌, ◌^◌, ◌==◌, ◌&&◌, ◌++◌, ℕ, zero, suc, Bool}
use Rattle.std.proofs.Common.{true, false, not, cond, nat_lt, Option, Some, None, List, [], ◌∷◌, find, drop, length}
use Rattle.std.proofs.Common.{refl, ap, arith}
use Rattle.std.proofs.lemmas.Bool.Decides.{nat_tests}
use Rattle.std.proofs.lemmas.List.{length-drop, length-take-le}
use Rattle.vsm_base.specs.declared.status.HvStatus.{HvStatus}
use Rattle.vsm_core.specs.Calls.{Check, Row, rows, row_of, bits_63_to_60, count_in, first_failed, form_checks}
use Rattle.vsm_core.specs.Calls.{is_fast, start_in}
use Rattle.vsm_core.specs.Hypercalls.{input_refusal, place_checks}
use Rattle.vsm_core.specs.RegisterCalls.{halves, numbers, settings}
use Rattle.vsm_core.specs.Reps.{acting, refusing, slice_past, with_start, words_between}
use Rattle.vsm_core.proofs.Checks.{none-fails}
use Rattle.vsm_laws.specs.Slices.{is_sliced}

-- the row of such a call: its header has two words, and so many bytes of each element are read
pub record IsSlicedRow (row : Row) : Type 0 where
  pub header : row.header / 8 ≡ 2
  pub rep : row.is_rep ≡ true
  pub slow : row.may_be_fast ≡ false
  pub masks : row.code ≡ 0x000C → row.read ≡ 8
  pub gets : row.code ≡ 0x0050 → row.read ≡ 4
  pub sets : row.code ≡ 0x0051 → row.read ≡ 32

abbrev IfSliced : Row → Type 0
IfSliced row = is_sliced row.code ≡ true → IsSlicedRow row

abbrev AreSliced : List Row → Type 0
AreSliced [] = Unit {0}
AreSliced (row ∷ list) = IfSliced row × AreSliced list

sliced-by : (b : Bool) (r row : Row) (other : Option Row) → IfSliced r → (other ≡ Some row → IfSliced row)
    → cond b (Some r) other ≡ Some row → IfSliced row
sliced-by true r row other h g e = let same : r ≡ row = cc in rw (← same) h
sliced-by false r row other h g e = g e

sliced-among : (list : List Row) (code : ℕ) (row : Row) → AreSliced list
    → find (λ (r : Row). r.code == code) list ≡ Some row → IfSliced row
sliced-among [] code row h e = cc
sliced-among (r ∷ list) code row h e = sliced-by (r.code == code) r row (find (λ (r : Row). r.code == code) list) h.0
    (sliced-among list code row h.1) e

all-sliced : AreSliced rows
unfolding rows
all-sliced = (
  λ e. cc,
  (
    λ e. cc,
    (
      λ e. cc,
      (
        λ e. record {
          header = refl;
          rep = refl;
          slow = refl;
          masks = λ e. refl;
          gets = λ e. absurd
              (omega arith);
          sets = λ e. absurd (omega arith);
        },
        (
          λ e. cc,
          (
            λ e. cc,
            (
              λ e. record {
                header = refl;
                rep = refl;
                slow = refl;
                masks = λ e. absurd
                    (omega arith);
                gets = λ e. refl;
                sets = λ e. absurd (omega arith);
              },
              (
                λ e. record {
                  header = refl;
                  rep = refl;
                  slow = refl;
                  masks = λ e. absurd
                      (omega arith);
                  gets = λ e. absurd (omega arith);
                  sets = λ e. refl;
                },
                (λ e. cc, tt),
              ),
            ),
          ),
        ),
      ),
    ),
  ),
)

pub sliced-row : (code : ℕ) (row : Row) → row_of code ≡ Some row → is_sliced row.code ≡ true → IsSlicedRow row
unfolding row_of
sliced-row code row e sliced = sliced-among rows code row all-sliced e sliced

-- the input value of one that isn't refused before its first step
pub record IsGood (value : ℕ) : Type 0 where
  pub starts : start_in value < count_in value
  pub slow : is_fast value ≡ false
  pub top : bits_63_to_60 value ≡ 0

met : (a b : Bool) → (a && not b) ≡ false → a ≡ true → b ≡ true
met a true h e = refl
met true false h e = cc
met false false h e = cc

unmet : (a b : Bool) → (a && not b) ≡ false → b ≡ false → a ≡ false
unmet true true h e = cc
unmet true false h e = cc
unmet false b h e = refl

good-form : (row : Row) (value : ℕ) (more : List Check) → IsSlicedRow row
    → first_failed (form_checks row value ++ more) ≡ None → IsGood value
unfolding form_checks
good-form row value more sliced none =
    let fine = none-fails (form_checks row value ++ more) none in
    let below : nat_lt (start_in value) (count_in value) ≡ true =
    met row.is_rep (nat_lt (start_in value) (count_in value)) fine.1.1.1.1.1.1.1.1.0 sliced.rep in
    let bits : not (bits_63_to_60 value == 0) ≡ false = fine.1.1.1.0 in
    record {
      starts = grind arith;
      slow = unmet (is_fast value) row.may_be_fast fine.1.1.1.1.0 sliced.slow;
      top = grind (arith, nat_tests);
    }

pub good-value : (pages : ℕ) (row : Row) (value address output : ℕ) → IsSlicedRow row
    → input_refusal pages (Some row) value address output ≡ None → IsGood value
good-value pages row value address output sliced none = good-form row value
    (cond (is_fast value) [] (place_checks pages row value address output)) sliced none

-- the start of the next slice
pub next-value : (value : ℕ) → IsGood value → value < 2 ^ 64 → start_in value + 8 < count_in value
    → with_start value (start_in value + 8) ≡ value + 8 * 2 ^ 48
next-value value good small more =
    let top = good.top in
    omega (arith, top, small, more)

-- the words of a slice
pub mask-words : (start count : ℕ) → start < count
    → words_between 8 start (slice_past start count) ≡ slice_past start count - start
mask-words start count h = grind arith

pub set-words : (start count : ℕ) → start < count
    → words_between 32 start (slice_past start count) ≡ 4 * (slice_past start count - start)
set-words start count h = grind arith

pub few-elements : (start count : ℕ) → start < count → slice_past start count - start ≤ 8
few-elements start count h = grind arith

-- the elements of as many words
pub settings-length : (many : ℕ) (words : List ℕ) → length words ≡ 4 * many → length (settings words) ≡ many
settings-length zero [] e = refl
settings-length zero (x ∷ words) e = absurd (omega arith)
settings-length (suc many) (a ∷ b ∷ c ∷ d ∷ words) e = ap suc (settings-length many words (omega arith))
settings-length (suc many) [] e = absurd (omega arith)
settings-length (suc many) (a ∷ []) e = absurd (omega arith)
settings-length (suc many) (a ∷ b ∷ []) e = absurd (omega arith)
settings-length (suc many) (a ∷ b ∷ c ∷ []) e = absurd (omega arith)

halves-length : (words : List ℕ) → length (halves words) ≡ 2 * length words
halves-length [] = refl
halves-length (word ∷ words) = let more = halves-length words in omega (arith, more)

pub numbers-length : (start past : ℕ) (words : List ℕ) → start < past → length words ≡ words_between 4 start past
    → length (numbers start past words) ≡ past - start
numbers-length start past words h long =
    length-take-le (past - start) (drop (start % 2) (halves words))
    (rw (length-drop (start % 2) (halves words), halves-length words, long) (grind arith))

-- the refusals of elements behind others
pub acting-behind : (before more : List (Option HvStatus)) → refusing before ≡ None
    → acting (before ++ more) ≡ length before + acting more
acting-behind [] more none = omega arith
acting-behind (None ∷ before) more none = let later = acting-behind before more none in omega (arith, later)
acting-behind (Some status ∷ before) more none = cc

pub refusing-behind : (before more : List (Option HvStatus)) → refusing before ≡ None
    → refusing (before ++ more) ≡ refusing more
refusing-behind [] more none = refl
refusing-behind (None ∷ before) more none = refusing-behind before more none
refusing-behind (Some status ∷ before) more none = cc

pub acting-all : (refusals : List (Option HvStatus)) → refusing refusals ≡ None → acting refusals ≡ length refusals
acting-all [] none = refl
acting-all (None ∷ refusals) none = ap suc (acting-all refusals none)
acting-all (Some status ∷ refusals) none = cc

pub acting-within : (refusals : List (Option HvStatus)) → refusing refusals ≢ None → acting refusals < length refusals
acting-within [] some = absurd (some refl)
acting-within (None ∷ refusals) some = let more = acting-within refusals some in omega (arith, more)
acting-within (Some status ∷ refusals) some = omega arith
