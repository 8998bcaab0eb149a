-- What a call asks of the partition is a slice: of the elements of a call for masks at most eight are read, all of them the call's own.
use Rattle.std.proofs.Common.{◌≡◌, ◌≤◌, ◌<◌, ◌∙◌, ◌+◌, ◌==◌, ◌&&◌, ℕ, Bool, true, false, not, cond, nat_lt, Option, Some, None, List, [], ◌∷◌, ◌++◌, find, length, refl, ap, arith}
use Rattle.std.proofs.lemmas.Bool.Decides.{nat_tests}
use Rattle.vsm_base.specs.declared.places.Vtl.{Vtl}
use Rattle.vsm_base.specs.declared.status.HvStatus.{HvStatus}
use Rattle.vsm_core.specs.declared.register.CallRegister.{CallRegister}
use Rattle.vsm_core.specs.declared.register.CallRegister.TheVariants.{PartitionStatus, PartitionConfig}
use Rattle.vsm_core.specs.declared.request.PartCall.{PartCall}
use Rattle.vsm_core.specs.declared.request.PartCall.TheVariants.{EnablePartition, EnableVp, Start, Modify, Flush}
use Rattle.vsm_core.specs.Calls.{Row, rows, row_of, code_in, count_in, start_in, Check, first_failed, form_checks, is_fast}
use Rattle.vsm_core.specs.Hypercalls.{call_of, input_refusal, place_checks}
use Rattle.vsm_core.specs.Protection.{IsSlice}
use Rattle.vsm_core.specs.RegisterCalls.{Setting, get_refusal, set_refusal, register_of, read_call, write_call, unless_refused, look_in, write_in}
use Rattle.vsm_core.specs.Reps.{slice_past, words_between}
use Rattle.vsm_core.proofs.Checks.{none-fails}

-- the elements of a call for masks are read whole, and each slice begins at one of them
abbrev pub IsPaged : (start count : ℕ) → Row → Type 0
IsPaged start count row = row.code ≡ 0x000C → (row.read ≡ 8) × (start < count)

-- what a call of this row asks
abbrev IsOne : Row → Type 0
IsOne row = row.code ≡ 0x000C → (row.read ≡ 8) × (row.is_rep ≡ true)

abbrev AreOnes : List Row → Type 0
AreOnes [] = Unit {0}
AreOnes (row ∷ list) = IsOne row × AreOnes list

one-by : (b : Bool) (r row : Row) (other : Option Row) → IsOne r → (other ≡ Some row → IsOne row) → cond b (Some r) other ≡ Some row → IsOne row
one-by true r row other h g e = let same : r ≡ row = cc in rw (← same) h
one-by false r row other h g e = g e

one-among : (list : List Row) (code : ℕ) (row : Row) → AreOnes list → find (λ (r : Row). r.code == code) list ≡ Some row → IsOne row
one-among [] code row h e = cc
one-among (r ∷ list) code row h e = one-by (r.code == code) r row (find (λ (r : Row). r.code == code) list) h.0 (one-among list code row h.1) e

all-ones : AreOnes rows
unfolding rows
all-ones = (λ e. absurd (omega arith), (λ e. absurd (omega arith), (λ e. absurd (omega arith), (λ e. (refl, refl), (λ e. absurd (omega arith), (λ e. absurd (omega arith), (λ e. absurd (omega arith), (λ e. absurd (omega arith), (λ e. absurd (omega arith), tt)))))))))

one-row : (code : ℕ) (row : Row) → row_of code ≡ Some row → IsOne row
unfolding row_of
one-row code row e = one-among rows code row all-ones e

met : (a b : Bool) → (a && not b) ≡ false → a ≡ true → b ≡ true
met a true h e = refl
met true false h e = cc
met false false h e = cc

starts-below : (row : Row) (value : ℕ) (more : List Check) → first_failed (form_checks row value ++ more) ≡ None → row.is_rep ≡ true → start_in value < count_in value
unfolding form_checks
starts-below row value more none rep =
    let below : nat_lt (start_in value) (count_in value) ≡ true = met row.is_rep (nat_lt (start_in value) (count_in value)) (none-fails (form_checks row value ++ more) none).1.1.1.1.1.1.1.1.0 rep in
    grind arith

-- a call that isn't refused
pub paged-row : (pages : ℕ) (row : Row) (value address output : ℕ) → row_of (code_in value) ≡ Some row → input_refusal pages (Some row) value address output ≡ None → IsPaged (start_in value) (count_in value) row
paged-row pages row value address output is none = λ e.
    let one = one-row (code_in value) row is e in
    (one.0, starts-below row value (cond (is_fast value) [] (place_checks pages row value address output)) none one.1)

-- the words of a slice
few-words : (start count : ℕ) → start < count → words_between 8 start (slice_past start count) ≤ 8
few-words start count h = grind arith

words-within : (start count : ℕ) → start < count → start + words_between 8 start (slice_past start count) ≤ count
words-within start count h = grind arith

-- a call by its code
other-slice : (a b c : Bool) (header : List ℕ) (count : ℕ) → count < 4096 → IsSlice (cond a (EnablePartition header) (cond b (EnableVp header) (cond c (Start header) (Flush count))))
other-slice true b c header count h = tt
other-slice false true c header count h = tt
other-slice false false true header count h = tt
other-slice false false false header count h = h

either-slice : (pages : Bool) (other : PartCall) (header elements : List ℕ) (start count : ℕ)
    → (pages ≡ true → (length elements ≤ 8) × (start + length elements ≤ count)) → count < 4096 → IsSlice other → IsSlice (cond pages (Modify header (record { items = elements }) start count) other)
either-slice true other header elements start count h few g = let held = h refl in (held.0, held.1, few)
either-slice false other header elements start count h few g = g

call-slice : (code : ℕ) (header elements : List ℕ) (start count : ℕ) → (code ≡ 0x000C → (length elements ≤ 8) × (start + length elements ≤ count)) → count < 4096 → IsSlice (call_of code header elements start count)
call-slice code header elements start count h few =
    either-slice (code == 0x000C) (cond (code == 0x000D) (EnablePartition header) (cond (code == 0x000F) (EnableVp header) (cond (code == 0x0099) (Start header) (Flush count)))) header elements start count
    (λ is. h (grind (arith, nat_tests))) few (other-slice (code == 0x000D) (code == 0x000F) (code == 0x0099) header count few)

count-few : (value : ℕ) → count_in value < 4096
count-few value = grind arith

-- where the words of the slice are read
pub read-slice : (row : Row) (value : ℕ) (header elements : List ℕ) → IsPaged (start_in value) (count_in value) row
    → length elements ≡ words_between row.read (start_in value) (slice_past (start_in value) (count_in value)) → IsSlice (call_of row.code header elements (start_in value) (count_in value))
read-slice row value header elements paged long =
    let start = start_in value in
    let count = count_in value in
    call-slice row.code header elements start count (λ is.
    let held = paged is in
    let long : length elements ≡ words_between 8 start (slice_past start count) = long ∙ ap (λ size. words_between size start (slice_past start count)) held.0 in
    (rw long (few-words start count held.1), rw long (words-within start count held.1))) (count-few value)

-- where there are none
pub fast-slice : (row : Row) (value : ℕ) (header : List ℕ) → IsPaged (start_in value) (count_in value) row → IsSlice (call_of row.code header [] (start_in value) (count_in value))
fast-slice row value header paged =
    call-slice row.code header [] (start_in value) (count_in value) (λ is. let held = paged is in (omega arith, omega (arith, held.1))) (count-few value)

-- the calls of the registers have no elements
abbrev pub IfSlice : Option PartCall → Type 0
IfSlice None = Unit {0}
IfSlice (Some call) = IsSlice call

unless-slice : (refusal : Option HvStatus) (call : Option PartCall) → IfSlice call → IfSlice (unless_refused refusal call)
unless-slice None call h = h
unless-slice (Some status) call h = tt

read_call-slice : (register : Option CallRegister) → IfSlice (read_call register)
read_call-slice (Some PartitionStatus) = tt
read_call-slice (Some PartitionConfig) = tt
read_call-slice _ = tt

write_call-slice : (register : Option CallRegister) (value : ℕ) → IfSlice (write_call register value)
write_call-slice (Some PartitionConfig) value = tt
write_call-slice _ value = tt

pub look-slice : (caller target : Vtl) (count : ℕ) (numbers : List ℕ) → IfSlice (look_in caller target count numbers)
look-slice caller target count [] = tt
look-slice caller target count (number ∷ numbers) = unless-slice (get_refusal caller target count number) (read_call (register_of number)) (read_call-slice (register_of number))

pub write-slice : (caller target : Vtl) (count : ℕ) (settings : List Setting) → IfSlice (write_in caller target count settings)
write-slice caller target count [] = tt
write-slice caller target count (s ∷ settings) = unless-slice (set_refusal caller target count s) (write_call (register_of s.number) s.value) (write_call-slice (register_of s.number) s.value)
