-- The numbers of a slice, one by one, and what they put out.
use Rattle.std.proofs.Common.{◌≡◌, ◌∙◌, ℕ, zero, suc, ◌+◌, ◌-◌, ◌*◌, ◌/◌, ◌%◌, ◌^◌, ◌<◌, ◌≤◌, Option, Some, None, List, [], ◌∷◌, ◌++◌, take, drop, length, get_or, refl, ap, sym, arith, length-drop, append_assoc}
use Rattle.std.specs.Prelude.{slice_set}
use Rattle.std.proofs.lemmas.Grind.{flat_map-append}
use Rattle.std.proofs.lemmas.List.{get_or-map, get_or-take, get_or-drop, length-map, length-take-le, take_more, take_more_set, drop-set-lt, length-set, drop-drop}
use Rattle.vsm_base.specs.declared.places.Vtl.{Vtl}
use Rattle.vsm_base.specs.declared.status.HvStatus.{HvStatus}
use Rattle.vsm_core.specs.RegisterCalls.{halves, get_refusal, got_words, value_named, value_words, register_of}
use Rattle.vsm_core.specs.Reps.{words_between, acting, refusing}
use Rattle.vsm_core.specs.State.{State}
use Rattle.rep_frame.specs.Frames.{Frame, past_of}
use Rattle.rep_frame.specs.Slices.{half_at, slice_numbers, number_refusals, slice_got}
use Rattle.rep_frame.proofs.Slicing.{IsClear, clear-none, clear-more, clear-refused, clear-all}
use Rattle.rep_frame.proofs.Settings.{IsSlice}

halves-length : (words : List ℕ) → length (halves words) ≡ 2 * length words
halves-length [] = refl
halves-length (word ∷ words) = omega (arith, halves-length words)

even : (k : ℕ) → suc (suc k) % 2 ≡ k % 2
even k = omega arith

next-half : (k : ℕ) → suc (suc k) / 2 ≡ suc (k / 2)
next-half k = omega arith

halves-at : (words : List ℕ) (k e : ℕ) → k < 2 * length words → get_or (halves words) k e ≡ half_at words k
halves-at [] k e below = absurd (omega arith)
halves-at (word ∷ words) zero e below = refl
halves-at (word ∷ words) (suc zero) e below = refl
halves-at (word ∷ words) (suc (suc k)) e below = rw (even k, next-half k) (halves-at words k e (omega arith))

within-take : (n : ℕ) (words : List ℕ) (k : ℕ) → k < 2 * n → half_at (take n words) k ≡ half_at words k
within-take n words k below =
    let half : k / 2 < n = omega arith in
    let word = get_or-take n words (k / 2) 0 half in
    rw word refl

between : (start past : ℕ) → start ≤ past → start % 2 + (past - start) ≤ 2 * words_between 4 start past
between start past h = omega arith

few-words : (start past : ℕ) → start ≤ past → past ≤ start + 8 → words_between 4 start past ≤ 5
few-words start past h few = omega arith

-- the halves of a slice's words
abbrev words_held : Frame → ℕ
words_held frame = words_between 4 frame.next (past_of frame)

numbers-within : (frame : Frame) (words : List ℕ) → IsSlice frame words → words_held frame ≤ length words
numbers-within frame words slice = let few = few-words frame.next (past_of frame) slice.ordered slice.few in let long = slice.long in omega arith

numbers-length : (frame : Frame) (words : List ℕ) → IsSlice frame words → length (slice_numbers frame words) ≡ past_of frame - frame.next
numbers-length frame words slice =
    let span = between frame.next (past_of frame) slice.ordered in
    let long = length-take-le (words_held frame) words (numbers-within frame words slice) in
    let all = halves-length (take (words_held frame) words) in
    let left = length-drop (frame.next % 2) (halves (take (words_held frame) words)) in
    length-take-le (past_of frame - frame.next) (drop (frame.next % 2) (halves (take (words_held frame) words))) (omega (arith, span, long, all, left))

number-at : (frame : Frame) (words : List ℕ) (i e : ℕ) → IsSlice frame words → i < past_of frame - frame.next → get_or (slice_numbers frame words) i e ≡ half_at words (frame.next % 2 + i)
number-at frame words i e slice below =
    let span = between frame.next (past_of frame) slice.ordered in
    let long = length-take-le (words_held frame) words (numbers-within frame words slice) in
    let inside : frame.next % 2 + i < 2 * words_held frame = omega (arith, span, below) in
    get_or-take (past_of frame - frame.next) (drop (frame.next % 2) (halves (take (words_held frame) words))) i e below
    ∙ get_or-drop (frame.next % 2) (halves (take (words_held frame) words)) i e
    ∙ halves-at (take (words_held frame) words) (frame.next % 2 + i) e (omega (arith, inside, long))
    ∙ within-take (words_held frame) words (frame.next % 2 + i) inside

refusals-length : (caller target : Vtl) (frame : Frame) (words : List ℕ) → IsSlice frame words → length (number_refusals caller target frame words) ≡ past_of frame - frame.next
refusals-length caller target frame words slice = length-map (slice_numbers frame words) (get_refusal caller target frame.count) ∙ numbers-length frame words slice

refusal-at : (caller target : Vtl) (frame : Frame) (words : List ℕ) (i : ℕ) → IsSlice frame words → i < past_of frame - frame.next → get_or (number_refusals caller target frame words) i None ≡ get_refusal caller target frame.count (half_at words (frame.next % 2 + i))
refusal-at caller target frame words i slice below =
    let within : i < length (slice_numbers frame words) = rw (numbers-length frame words slice) below in
    get_or-map (get_refusal caller target frame.count) (slice_numbers frame words) i 0 None within
    ∙ ap (get_refusal caller target frame.count) (number-at frame words i 0 slice below)

-- the output before the slice and now, where so many of its elements were put out
pub record IsGotTo (caller target : Vtl) (state : State) (frame : Frame) (words old new : List ℕ) (i : ℕ) : Type 0 where
  pub clear : IsClear (number_refusals caller target frame words) i
  pub output : take (2 * i) new ≡ got_words state target (take i (slice_numbers frame words))
  pub rest : drop (2 * i) new ≡ drop (2 * i) old
  pub long : length new ≡ 16

pub got-none : (caller target : Vtl) (state : State) (frame : Frame) (words old : List ℕ) → length old ≡ 16 → IsGotTo caller target state frame words old old 0
got-none caller target state frame words old long = record { clear = clear-none (number_refusals caller target frame words); output = refl; rest = refl; long = long }

-- two words more
abbrev two_more : List ℕ → ℕ → ℕ → ℕ → List ℕ
two_more output i low high = slice_set (slice_set output (2 * i) low) (2 * i + 1) high

two-taken : (output : List ℕ) (i low high : ℕ) → 2 * i + 1 < length output → take (2 * (i + 1)) (two_more output i low high) ≡ take (2 * i) output ++ low ∷ high ∷ []
two-taken output i low high below =
    let one = take_more_set output (2 * i) low (omega arith) in
    let long = length-set output (2 * i) low in
    let two = take_more_set (slice_set output (2 * i) low) (2 * i + 1) high (omega (arith, long)) in
    let end : 2 * (i + 1) ≡ 2 * i + 1 + 1 = omega arith in
    rw (end, two, one) (append_assoc (take (2 * i) output) (low ∷ []) (high ∷ []))

two-dropped : (output old : List ℕ) (i low high : ℕ) → drop (2 * i) output ≡ drop (2 * i) old → drop (2 * (i + 1)) (two_more output i low high) ≡ drop (2 * (i + 1)) old
two-dropped output old i low high e =
    let end : 2 * (i + 1) ≡ 2 * i + 2 = omega arith in
    rw end
    (drop-set-lt (2 * i + 2) (slice_set output (2 * i) low) (2 * i + 1) high (omega arith)
    ∙ drop-set-lt (2 * i + 2) output (2 * i) low (omega arith)
    ∙ sym (drop-drop 2 (2 * i) output) ∙ ap (drop 2) e ∙ drop-drop 2 (2 * i) old)

got_then : (state : State) (target : Vtl) (ns : List ℕ) (i number : ℕ) → i < length ns → get_or ns i 0 ≡ number → got_words state target (take (i + 1) ns) ≡ got_words state target (take i ns) ++ value_words (value_named state target (register_of number))
got_then state target ns i number below e =
    rw (take_more ns i 0 below, e)
    (flat_map-append (λ n. value_words (value_named state target (register_of n))) (take i ns) (number ∷ []))

pub got-more : (caller target : Vtl) (state : State) (frame : Frame) (words old output new : List ℕ) (i value : ℕ) → IsSlice frame words → i < past_of frame - frame.next → get_refusal caller target frame.count (half_at words (frame.next % 2 + i)) ≡ None → value ≡ value_named state target (register_of (half_at words (frame.next % 2 + i))) → new ≡ two_more output i (value % 2 ^ 64) (value / 2 ^ 64) → IsGotTo caller target state frame words old output i → length new ≡ 16 → IsGotTo caller target state frame words old new (i + 1)
got-more caller target state frame words old output new i value slice below none is put so_far long =
    let number = half_at words (frame.next % 2 + i) in
    let within : i < length (slice_numbers frame words) = rw (numbers-length frame words slice) below in
    let before = so_far.long in
    let few = slice.few in
    let more = got_then state target (slice_numbers frame words) i number within (number-at frame words i 0 slice below) in
    let taken = two-taken output i (value % 2 ^ 64) (value / 2 ^ 64) (omega (arith, before, few, below)) in
    record {
      clear = clear-more (number_refusals caller target frame words) i (rw (refusals-length caller target frame words slice) below) (refusal-at caller target frame words i slice below ∙ none) so_far.clear;
      output = ap (take (2 * (i + 1))) put ∙ taken ∙ ap (λ (got : List ℕ). got ++ value_words value) so_far.output ∙ ap (λ v. got_words state target (take i (slice_numbers frame words)) ++ value_words v) is ∙ sym more;
      rest = ap (drop (2 * (i + 1))) put ∙ two-dropped output old i (value % 2 ^ 64) (value / 2 ^ 64) so_far.rest;
      long = long;
    }

-- how many acted, what refused the next, and the output
pub record HasGot (caller target : Vtl) (state : State) (frame : Frame) (words old new : List ℕ) (acted : ℕ) (refused : Option HvStatus) : Type 0 where
  pub done : acted ≡ acting (number_refusals caller target frame words)
  pub refusal : refused ≡ refusing (number_refusals caller target frame words)
  pub output : take (2 * acted) new ≡ slice_got caller target frame words state
  pub rest : drop (2 * acted) new ≡ drop (2 * acted) old

has_got : (caller target : Vtl) (state : State) (frame : Frame) (words old new : List ℕ) (i : ℕ) (refusal : Option HvStatus) → (acting (number_refusals caller target frame words) ≡ i) × (refusing (number_refusals caller target frame words) ≡ refusal) → IsGotTo caller target state frame words old new i → HasGot caller target state frame words old new i refusal
has_got caller target state frame words old new i refusal ends so_far = record {
  done = sym ends.0;
  refusal = sym ends.1;
  output = so_far.output ∙ ap (λ k. got_words state target (take k (slice_numbers frame words))) (sym ends.0);
  rest = so_far.rest;
}

pub got-refused : (caller target : Vtl) (state : State) (frame : Frame) (words old new : List ℕ) (i : ℕ) (status : HvStatus) → IsSlice frame words → i < past_of frame - frame.next → get_refusal caller target frame.count (half_at words (frame.next % 2 + i)) ≡ Some status → IsGotTo caller target state frame words old new i → HasGot caller target state frame words old new i (Some status)
got-refused caller target state frame words old new i status slice below some so_far =
    has_got caller target state frame words old new i (Some status)
    (clear-refused (number_refusals caller target frame words) i status (rw (refusals-length caller target frame words slice) below) (refusal-at caller target frame words i slice below ∙ some) so_far.clear)
    so_far

pub got-all : (caller target : Vtl) (state : State) (frame : Frame) (words old new : List ℕ) (i : ℕ) → IsSlice frame words → past_of frame - frame.next ≡ i → IsGotTo caller target state frame words old new i → HasGot caller target state frame words old new i None
got-all caller target state frame words old new i slice whole so_far =
    has_got caller target state frame words old new i None
    (clear-all (number_refusals caller target frame words) i (refusals-length caller target frame words slice ∙ whole) so_far.clear)
    so_far
