-- The settings of a slice, one by one.
use Rattle.std.proofs.Common.{◌≡◌, ◌∙◌, ℕ, zero, suc, ◌+◌, ◌-◌, ◌*◌, ◌<◌, ◌≤◌, Bool, Option, Some, None, List, [], ◌∷◌, take, length, get_or, refl, ap, sym, arith}
use Rattle.std.proofs.lemmas.List.{get_or-map, length-map, take_more}
use Rattle.std.proofs.lemmas.List.Sums.{fold-append}
use Rattle.vsm_base.specs.declared.places.Vtl.{Vtl}
use Rattle.vsm_base.specs.declared.status.HvStatus.{HvStatus}
use Rattle.vsm_core.specs.RegisterCalls.{Setting, settings, set_refusal, set_one, all_set}
use Rattle.vsm_core.specs.Registers.{Registers}
use Rattle.vsm_core.specs.Reps.{words_between, acting, refusing}
use Rattle.vsm_core.specs.State.{State}
use Rattle.rep_frame.specs.Frames.{Frame, past_of}
use Rattle.rep_frame.specs.Slices.{state_with, setting_at, slice_settings, setting_refusals, slice_set}
use Rattle.rep_frame.proofs.Slicing.{IsClear, clear-none, clear-more, clear-refused, clear-all}

four : (n : ℕ) → 4 * suc n ≡ suc (suc (suc (suc (4 * n))))
four n = omega arith

four_and : (n k : ℕ) → 4 * suc n + k ≡ suc (suc (suc (suc (4 * n + k))))
four_and n k = omega arith

settings-length : (n : ℕ) (words : List ℕ) → 4 * n ≤ length words → length (settings (take (4 * n) words)) ≡ n
settings-length zero words h = refl
settings-length (suc n) [] h = omega arith
settings-length (suc n) (a ∷ []) h = omega arith
settings-length (suc n) (a ∷ b ∷ []) h = omega arith
settings-length (suc n) (a ∷ b ∷ c ∷ []) h = omega arith
settings-length (suc n) (a ∷ b ∷ c ∷ d ∷ words) h =
    let rest = settings-length n words (omega arith) in
    rw (four n, rest) refl

settings-at : (n i : ℕ) (words : List ℕ) (e : Setting) → i < n → 4 * n ≤ length words → get_or (settings (take (4 * n) words)) i e ≡ setting_at words i
settings-at zero i words e below h = absurd (omega arith)
settings-at (suc n) i [] e below h = absurd (omega arith)
settings-at (suc n) i (a ∷ []) e below h = absurd (omega arith)
settings-at (suc n) i (a ∷ b ∷ []) e below h = absurd (omega arith)
settings-at (suc n) i (a ∷ b ∷ c ∷ []) e below h = absurd (omega arith)
settings-at (suc n) zero (a ∷ b ∷ c ∷ d ∷ words) e below h = rw (four n) refl
settings-at (suc n) (suc i) (a ∷ b ∷ c ∷ d ∷ words) e below h = rw (four n, four_and i 1, four_and i 2, four_and i 3, four i) (settings-at n i words e (omega arith) (omega arith))

-- a slice of at most eight elements, whose words stand at the beginning of these
pub record IsSlice (frame : Frame) (words : List ℕ) : Type 0 where
  pub ordered : frame.next ≤ past_of frame
  pub few : past_of frame ≤ frame.next + 8
  pub long : length words ≡ 32

between : (start past : ℕ) → start ≤ past → words_between 32 start past ≡ 4 * (past - start)
between start past h = omega arith

pub slice-length : (frame : Frame) (words : List ℕ) → IsSlice frame words → length (slice_settings frame words) ≡ past_of frame - frame.next
slice-length frame words slice =
    let words-are = between frame.next (past_of frame) slice.ordered in
    rw words-are (settings-length (past_of frame - frame.next) words (omega (arith, slice.ordered, slice.few, slice.long)))

pub slice-at : (frame : Frame) (words : List ℕ) (i : ℕ) (e : Setting) → IsSlice frame words → i < past_of frame - frame.next → get_or (slice_settings frame words) i e ≡ setting_at words i
slice-at frame words i e slice below =
    let words-are = between frame.next (past_of frame) slice.ordered in
    rw words-are (settings-at (past_of frame - frame.next) i words e below (omega (arith, slice.ordered, slice.few, slice.long)))

refusals-length : (caller target : Vtl) (frame : Frame) (words : List ℕ) → IsSlice frame words → length (setting_refusals caller target frame words) ≡ past_of frame - frame.next
refusals-length caller target frame words slice = length-map (slice_settings frame words) (set_refusal caller target frame.count) ∙ slice-length frame words slice

refusal-at : (caller target : Vtl) (frame : Frame) (words : List ℕ) (i : ℕ) → IsSlice frame words → i < past_of frame - frame.next → get_or (setting_refusals caller target frame words) i None ≡ set_refusal caller target frame.count (setting_at words i)
refusal-at caller target frame words i slice below =
    let within : i < length (slice_settings frame words) = rw (slice-length frame words slice) below in
    get_or-map (set_refusal caller target frame.count) (slice_settings frame words) i (setting_at words i) None within
    ∙ ap (set_refusal caller target frame.count) (slice-at frame words i (setting_at words i) slice below)

-- the registers before the slice and now, where so many of its elements have acted
pub record IsSetTo (caller target : Vtl) (frame : Frame) (words : List ℕ) (old new : Registers) (i : ℕ) : Type 0 where
  pub clear : IsClear (setting_refusals caller target frame words) i
  pub registers : (active : Vtl) (enabled : Bool) → state_with new active enabled ≡ all_set target (state_with old active enabled) (take i (slice_settings frame words))

pub set-none : (caller target : Vtl) (frame : Frame) (words : List ℕ) (old : Registers) → IsSetTo caller target frame words old old 0
set-none caller target frame words old = record { clear = clear-none (setting_refusals caller target frame words); registers = λ active enabled. refl }

set_then : (target : Vtl) (settings : List Setting) (i : ℕ) (s : Setting) (state : State) → i < length settings → get_or settings i s ≡ s → all_set target state (take (i + 1) settings) ≡ set_one target (all_set target state (take i settings)) s
set_then target settings i s state below e = rw (take_more settings i s below, e) (fold-append (set_one target) state (take i settings) (s ∷ []))

pub set-more : (caller target : Vtl) (frame : Frame) (words : List ℕ) (old mid new : Registers) (i : ℕ) → IsSlice frame words → i < past_of frame - frame.next → set_refusal caller target frame.count (setting_at words i) ≡ None → ((active : Vtl) (enabled : Bool) → state_with new active enabled ≡ set_one target (state_with mid active enabled) (setting_at words i)) → IsSetTo caller target frame words old mid i → IsSetTo caller target frame words old new (i + 1)
set-more caller target frame words old mid new i slice below none acts so_far = record {
  clear = clear-more (setting_refusals caller target frame words) i (rw (refusals-length caller target frame words slice) below) (refusal-at caller target frame words i slice below ∙ none) so_far.clear;
  registers = λ active enabled.
      let within : i < length (slice_settings frame words) = rw (slice-length frame words slice) below in
      let one = set_then target (slice_settings frame words) i (setting_at words i) (state_with old active enabled) within (slice-at frame words i (setting_at words i) slice below) in
      acts active enabled ∙ ap (λ (state : State). set_one target state (setting_at words i)) (so_far.registers active enabled) ∙ sym one;
}

-- how many acted, what refused the next, and the registers
pub record HasSet (caller target : Vtl) (frame : Frame) (words : List ℕ) (old new : Registers) (acted : ℕ) (refused : Option HvStatus) : Type 0 where
  pub done : acted ≡ acting (setting_refusals caller target frame words)
  pub refusal : refused ≡ refusing (setting_refusals caller target frame words)
  pub registers : (active : Vtl) (enabled : Bool) → state_with new active enabled ≡ slice_set caller target frame words (state_with old active enabled)

has_set : (caller target : Vtl) (frame : Frame) (words : List ℕ) (old new : Registers) (i : ℕ) (refusal : Option HvStatus) → (acting (setting_refusals caller target frame words) ≡ i) × (refusing (setting_refusals caller target frame words) ≡ refusal) → IsSetTo caller target frame words old new i → HasSet caller target frame words old new i refusal
has_set caller target frame words old new i refusal ends so_far = record {
  done = sym ends.0;
  refusal = sym ends.1;
  registers = λ active enabled. rw ends.0 (so_far.registers active enabled);
}

pub set-refused : (caller target : Vtl) (frame : Frame) (words : List ℕ) (old new : Registers) (i : ℕ) (status : HvStatus) → IsSlice frame words → i < past_of frame - frame.next → set_refusal caller target frame.count (setting_at words i) ≡ Some status → IsSetTo caller target frame words old new i → HasSet caller target frame words old new i (Some status)
set-refused caller target frame words old new i status slice below some so_far =
    has_set caller target frame words old new i (Some status)
    (clear-refused (setting_refusals caller target frame words) i status (rw (refusals-length caller target frame words slice) below) (refusal-at caller target frame words i slice below ∙ some) so_far.clear)
    so_far

pub set-all : (caller target : Vtl) (frame : Frame) (words : List ℕ) (old new : Registers) (i : ℕ) → IsSlice frame words → past_of frame - frame.next ≡ i → IsSetTo caller target frame words old new i → HasSet caller target frame words old new i None
set-all caller target frame words old new i slice whole so_far =
    has_set caller target frame words old new i None
    (clear-all (setting_refusals caller target frame words) i (refusals-length caller target frame words slice ∙ whole) so_far.clear)
    so_far
