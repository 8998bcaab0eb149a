-- Rep calls: the slice of a call's elements that one attempt takes, and what comes of it (TLFS, Hypercall Interface, Rep Hypercalls; that a slice has at most eight elements is this project's own).
use Rattle.std.specs.Prelude.{ℕ, suc, ◌+◌, ◌*◌, ◌/◌, ◌-◌, ◌%◌, ◌^◌, ◌==◌, if◌then◌else◌, nat_lt, Option, Some, None, List, [], ◌∷◌}
use Rattle.vsm_base.specs.declared.status.HvStatus.{HvStatus}

-- where the slice ends that begins at this element of so many
abbrev pub slice_past : (start count : ℕ) → ℕ
slice_past start count = if nat_lt count (start + 8) then count else start + 8

-- which words of memory hold the elements from the first to the last, where an element has so many bytes and they stand one after the other: the place of the first such word, and how many there are
abbrev pub first_word : (size start : ℕ) → ℕ
first_word size start = size * start / 8

abbrev pub words_between : (size start past : ℕ) → ℕ
words_between size start past = (size * past + 7) / 8 - first_word size start

-- of the elements of a slice, each with the status that refuses it, if one does: how many stand before the first that is refused
abbrev pub acting : List (Option HvStatus) → ℕ
acting [] = 0
acting (None ∷ refusals) = suc (acting refusals)
acting (Some status ∷ refusals) = 0

-- and the status of that one, if there is one
abbrev pub refusing : List (Option HvStatus) → Option HvStatus
refusing [] = None
refusing (None ∷ refusals) = refusing refusals
refusing (Some status ∷ refusals) = Some status

-- what a slice comes to: the call is refused at an element, goes on at one, or is complete
pub data RepEnd : Type 0 where
  Refused : HvStatus → (done : ℕ) → RepEnd
  GoesOn : (next : ℕ) → RepEnd
  Complete : (done : ℕ) → RepEnd

-- where no element is left the call is complete
abbrev pub unrefused_end : (next count : ℕ) → RepEnd
unrefused_end next count = if nat_lt next count then GoesOn next else Complete next

-- the elements before the first that is refused have acted; they are counted from the call's first
abbrev pub rep_end : (start count acted : ℕ) → Option HvStatus → RepEnd
rep_end start count acted (Some status) = Refused status (start + acted)
rep_end start count acted None = unrefused_end (start + acted) count

-- by what is replied to a slice: a status that isn't success refuses its call at the element that isn't done
abbrev pub replied_end : HvStatus → (done count : ℕ) → RepEnd
replied_end status done count = if status.0 == 0 then unrefused_end done count else Refused status done

-- an input value with this start index; the bits above the index must be zero
abbrev pub with_start : (value start : ℕ) → ℕ
with_start value start = value % 2 ^ 48 + 2 ^ 48 * start
