-- How far a rep call has come.
use Rattle.std.specs.Prelude.{ℕ, ◌+◌, List, take}
use Rattle.vsm_core.specs.Reps.{slice_past, words_between}

-- how many elements it has, and the first that isn't done
pub record Frame : Type 0 where
  pub count : ℕ
  pub next : ℕ

abbrev pub frame_of : (count next : ℕ) → Frame
frame_of count next = record { count = count; next = next }

-- so many more are done
abbrev pub advanced : Frame → ℕ → Frame
advanced frame done = record { count = frame.count; next = frame.next + done }

-- where the slice ends that comes next
abbrev pub past_of : Frame → ℕ
past_of frame = slice_past frame.next frame.count

-- the words of that slice among those that begin with them, where an element has so many bytes
abbrev pub slice_words : (size : ℕ) → Frame → List ℕ → List ℕ
slice_words size frame words = take (words_between size frame.next (past_of frame)) words
