-- The slices of the calls that get and set registers.
use Rattle.std.specs.Prelude.{ℕ, ◌+◌, ◌*◌, ◌/◌, ◌%◌, ◌^◌, ◌==◌, Bool, if◌then◌else◌, Option, List, map, take, slice_index}
use Rattle.vsm_base.specs.declared.places.Vtl.{Vtl}
use Rattle.vsm_base.specs.declared.status.HvStatus.{HvStatus}
use Rattle.vsm_core.specs.RegisterCalls.{Setting, setting_of, settings, numbers, set_refusal, get_refusal, all_set, got_words}
use Rattle.vsm_core.specs.Registers.{Registers}
use Rattle.vsm_core.specs.Reps.{RepEnd, acting, refusing, rep_end}
use Rattle.vsm_core.specs.State.{State}
use Rattle.rep_frame.specs.Frames.{Frame, past_of, slice_words}

abbrev pub state_with : Registers → (active : Vtl) → (enabled : Bool) → State
state_with registers active enabled = record { registers = registers; active = active; enabled = enabled }

-- an element at its place among words
abbrev pub setting_at : List ℕ → ℕ → Setting
setting_at words index = setting_of (slice_index words (4 * index)) (slice_index words (4 * index + 1)) (slice_index words (4 * index + 2)) (slice_index words (4 * index + 3))

abbrev pub half_at : List ℕ → ℕ → ℕ
half_at words place = if place % 2 == 0 then slice_index words (place / 2) % 2 ^ 32 else slice_index words (place / 2) / 2 ^ 32

-- the elements of a slice, by the words that hold them
abbrev pub slice_settings : Frame → List ℕ → List Setting
slice_settings frame words = settings (slice_words 32 frame words)

abbrev pub slice_numbers : Frame → List ℕ → List ℕ
slice_numbers frame words = numbers frame.next (past_of frame) (slice_words 4 frame words)

-- each with what refuses it
abbrev pub setting_refusals : (caller target : Vtl) → Frame → List ℕ → List (Option HvStatus)
setting_refusals caller target frame words = map (set_refusal caller target frame.count) (slice_settings frame words)

abbrev pub number_refusals : (caller target : Vtl) → Frame → List ℕ → List (Option HvStatus)
number_refusals caller target frame words = map (get_refusal caller target frame.count) (slice_numbers frame words)

-- what the slice comes to
abbrev pub end_of : Frame → List (Option HvStatus) → RepEnd
end_of frame refusals = rep_end frame.next frame.count (acting refusals) (refusing refusals)

-- the state in which all settings of the slice before the first that is refused have acted
abbrev pub slice_set : (caller target : Vtl) → Frame → List ℕ → State → State
slice_set caller target frame words state = all_set target state (take (acting (setting_refusals caller target frame words)) (slice_settings frame words))

-- the words that the numbers of the slice before the first that is refused put out
abbrev pub slice_got : (caller target : Vtl) → Frame → List ℕ → State → List ℕ
slice_got caller target frame words state = got_words state target (take (acting (number_refusals caller target frame words)) (slice_numbers frame words))
