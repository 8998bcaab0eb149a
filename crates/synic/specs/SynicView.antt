-- What contracts see of the controller.
use Rattle.std.specs.Prelude.{ℕ, ◌-◌, List}
use Rattle.vsm_core.specs.declared.mark.Posted.{Posted}
use Rattle.vsm_core.specs.declared.mark.Posted.TheVariants.{Waiting}
use Rattle.vsm_core.specs.declared.note.Note.{Note}

-- the notes whose messages wait for the slot, the oldest first, and how many more notes there is room for
pub record SynicView : Type 0 where
  pub waiting : List Note
  pub room : ℕ

-- a note that waits takes room for one, which isn't given back
abbrev pub room_after : Posted → ℕ → ℕ
room_after Waiting room = room - 1
room_after _ room = room
