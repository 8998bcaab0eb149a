-- What a note's message tells.
use Rattle.std.specs.Prelude.{◌≡◌, false, ⊤}
use Rattle.vsm_core.specs.Messages.{value_if_written}
use Rattle.vsm_core.specs.declared.note.Note.{Note}
use Rattle.vsm_core.specs.declared.note.Note.TheVariants.{Memory, Register}

-- a read has the value zero
abbrev pub HasNoReadValue : Note → Type 0
HasNoReadValue (Memory n) = ⊤
HasNoReadValue (Register n) = n.write ≡ false → n.value ≡ 0

-- the note without the value of a read, which no message tells
abbrev pub as_told : Note → Note
as_told (Memory n) = Memory n
as_told (Register n) = Register (record n { value = value_if_written n })
