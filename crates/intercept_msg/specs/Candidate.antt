-- The note that bytes are read as, field by field, whether or not they are a note's message.
use Rattle.std.specs.Prelude.{ℕ, ◌==◌, if◌then◌else◌, Option, Some, None, List, slice_index, drop}
use Rattle.byteorder.specs.Endian.{little_number}
use Rattle.vsm_base.specs.declared.places.Access.{Access}
use Rattle.vsm_base.specs.declared.places.Access.TheVariants.{Read, Write, Execute}
use Rattle.vsm_core.specs.Messages.{memory_type}
use Rattle.vsm_core.specs.declared.note.MemNote.{MemNote}
use Rattle.vsm_core.specs.declared.note.RegNote.{RegNote}
use Rattle.vsm_core.specs.declared.note.Note.{Note}
use Rattle.vsm_core.specs.declared.note.Note.TheVariants.{Memory, Register}

-- the number in so many bytes from a place on
abbrev pub number_at : ℕ → ℕ → List ℕ → ℕ
number_at size place bytes = little_number size (drop place bytes)

-- the access that a byte is read as
abbrev pub access_in : ℕ → Access
access_in number = if number == 0 then Read else if number == 1 then Write else Execute

abbrev pub address_in : List ℕ → Option ℕ
address_in bytes = if slice_index bytes 61 == 1 then Some (number_at 8 64 bytes) else None

abbrev pub memory_in : List ℕ → MemNote
memory_in bytes =
    record {
      vp = record { 0 = slice_index bytes 16 };
      access = access_in (slice_index bytes 21);
      cs = number_at 16 24 bytes;
      rip = number_at 8 40 bytes;
      rflags = number_at 8 48 bytes;
      gva = address_in bytes;
      gpa = number_at 8 72 bytes;
    }

abbrev pub register_in : List ℕ → RegNote
register_in bytes =
    record {
      vp = record { 0 = slice_index bytes 16 };
      write = slice_index bytes 21 == 1;
      cs = number_at 16 24 bytes;
      rip = number_at 8 40 bytes;
      rflags = number_at 8 48 bytes;
      name = number_at 4 56 bytes;
      value = number_at 16 64 bytes;
    }

-- a message of another type is read as a register intercept's
abbrev pub candidate_in : List ℕ → Note
candidate_in bytes = if number_at 4 0 bytes == memory_type then Memory (memory_in bytes) else Register (register_in bytes)
