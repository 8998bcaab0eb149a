-- The pieces of a message's layout.
use Rattle.std.specs.Prelude.{ℕ, List, [], ◌∷◌}
use Rattle.vsm_core.specs.Messages.{Field, payload_size, memory_type, register_type, access_number, one_if, head_fields, has_address, address_or_zero, value_if_written}
use Rattle.vsm_core.specs.declared.note.MemNote.{MemNote}
use Rattle.vsm_core.specs.declared.note.RegNote.{RegNote}
use Rattle.intercept_msg.specs.declared.head.Head.{Head}

-- the header
abbrev pub header_fields : ℕ → List Field
header_fields kind = (4, kind) ∷ (1, payload_size) ∷ (1, 0) ∷ (2, 0) ∷ (8, 0) ∷ []

-- the fields with which both payloads begin
abbrev pub place_fields : Head → List Field
place_fields head =
    (4, head.vp) ∷ (1, 0) ∷ (1, head.access) ∷ (2, 0) ∷ (16, head.cs) ∷ (8, head.rip) ∷ (8, head.rflags) ∷ []

-- the header and these
abbrev pub fields_of_head : Head → List Field
fields_of_head head = head_fields head.kind head.vp head.access head.cs head.rip head.rflags []

-- the rest of a memory intercept's payload
abbrev pub memory_rest : MemNote → List Field
memory_rest n =
    (4, 0) ∷ (1, 0) ∷ (1, has_address n.gva) ∷ (2, 0) ∷ (8, address_or_zero n.gva) ∷ (8, n.gpa) ∷ (16, 0) ∷ []

-- the rest of a register intercept's payload
abbrev pub register_rest : RegNote → List Field
register_rest n = (4, n.name) ∷ (4, 0) ∷ (16, value_if_written n) ∷ (16, 0) ∷ []

-- the heads of a note's message
abbrev pub memory_head : MemNote → Head
memory_head n =
    record { kind = memory_type; vp = n.vp.0; access = access_number n.access; cs = n.cs; rip = n.rip; rflags = n.rflags }

abbrev pub register_head : RegNote → Head
register_head n =
    record { kind = register_type; vp = n.vp.0; access = one_if n.write; cs = n.cs; rip = n.rip; rflags = n.rflags }
