-- The messages by which level 1 learns of intercepts (TLFS, HV_MESSAGE and Memory Access Messages). The order of a header's fields, and the whole payload of a register intercept, are this project's own.
use Rattle.std.specs.Prelude.{ℕ, zero, suc, ◌*◌, ◌/◌, ◌%◌, ◌^◌, ◌==◌, ◌<◌, Bool, true, false, if◌then◌else◌, Option, Some, None, List, [], ◌∷◌, ◌++◌, bit_or, slice_index, slice_set, take, drop}
use Rattle.std.specs.Int.{bytes_low_first, from_le_bytes, w64}
use Rattle.vsm_base.specs.declared.places.Access.{Access}
use Rattle.vsm_base.specs.declared.places.Access.TheVariants.{Read, Write, Execute}
use Rattle.vsm_core.specs.declared.note.MemNote.{MemNote}
use Rattle.vsm_core.specs.declared.note.RegNote.{RegNote}
use Rattle.vsm_core.specs.declared.note.Note.{Note}
use Rattle.vsm_core.specs.declared.note.Note.TheVariants.{Memory, Register}

-- a field of a message: how many bytes it has, and its value
abbrev pub Field : Type 0
Field = ℕ × ℕ

-- the bytes of a field, the lowest first
abbrev pub field_bytes : Field → List ℕ
field_bytes field = bytes_low_first 0 field.0 field.1

-- the bytes of fields that stand one after the other
abbrev pub laid_out : List Field → List ℕ
laid_out [] = []
laid_out (field ∷ fields) = field_bytes field ++ laid_out fields

-- the types of messages, and how many bytes the payload of either has
abbrev pub memory_type : ℕ
memory_type = 0x80000001

abbrev pub register_type : ℕ
register_type = 0x80010006

abbrev pub payload_size : ℕ
payload_size = 80

-- how an access is spelled
abbrev pub access_number : Access → ℕ
access_number Read = 0
access_number Write = 1
access_number Execute = 2

abbrev pub one_if : Bool → ℕ
one_if true = 1
one_if false = 0

abbrev pub has_address : Option ℕ → ℕ
has_address None = 0
has_address (Some gva) = 1

abbrev pub address_or_zero : Option ℕ → ℕ
address_or_zero None = 0
address_or_zero (Some gva) = gva

-- the header, whose sender is zero, and the fields with which both payloads begin: the processor, the instruction's length and Cr8, the
-- access, the execution state, Cs, Rip and Rflags
abbrev pub head_fields : ℕ → ℕ → ℕ → ℕ → ℕ → ℕ → List Field → List Field
head_fields kind vp access cs rip rflags rest =
    (4, kind) ∷ (1, payload_size) ∷ (1, 0) ∷ (2, 0) ∷ (8, 0) ∷ (4, vp) ∷ (1, 0) ∷ (1, access) ∷ (2, 0) ∷ (16, cs) ∷ (8, rip) ∷ (8, rflags) ∷ rest

-- then the cache type, the byte count, whether there is an address, the task priority and zeros, the address, the guest physical address and the instruction's bytes
abbrev pub memory_fields : MemNote → List Field
memory_fields n =
    head_fields memory_type n.vp.0 (access_number n.access) n.cs n.rip n.rflags
    ((4, 0) ∷ (1, 0) ∷ (1, has_address n.gva) ∷ (2, 0) ∷ (8, address_or_zero n.gva) ∷ (8, n.gpa) ∷ (16, 0) ∷ [])

-- a read has no value
abbrev pub value_if_written : RegNote → ℕ
value_if_written n = if n.write then n.value else 0

-- then the register's number, zeros, the value and zeros
abbrev pub register_fields : RegNote → List Field
register_fields n =
    head_fields register_type n.vp.0 (one_if n.write) n.cs n.rip n.rflags
    ((4, n.name) ∷ (4, 0) ∷ (16, value_if_written n) ∷ (16, 0) ∷ [])

abbrev pub fields_of : Note → List Field
fields_of (Memory n) = memory_fields n
fields_of (Register n) = register_fields n

-- the 96 bytes of a note's message
unfoldable pub message : Note → List ℕ
message note = laid_out (fields_of note)

-- so many words of 64 bits, each of eight bytes, the lowest first
abbrev pub words_in : ℕ → List ℕ → List ℕ
words_in zero bytes = []
words_in (suc n) bytes = from_le_bytes w64 (take 8 bytes) ∷ words_in n (drop 8 bytes)

-- the twelve words of a note's message
unfoldable pub message_words : Note → List ℕ
message_words note = words_in 12 (message note)

-- a message slot is free where the type of the message in it, the low 32 bits of its first word, is zero
abbrev pub is_free : ℕ → Bool
is_free word = word % 2 ^ 32 == 0

-- the first word of a slot with MessagePending, its bit 40, set: more messages wait for the slot
abbrev pub with_pending : ℕ → ℕ
with_pending word = bit_or word (2 ^ 40)

-- a message's words, with MessagePending where more wait
abbrev pub flagged : Bool → List ℕ → List ℕ
flagged false words = words
flagged true [] = []
flagged true (word ∷ words) = with_pending word ∷ words

-- a message's bytes with MessagePending, which is bit 0 of byte 5, clear
abbrev pub without_pending : List ℕ → List ℕ
without_pending bytes = slice_set bytes 5 (slice_index bytes 5 / 2 * 2)

-- the numbers of a note fit their fields
abbrev pub address_fits : Option ℕ → Type 0
address_fits None = Unit {0}
address_fits (Some gva) = gva < 2 ^ 64

pub record IsMemNote (n : MemNote) : Type 0 where
  pub vp : n.vp.0 < 2 ^ 8
  pub cs : n.cs < 2 ^ 128
  pub rip : n.rip < 2 ^ 64
  pub rflags : n.rflags < 2 ^ 64
  pub gva : address_fits n.gva
  pub gpa : n.gpa < 2 ^ 64

pub record IsRegNote (n : RegNote) : Type 0 where
  pub vp : n.vp.0 < 2 ^ 8
  pub cs : n.cs < 2 ^ 128
  pub rip : n.rip < 2 ^ 64
  pub rflags : n.rflags < 2 ^ 64
  pub name : n.name < 2 ^ 32
  pub value : n.value < 2 ^ 128

abbrev pub IsNote : Note → Type 0
IsNote (Memory n) = IsMemNote n
IsNote (Register n) = IsRegNote n
