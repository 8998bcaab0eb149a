-- A note's message is read as the note.
use Rattle.std.proofs.Common.{◌≡◌, ◌^◌, ◌%◌, ◌<◌, ◌==◌, ℕ, Bool, true, false, cond, if◌then◌else◌, Option, Some, None, [], ◌∷◌, refl, ap, length, lit<}
use Rattle.std.proofs.Math.Nat.{mod-eq_of_lt}
use Rattle.std.specs.Int.{bytes_low_first}
use Rattle.byteorder.specs.Endian.{little_number}
use Rattle.byteorder.specs.Numbers.{little_number-reads_back}
use Rattle.vsm_base.specs.declared.places.Access.{Access}
use Rattle.vsm_base.specs.declared.places.Access.TheVariants.{Read, Write, Execute}
use Rattle.vsm_core.specs.declared.note.MemNote.{MemNote}
use Rattle.vsm_core.specs.declared.note.RegNote.{RegNote}
use Rattle.vsm_core.specs.declared.note.Note.{Note}
use Rattle.vsm_core.specs.declared.note.Note.TheVariants.{Memory, Register}
use Rattle.vsm_core.specs.Messages.{laid_out, head_fields, memory_fields, register_fields, register_type, message, access_number, one_if, has_address, address_or_zero, address_fits, value_if_written, IsMemNote, IsRegNote, IsNote}
use Rattle.intercept_msg.specs.Candidate.{access_in, memory_in, register_in, candidate_in}
use Rattle.intercept_msg.specs.Told.{as_told}

access-back : (access : Access) → access_in (access_number access % 256) ≡ access
access-back Read = refl
access-back Write = refl
access-back Execute = refl

write-back : (write : Bool) → (one_if write % 256 == 1) ≡ write
write-back true = refl
write-back false = refl

address-back : (gva : Option ℕ) → address_fits gva
    → (if has_address gva % 256 == 1 then Some (little_number 8 (bytes_low_first 0 8 (address_or_zero gva))) else None) ≡ gva
address-back None fits = refl
address-back (Some gva) fits = ap Some (little_number-reads_back 8 gva [] fits)

written-fits : (write : Bool) (value : ℕ) → value < 2 ^ 128 → cond write value 0 < 2 ^ 128
written-fits true value fits = fits
written-fits false value fits = lit< tt

written-twice : (write : Bool) (value : ℕ) → cond write (cond write value 0) 0 ≡ cond write value 0
written-twice true value = refl
written-twice false value = refl

same-memory : (m n : MemNote) → m.vp.0 ≡ n.vp.0 → m.access ≡ n.access → m.cs ≡ n.cs → m.rip ≡ n.rip → m.rflags ≡ n.rflags → m.gva ≡ n.gva → m.gpa ≡ n.gpa → m ≡ n
same-memory m n vp access cs rip rflags gva gpa =
    let whole : MemNote → MemNote = λ m. record { vp = record { 0 = m.vp.0 }; access = m.access; cs = m.cs; rip = m.rip; rflags = m.rflags; gva = m.gva; gpa = m.gpa } in
    let e : whole m ≡ whole n = rw (vp, access, cs, rip, rflags, gva, gpa) refl in
    e

same-register : (m n : RegNote) → m.vp.0 ≡ n.vp.0 → m.write ≡ n.write → m.cs ≡ n.cs → m.rip ≡ n.rip → m.rflags ≡ n.rflags → m.name ≡ n.name → m.value ≡ n.value → m ≡ n
same-register m n vp write cs rip rflags name value =
    let whole : RegNote → RegNote = λ m. record { vp = record { 0 = m.vp.0 }; write = m.write; cs = m.cs; rip = m.rip; rflags = m.rflags; name = m.name; value = m.value } in
    let e : whole m ≡ whole n = rw (vp, write, cs, rip, rflags, name, value) refl in
    e

memory-back : (n : MemNote) → IsMemNote n → memory_in (laid_out (memory_fields n)) ≡ n
memory-back n fits =
    same-memory (memory_in (laid_out (memory_fields n))) n
    (mod-eq_of_lt fits.vp)
    (access-back n.access)
    (little_number-reads_back 16 n.cs [] fits.cs)
    (little_number-reads_back 8 n.rip [] fits.rip)
    (little_number-reads_back 8 n.rflags [] fits.rflags)
    (address-back n.gva fits.gva)
    (little_number-reads_back 8 n.gpa [] fits.gpa)

register-back : (n : RegNote) → IsRegNote n → register_in (laid_out (register_fields n)) ≡ record n { value = value_if_written n }
register-back n fits =
    same-register (register_in (laid_out (register_fields n))) (record n { value = value_if_written n })
    (mod-eq_of_lt fits.vp)
    (write-back n.write)
    (little_number-reads_back 16 n.cs [] fits.cs)
    (little_number-reads_back 8 n.rip [] fits.rip)
    (little_number-reads_back 8 n.rflags [] fits.rflags)
    (little_number-reads_back 4 n.name [] fits.name)
    (little_number-reads_back 16 (value_if_written n) [] (written-fits n.write n.value fits.value))

pub back : (n : Note) → IsNote n → candidate_in (message n) ≡ as_told n
unfolding message
back (Memory n) fits = ap Memory (memory-back n fits)
back (Register n) fits = ap Register (register-back n fits)

-- and it has the bytes of what it tells
pub told-again : (n : Note) → message (as_told n) ≡ message n
unfolding message
told-again (Memory n) = refl
told-again (Register n) =
    ap (λ (value : ℕ). laid_out (head_fields register_type n.vp.0 (one_if n.write) n.cs n.rip n.rflags ((4, n.name) ∷ (4, 0) ∷ (16, value) ∷ (16, 0) ∷ [])))
    (written-twice n.write n.value)

pub message-length : (n : Note) → length (message n) ≡ 96
unfolding message
message-length (Memory n) = refl
message-length (Register n) = refl
