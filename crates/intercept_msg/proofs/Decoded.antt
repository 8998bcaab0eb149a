-- What bytes that are cleared tell of the note that they are read as.
use Rattle.std.proofs.Common.{◌≡◌, ◌/◌, ◌*◌, ℕ, Bool, true, false, cond, List, length, slice_index, refl, sym, ap, subst, ◌∙◌}
use Rattle.std.proofs.lemmas.Bool.{false≢true}
use Rattle.std.proofs.lemmas.Slice.Eq.{bytes_eq-Decides}
use Rattle.std.specs.Str.{bytes_eq}
use Rattle.std.proofs.Math.ListN.{length-set}
use Rattle.vsm_core.specs.declared.note.Note.{Note}
use Rattle.vsm_core.specs.declared.note.Note.TheVariants.{Memory, Register}
use Rattle.vsm_core.specs.Messages.{message, without_pending, IsNote}
use Rattle.intercept_msg.specs.Candidate.{candidate_in}
use Rattle.intercept_msg.specs.Told.{HasNoReadValue, as_told}
use Rattle.intercept_msg.proofs.ReadBack.{back, told-again, message-length}

-- only 96 bytes are a message
pub long : (bytes : List ℕ) (n : Note) → message n ≡ without_pending bytes → length bytes ≡ 96
long bytes n same = sym (length-set bytes 5 (slice_index bytes 5 / 2 * 2)) ∙ sym (ap length same) ∙ message-length n

-- the only note
pub only : (bytes : List ℕ) (read n : Note) → read ≡ candidate_in bytes → IsNote n → message n ≡ bytes → read ≡ as_told n
only bytes read n is fits same = is ∙ sym (ap candidate_in same) ∙ back n fits

-- and it has these bytes
has : (bytes : List ℕ) (read n : Note) → read ≡ candidate_in bytes → IsNote n → message n ≡ bytes → message read ≡ bytes
has bytes read n is fits same = ap message (only bytes read n is fits same) ∙ told-again n ∙ same

unwritten : (write : Bool) (value : ℕ) → write ≡ false → cond write value 0 ≡ 0
unwritten true value e = cc
unwritten false value e = refl

told-value : (n : Note) → HasNoReadValue (as_told n)
told-value (Memory n) = tt
told-value (Register n) = unwritten n.write n.value

-- so no note has bytes that its own are not
pub refused : (bytes written : List ℕ) (read n : Note) → read ≡ candidate_in bytes → written ≡ message read → bytes_eq written bytes ≡ false → IsNote n → message n ≡ bytes → ⊥
refused bytes written read n is writes unequal fits same =
    false≢true (sym unequal ∙ (bytes_eq-Decides written bytes).1 (writes ∙ has bytes read n is fits same))

-- it has no value of a read
pub no-value : (bytes : List ℕ) (read : Note) → read ≡ candidate_in bytes → IsNote read → message read ≡ bytes → HasNoReadValue read
no-value bytes read is fits same = subst HasNoReadValue (sym (only bytes read read is fits same)) (told-value read)
