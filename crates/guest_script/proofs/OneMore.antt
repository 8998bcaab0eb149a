-- Lists of a script that get one more element.
use Rattle.std.proofs.Common.{◌≡◌, ℕ, zero, suc, ◌^◌, ◌<◌, List, [], ◌∷◌, ◌++◌, length, Bool, true, false, cond, ◌==◌, arith, append-nil, append_assoc, length-append, set}
use Rattle.vsm_base.specs.Masks.{is_mask}
use Rattle.vsm_base.specs.declared.places.Page.{Page}
use Rattle.vsm_core.specs.declared.operation.Op.{Op}
use Rattle.vsm_core.specs.declared.operation.Program.{Program}
use Rattle.guest_script.specs.Line.{is_masked}
use Rattle.guest_script.specs.Programs.{nothing, nothings, operations, with_operation, program_at, added}
use Rattle.guest_script.specs.Words.{is_given}
use Rattle.guest_script.specs.declared.script.Turns.{Turns}
use Rattle.guest_script.proofs.Printable.{CanSay, CanSayAll, IsProgram, ArePrograms, AreMasks, AreWords, AreEntries, AreLines}

-- one more mask
pub one_mask : (pages : ℕ) (before masks : List (Page × ℕ)) (m : Page × ℕ) → AreMasks pages before masks → m.0.0 < pages → is_mask m.1 ≡ true → is_masked m.0.0 (before ++ masks) ≡ false → AreMasks pages before (masks ++ m ∷ [])
one_mask pages before [] m a p i n = (p, (i, (rw append-nil at n, tt)))
one_mask pages before (x ∷ masks) m a p i n =
    (a.0, (a.1.0, (a.1.1.0, one_mask pages (before ++ x ∷ []) masks m a.1.1.1 p i (rw append_assoc n))))

-- one more memory word
pub one_word : (pages : ℕ) (before words : List (Page × ℕ × ℕ)) (w : Page × ℕ × ℕ) → AreWords pages before words → w.0.0 < pages → w.1 < 512 → w.2 < 2 ^ 64 → is_given w.0.0 w.1 (before ++ words) ≡ false → AreWords pages before (words ++ w ∷ [])
one_word pages before [] w a p i v n = (p, (i, (v, (rw append-nil at n, tt))))
one_word pages before (x ∷ words) w a p i v n =
    (a.0, (a.1.0, (a.1.1.0, (a.1.1.1.0, one_word pages (before ++ x ∷ []) words w a.1.1.1.1 p i v (rw append_assoc n)))))

-- one more operation
pub one_operation : (ops : List Op) (op : Op) → CanSayAll ops → CanSay op → CanSayAll (ops ++ op ∷ [])
one_operation [] op a s = (s, tt)
one_operation (x ∷ ops) op a s = (a.0, one_operation ops op a.1 s)

-- a program that isn't given
pub nothing_is : IsProgram nothing
nothing_is = record { zero_few = omega arith; one_few = omega arith; zero_said = tt; one_said = tt }

-- programs that are not given
pub nothings_are : (n : ℕ) → ArePrograms (nothings n)
nothings_are zero = tt
nothings_are (suc n) = (nothing_is, nothings_are n)

-- one more operation in a level
longer : (p : Program) (op : Op) (zero_level : Bool) → length (cond zero_level p.zero p.one) < 4096 → IsProgram p → CanSay op → IsProgram (cond zero_level (record p { zero = p.zero ++ op ∷ [] }) (record p { one = p.one ++ op ∷ [] }))
longer p op true f i s = record {
  zero_few = simp length-append (omega arith);
  one_few = i.one_few;
  zero_said = one_operation p.zero op i.zero_said s;
  one_said = i.one_said;
}
longer p op false f i s = record {
  zero_few = i.zero_few;
  one_few = simp length-append (omega arith);
  zero_said = i.zero_said;
  one_said = one_operation p.one op i.one_said s;
}

-- the program of a processor
program_of : (programs : List Program) (vp : ℕ) → ArePrograms programs → IsProgram (program_at programs vp)
program_of [] vp a = nothing_is
program_of (p ∷ programs) zero a = a.0
program_of (p ∷ programs) (suc vp) a = program_of programs vp a.1

-- another program of a processor
set_program : (programs : List Program) (vp : ℕ) (p : Program) → ArePrograms programs → IsProgram p → ArePrograms (set programs vp p)
set_program [] vp p a i = a
set_program (x ∷ programs) zero p a i = (i, a.1)
set_program (x ∷ programs) (suc vp) p a i = (a.0, set_program programs vp p a.1 i)

-- one more operation in a level of a processor's program
pub added_are : (programs : List Program) (vp level : ℕ) (op : Op) → ArePrograms programs → length (operations (program_at programs vp) level) < 4096 → CanSay op → ArePrograms (added programs vp level op)
added_are programs vp level op a f s =
    set_program programs vp (with_operation (program_at programs vp) level op) a (longer (program_at programs vp) op (level == 0) f (program_of programs vp a) s)

-- one more line of the schedule
pub one_line : (lines : List (List Turns)) (turns : List Turns) → AreLines lines → 0 < length turns → AreEntries turns → AreLines (lines ++ turns ∷ [])
one_line [] turns a s e = (s, (e, tt))
one_line (x ∷ lines) turns a s e = (a.0, (a.1.0, one_line lines turns a.1.1 s e))
