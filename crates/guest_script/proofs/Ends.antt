-- Where the last line has been read.
use Rattle.std.proofs.Common.{◌≡◌, ℕ, List, [], length, ◌==◌, cond, true, false, Ok, Err, ap, sym, ◌∙◌, arith}
use Rattle.std.proofs.lemmas.Bool.Decides.{nat_tests}
use Rattle.std.proofs.lemmas.List.{nil_from_length}
use Rattle.guest_script.specs.Lines.{lines_of}
use Rattle.guest_script.specs.Grammar.{said_by, script, is_done}
use Rattle.guest_script.specs.Sound.{script_of}
use Rattle.guest_script.specs.declared.reading.Reading.{Reading}
use Rattle.guest_script.specs.declared.script.Why.TheVariants.{Cut}

nothing_left : (xs : List ℕ) → (length xs == 0) ≡ true → xs ≡ []
nothing_left xs e = nil_from_length xs (grind (arith, nat_tests))

-- without `end` the script is cut
pub cut_at_end : (r : Reading) (n : ℕ) (rest bytes : List ℕ) → said_by r n (lines_of rest) ≡ script bytes → (length rest == 0) ≡ true → is_done r.stage ≡ false → script bytes ≡ Err (record { line = n; why = Cut })
cut_at_end r n rest bytes said nil cut =
    sym said ∙ ap (λ xs. said_by r n (lines_of xs)) (nothing_left rest nil) ∙ ap (λ b. cond b (Ok (script_of r)) (Err (record { line = n; why = Cut }))) cut
