-- A processor acts in a world of steps.
use Rattle.std.proofs.Common.{◌≡◌, ◌<◌, ℕ, Bool, true, false, cond, is_some, Option, Some, None, List, [], ◌++◌, length, get_or, slice_get, slice_set, refl, sym, ap, ◌∙◌, subst, arith}
use Rattle.std.proofs.lemmas.List.{length-set, set-get_or, get_or_default}
use Rattle.std.proofs.lemmas.Option.{slice_get_read}
use Rattle.vsm_base.specs.declared.places.Limits.{Limits}
use Rattle.vsm_core.specs.declared.mark.Ending.{Ending}
use Rattle.vsm_core.specs.declared.operation.Program.{Program}
use Rattle.vsm_core.specs.Processor.{Vp}
use Rattle.guest_script.specs.Programs.{program_at}
use Rattle.vsm_report.specs.declared.report.Line.{Line}
use Rattle.partition.specs.PartView.{PartView}
use Rattle.vsm_report.specs.Acting.{is_running, attempt_lines, with_attempt}
use Rattle.vsm_report.specs.Trace.{Kept, Stepped, after_more, made_steps, stepped}
use Rattle.vsm_report.proofs.Processors.{places-set}
use Rattle.vsm_run.specs.Fits.{Fits, FitsOne}
use Rattle.vsm_run.specs.Rests.{IsInPlace}
use Rattle.vsm_run.specs.Serving.{IsDone, kept_of}

picks : {A : Type 0} (b : Bool) (x y : A) → b ≡ true → x ≡ cond b x y
picks true x y e = refl
picks false x y e = cc

skips : {A : Type 0} (b : Bool) (x y : A) → b ≡ false → cond b x y ≡ y
skips true x y e = cc
skips false x y e = refl

runs : (v : Vp) → is_some v.ended ≡ false → is_running v ≡ true
runs v going = rw going refl

has_ended : (v : Vp) → is_some v.ended ≡ true → is_running v ≡ false
has_ended v ended = rw ended refl

-- a processor that has no ending
pub runs_on : (v : Vp) → is_some v.ended ≡ false → v.ended ≡ None
runs_on v e = none v.ended e where
  none : (ended : Option Ending) → is_some ended ≡ false → ended ≡ None
  none None e = refl
  none (Some ending) e = cc

-- the world of these parts
abbrev pub world_of : List ℕ → Kept → List Vp → List Line → Stepped
world_of words partition vps lines = record { words = words; partition = partition; vps = vps; lines = lines }

-- there is no processor of this number
stepped-none : (programs : List Program) (p : ℕ) (w : Stepped) → slice_get w.vps p ≡ None → stepped programs p w ≡ w
unfolding stepped
stepped-none programs p w none = rw none refl

-- the processor of this number has ended
pub stepped-ended : (programs : List Program) (p : ℕ) (w : Stepped) (v : Vp) → slice_get w.vps p ≡ Some v → is_some v.ended ≡ true → stepped programs p w ≡ w
unfolding stepped
stepped-ended programs p w v found ended = rw found (skips (is_running v) _ w (has_ended v ended))

-- the processor of this number makes its attempt
pub stepped-running : (programs : List Program) (p : ℕ) (program : Program) (w : Stepped) (v n : Vp) (before now : PartView) (after : List ℕ) (lines : List Line) → program_at programs p ≡ program → slice_get w.vps p ≡ Some v → v.number ≡ p → is_some v.ended ≡ false
    → w.partition ≡ kept_of before → IsDone (made_steps program v before.state w.words) n after before now
    → lines ≡ w.lines ++ attempt_lines v.number (made_steps program v before.state w.words).served v n
    → world_of after (kept_of now) (slice_set w.vps p n) lines ≡ stepped programs p w
unfolding stepped
stepped-running programs p program w v n before now after lines own found number going kept done line =
    let did = made_steps program v before.state w.words in
    let said : lines ≡ w.lines ++ attempt_lines p did.served v n = line ∙ ap (λ q. w.lines ++ attempt_lines q did.served v n) number in
    let vp = done.vp in let words = done.words in let partition = done.partition in
    rw (found, own, kept, said, vp, words, partition)
    (picks (is_running v) (with_attempt made_steps (λ (k : Kept). k.state) after_more p (record w { partition = kept_of before }) v did) (record w { partition = kept_of before }) (runs v going))

-- the processor at a place, as it is read
pub found_at : (vps : List Vp) (p : ℕ) (v : Vp) → p < length vps → v ≡ get_or vps p v → slice_get vps p ≡ Some v
found_at vps p v low is = slice_get_read vps (length vps) p v refl low is

-- what stood there is written back
pub set_back : (vps : List Vp) (p : ℕ) (v : Vp) → v ≡ get_or vps p v → slice_set vps p v ≡ vps
set_back vps p v is = ap (slice_set vps p) is ∙ set-get_or vps p v

-- its program
pub program_here : (programs : List Program) (p : ℕ) (program : Program) → p < length programs → program ≡ get_or programs p program → program_at programs p ≡ program
program_here programs p program low is = get_or_default programs p (record { zero = []; one = [] }) program low ∙ sym is

module _ (programs : List Program) (vps : List Vp) (p : ℕ) (program : Program) where
  pub program_of : Fits programs vps → p < length vps → program ≡ get_or programs p program → program_at programs p ≡ program
  program_of fits low at = let many = fits.many in program_here programs p program (omega arith) at

  pub fits_here : (v : Vp) → Fits programs vps → p < length vps → v ≡ get_or vps p v → program ≡ get_or programs p program → FitsOne program v
  fits_here v fits low is at =
      subst (λ q. FitsOne q v) (program_of fits low at) (fits.each p v (found_at vps p v low is))

  pub still_fit : (n : Vp) → Fits programs vps → p < length vps → program ≡ get_or programs p program → FitsOne program n → Fits programs (slice_set vps p n)
  still_fit n fits low at fit =
      record {
        many = length-set vps p n ∙ fits.many;
        each = places-set (λ q u. FitsOne (program_at programs q) u) vps p n (subst (λ q. FitsOne q n) (sym (program_of fits low at)) fit) fits.each;
      }

-- each processor of a list is in its place
abbrev pub AllInPlace : Limits → List Vp → Type 0
AllInPlace limits vps = (p : ℕ) (v : Vp) → slice_get vps p ≡ Some v → IsInPlace limits p v

module _ (limits : Limits) (vps : List Vp) (p : ℕ) (v : Vp) (low : p < length vps) (is : v ≡ get_or vps p v) (all : AllInPlace limits vps) where
  pub own_place : IsInPlace limits v.number v
  own_place = let place = all p v (found_at vps p v low is) in subst (λ q. IsInPlace limits q v) (sym place.number) place

  -- one was put back that is in its place
  pub still_in_place : (after : Limits) (n : Vp) → after ≡ limits → IsInPlace limits v.number n → AllInPlace after (slice_set vps p n)
  still_in_place after n same place =
      let number = (all p v (found_at vps p v low is)).number in
      rw same (places-set (IsInPlace limits) vps p n (subst (λ q. IsInPlace limits q n) number place) all)
