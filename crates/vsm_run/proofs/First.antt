-- Processors before their first attempts.
use Rattle.std.proofs.Common.{◌≡◌, ◌<◌, ◌≤◌, ◌+◌, ◌-◌, ◌*◌, ℕ, Bool, zero, suc, nat_lt, Some, List, [], ◌∷◌, ◌++◌, length, map, replicate, get_or, slice_get, refl, sym, ap, subst, ◌∙◌, zero-add, arith}
use Rattle.std.specs.Prelude.{slice_index}
use Rattle.std.specs.List.{range_with_len}
use Rattle.std.proofs.Math.ListN.{get_or-append}
use Rattle.std.proofs.lemmas.List.{length-replicate, get_or-append_right, get_or-replicate}
use Rattle.std.proofs.lemmas.List.FromFn.{length-map-range_with_len, get_or-map-range_with_len, map-range_with_len_more}
use Rattle.std.proofs.lemmas.Option.{slice_get_within, get_or_from_slice_get}
use Rattle.vsm_core.specs.declared.event.Phase.TheVariants.{Idle}
use Rattle.vsm_core.specs.declared.operation.Program.{Program}
use Rattle.vsm_core.specs.Processor.{Vp, opening}
use Rattle.guest_script.specs.declared.script.Script.{Script}
use Rattle.guest_script.specs.Programs.{program_at}
use Rattle.vsm_report.specs.Acting.{opening_vp, opening_vps}
use Rattle.vsm_report.proofs.Processors.{StandsAt, opening-at}
use Rattle.vsm_run.specs.Fits.{Fits, FitsOne}
use Rattle.vsm_base.specs.declared.places.Limits.{Limits}
use Rattle.vsm_core.specs.Words.{busy_at}
use Rattle.vsm_core.specs.Partition.{opening_standing}
use Rattle.fabric.specs.Plain.{opening_plain}
use Rattle.partition.specs.PartView.{opening_view}
use Rattle.vsm_run.specs.Serving.{Agrees, IsPacedBy}
use Rattle.vsm_run.specs.Rests.{AllIdle, HasMarkLeft, IsInPlace}
use Rattle.vsm_run.proofs.Acts.{AllInPlace, program_here}

pub all_idle : (n : ℕ) → AllIdle (replicate n Idle)
all_idle zero p = refl
all_idle (suc n) zero = refl
all_idle (suc n) (suc p) = all_idle n p

-- all words between the masks and the memory are 0
pub first-agrees : (limits : Limits) (masks memory : List ℕ) → length masks ≡ limits.pages → Agrees limits (opening_plain limits masks memory).fabric
first-agrees limits masks memory all = λ q low idle.
    let zeros : List ℕ = replicate (1 + 10 * limits.vps) 0 in
    let many = length-replicate {A = ℕ} (1 + 10 * limits.vps) 0 in
    let at : busy_at limits q - limits.pages ≡ 1 + q = omega arith in
    get_or-append_right masks (zeros ++ memory) limits.pages (busy_at limits q) 0 all (omega arith) ∙ ap (λ i. slice_index (zeros ++ memory) i) at ∙ get_or-append zeros memory 0 (1 + q) (omega arith) ∙ get_or-replicate (1 + 10 * limits.vps) (1 + q) 0 0 (omega arith)

-- before the first entry, nothing was turned, and all processors count as cleared
pub first-paced : (limits : Limits) (masks memory opening : List ℕ) (started : ℕ) → length opening ≡ limits.pages → IsPacedBy (opening_view limits opening started) (opening_plain limits masks memory)
first-paced limits masks memory opening started all =
    let many : length (opening_view limits opening started).state.vps ≡ limits.vps = length-map-range_with_len (opening_standing started) 0 limits.vps in
    record { vps = sym many; pages = sym all; turns = refl; cleared = sym many }

-- one processor more
pub opening-more : (s : Script) (p : ℕ) (program : Program) (v : Vp) (vps : List Vp) → p < length s.programs → program ≡ get_or s.programs p program
    → v ≡ opening p s.limits (nat_lt p s.started) (length program.zero) (length program.one) → vps ≡ map (opening_vp s) (range_with_len 0 p) → vps ++ v ∷ [] ≡ map (opening_vp s) (range_with_len 0 (p + 1))
opening-more s p program v vps low at is before =
    let own : v ≡ opening_vp s p = is ∙ ap (λ (q : Program). opening p s.limits (nat_lt p s.started) (length q.zero) (length q.one)) (sym (program_here s.programs p program low at)) in
    ap (λ us. us ++ v ∷ []) before ∙ ap (λ u. map (opening_vp s) (range_with_len 0 p) ++ u ∷ []) own ∙ sym (map-range_with_len_more (opening_vp s) 0 p p (zero-add p))

pub length-opening_vps : (s : Script) → length (opening_vps s) ≡ length s.programs
unfolding opening_vps
length-opening_vps s = length-map-range_with_len (opening_vp s) 0 (length s.programs)

-- a first operation needs a budget
opening-left : (started : Bool) (number : ℕ) (limits : Limits) (zeros ones : ℕ) → 1 ≤ limits.budget → HasMarkLeft (opening number limits started zeros ones)
opening-left started number limits zeros ones some = λ e. omega arith

module _ (s : Script) (programs : length s.programs ≡ s.limits.vps) (some : 1 ≤ s.limits.budget) where
  first-in-place : (p : ℕ) → p < length s.programs → IsInPlace s.limits p (opening_vp s p)
  first-in-place p low = record {
    number = refl;
    low = subst (λ n. p < n) programs low;
    limits_same = refl;
    rests = refl;
    answered = refl;
    unheard = refl;
    left = let program = program_at s.programs p in opening-left (nat_lt p s.started) p s.limits (length program.zero) (length program.one) some;
  }

  pub opening-in-place : AllInPlace s.limits (opening_vps s)
  opening-in-place p u e = let at = opening-at s p u e in subst (IsInPlace s.limits p) at.is (first-in-place p at.low)

pub opening-fit : (s : Script) → Fits s.programs (opening_vps s)
opening-fit s = record {
  many = length-opening_vps s;
  each = λ p u e. subst (FitsOne (program_at s.programs p)) (opening-at s p u e).is (record { zero = refl; one = refl; kept = tt });
}
