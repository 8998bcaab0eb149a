-- Walking a schedule step by step comes to what whole attempts come to.
use Rattle.std.proofs.Common.{◌≡◌, ◌<◌, ◌+◌, ◌*◌, ◌-◌, ℕ, zero, suc, Bool, true, false, cond, Option, Some, None, List, [], ◌∷◌, ◌++◌, fold, length, map, take, drop, replicate, slice_get, slice_index, slice_set, refl, sym, ap, ◌∙◌, subst, append_assoc, zero-add, arith}
use Rattle.std.specs.List.{range_with_len}
use Rattle.std.proofs.lemmas.List.{length-append, length-replicate, get_or-append_right, get_or-replicate, drop-append-le, drop-replicate}
use Rattle.std.proofs.lemmas.List.FromFn.{length-map-range_with_len, get_or-map-range_with_len}
use Rattle.std.proofs.lemmas.Option.{slice_get_within, get_or_from_slice_get}
use Rattle.std.proofs.Math.ListN.{get_or-append}
use Rattle.std.proofs.Math.Seq.{take-append_seam, drop-append_seam, drop-append-add}
use Rattle.vsm_base.specs.declared.places.Limits.{Limits}
use Rattle.vsm_core.specs.declared.operation.Program.{Program}
use Rattle.vsm_core.specs.declared.journal.Entry.{Entry}
use Rattle.vsm_core.specs.declared.partition_state.PartitionState.{PartitionState}
use Rattle.vsm_core.specs.declared.request.Request.{Request}
use Rattle.vsm_core.specs.AtOnce.{SameDid, IsInStep}
use Rattle.vsm_core.specs.Entries.{words_by_entries}
use Rattle.vsm_core.specs.Partition.{opening_standing}
use Rattle.vsm_core.specs.Processor.{Vp, Did, IsSameProcessor, acts, attempted}
use Rattle.vsm_core.specs.Served.{after, state_after, joined}
use Rattle.vsm_core.specs.Whole.{Flat, answer_in, flat_after, with_entries}
use Rattle.vsm_core.specs.Words.{Holds, answer_of, words_by, memory_at, posted_at}
use Rattle.vsm_core.proofs.SameAnswers.{acts-same, acts-in-step}
use Rattle.guest_script.specs.declared.script.Turns.{Turns}
use Rattle.guest_script.specs.declared.script.Script.{Script}
use Rattle.guest_script.specs.Programs.{program_at}
use Rattle.guest_script.specs.Within.{IsWithin}
use Rattle.vsm_report.specs.Acting.{first_partition, opening_vp, opening_vps, is_running, attempt_lines, with_attempt, acted_at}
use Rattle.vsm_report.specs.Schedule.{after_turns, after_entry, after_line, after_schedule}
use Rattle.vsm_report.specs.Opening.{opening_masks, opening_words}
use Rattle.vsm_report.specs.FlatRun.{World, acted, opening_flat, opened, closed, served, report_of, flat}
use Rattle.vsm_report.specs.Trace.{Kept, Stepped, after_more, made_steps, stepped, opening_shared, stepped_opening, stepped_report, traced}
use Rattle.vsm_report.proofs.MaskTurns.{length-fold-with_mask}
use Rattle.vsm_report.proofs.Processors.{acts-same-processor, places-set, StandsAt, opening-at}

-- what one processor's turns keep of two worlds in which it acts alike
turns_alike : {V W : Type 0} (R : V → W → Type 0) (f : V → V) (g : W → W) → ((v : V) (w : W) → R v w → R (f v) (g w)) → (count : ℕ) (v : V) (w : W) → R v w → R (after_turns f count v) (after_turns g count w)
unfolding after_turns
turns_alike R f g acts zero v w r = r
turns_alike R f g acts (suc count) v w r = turns_alike R f g acts count (f v) (g w) (acts v w r)

-- what a schedule keeps of two worlds in which processors act alike
module _ {V W : Type 0} (R : V → W → Type 0) (f : ℕ → V → V) (g : ℕ → W → W) (acts : (p : ℕ) (v : V) (w : W) → R v w → R (f p v) (g p w)) where
  line_alike : (entries : List Turns) (v : V) (w : W) → R v w → R (fold (after_entry f) v entries) (fold (after_entry g) w entries)
  line_alike [] v w r = r
  line_alike (t ∷ entries) v w r =
      line_alike entries (after_entry f v t) (after_entry g w t) (turns_alike R (f t.vp.0) (g t.vp.0) (acts t.vp.0) t.count v w r)

  lines_alike : (lines : List (List Turns)) (v : V) (w : W) → R v w → R (fold (after_line f) v lines) (fold (after_line g) w lines)
  unfolding after_line
  lines_alike [] v w r = r
  lines_alike (l ∷ lines) v w r = lines_alike lines (fold (after_entry f) v l) (fold (after_entry g) w l) (line_alike l v w r)

  pub schedule_alike : (lines : List (List Turns)) (v : V) (w : W) → R v w → R (after_schedule f v lines) (after_schedule g w lines)
  unfolding after_schedule
  schedule_alike lines v w r = lines_alike lines v w r

-- a processor of these limits, with the number of its place
pub record IsPlaced (limits : Limits) (p : ℕ) (v : Vp) : Type 0 where
  pub limits_same : v.limits ≡ limits
  pub number : v.number ≡ p
  pub low : p < limits.vps

-- the state and the journal are those of the requests that were served
pub record Keeps (first : PartitionState) (k : Kept) (served : List (Request × List Entry)) : Type 0 where
  pub state : k.state ≡ state_after first served
  pub journal : k.journal ≡ joined served

-- the same processors and lines, what is kept of the partition by the requests that were served, shared words that hold
-- what whole attempts work on, and a partition in step with the journal
pub record Alike (first : PartitionState) (limits : Limits) (v : Stepped) (w : World) : Type 0 where
  pub vps : v.vps ≡ w.vps
  pub lines : v.lines ≡ w.lines
  pub kept : Keeps first v.partition w.partition
  pub holds : Holds limits v.words w.words
  pub step : IsInStep limits (state_after first w.partition) w.words
  pub placed : (p : ℕ) (u : Vp) → slice_get w.vps p ≡ Some u → IsPlaced limits p u

-- two attempts of one processor that come to the same, with a partition in this state
record SameAttempt (limits : Limits) (p : ℕ) (s : PartitionState) (steps : Did (List ℕ)) (whole : Did Flat) : Type 0 where
  did : SameDid limits steps whole
  placed : IsPlaced limits p whole.vp
  step : IsInStep limits (state_after s whole.served) whole.words

attempt-did : (limits : Limits) (program : Program) (p : ℕ) (v : Vp) (s : PartitionState) (words : List ℕ) (flat : Flat) → IsPlaced limits p v → IsInStep limits s flat → Holds limits words flat → SameAttempt limits p s (made_steps program v s words) (attempted program v s flat)
unfolding made_steps attempted
attempt-did limits program p v s words flat is step h =
    let low : v.number < v.limits.vps = subst (λ (l : Limits). v.number < l.vps) (sym is.limits_same) (subst (λ n. n < limits.vps) (sym is.number) is.low) in
    let held : Holds v.limits words flat = subst (λ l. Holds l words flat) (sym is.limits_same) h in
    let in_step : IsInStep v.limits s flat = subst (λ l. IsInStep l s flat) (sym is.limits_same) step in
    let steps : Did (List ℕ) = acts (answer_of v.limits v.number) (words_by v.limits v.number) (words_by_entries v.limits) program s v words in
    let whole : Did Flat = acts (answer_in v.limits v.number) (flat_after v.limits v.number) with_entries program s v flat in
    let kept : IsSameProcessor v whole.vp = acts-same-processor (answer_in v.limits v.number) (flat_after v.limits v.number) with_entries program s v flat in
    record {
      did = subst (λ l. SameDid l steps whole) is.limits_same (acts-same program v s words flat low in_step held);
      placed = record { limits_same = kept.limits ∙ is.limits_same; number = kept.number ∙ is.number; low = is.low };
      step = subst (λ l. IsInStep l (state_after s whole.served) whole.words) is.limits_same (acts-in-step program v s flat in_step);
    }

pub state_after-append : (s : PartitionState) (before more : List (Request × List Entry)) → state_after s (before ++ more) ≡ state_after (state_after s before) more
state_after-append s [] more = refl
state_after-append s (v ∷ before) more = state_after-append (after s v.0) before more

pub joined-append : (before more : List (Request × List Entry)) → joined (before ++ more) ≡ joined before ++ joined more
joined-append [] more = refl
joined-append (v ∷ before) more = ap (λ es. v.1 ++ es) (joined-append before more) ∙ sym (append_assoc v.1 (joined before) (joined more))

-- what is kept of the partition after more requests
kept-more : (first : PartitionState) (k : Kept) (before more same : List (Request × List Entry)) → more ≡ same → Keeps first k before → Keeps first (after_more k more) (before ++ same)
kept-more first k before more same e keeps = record {
  state = ap (λ t. state_after t more) keeps.state ∙ ap (state_after (state_after first before)) e ∙ sym (state_after-append first before same);
  journal = ap (λ es. es ++ joined more) keeps.journal ∙ ap (λ vs. joined before ++ joined vs) e ∙ sym (joined-append before same);
}

-- what processors do in a world by steps, and in one of whole attempts
abbrev pub by_steps : ℕ → Program → Stepped → Option Vp → Stepped
by_steps p program v u = acted_at made_steps (λ (k : Kept). k.state) after_more program p v u

abbrev pub at_once : PartitionState → ℕ → Program → World → Option Vp → World
at_once first p program w u = acted_at attempted (state_after first) (λ before more. before ++ more) program p w u

module _ (first : PartitionState) (limits : Limits) where
  -- two worlds after the same attempt
  with_attempt-alike : (p : ℕ) (v : Stepped) (w : World) (u : Vp) (steps : Did (List ℕ)) (whole : Did Flat) → Alike first limits v w → SameAttempt limits p (state_after first w.partition) steps whole
      → Alike first limits (with_attempt made_steps (λ (k : Kept). k.state) after_more p v u steps) (with_attempt attempted (state_after first) (λ before more. before ++ more) p w u whole)
  with_attempt-alike p v w u steps whole r same = record {
    vps = ap (λ us. slice_set us p steps.vp) r.vps ∙ ap (slice_set w.vps p) same.did.vp;
    lines = ap (λ ls. ls ++ attempt_lines p steps.served u steps.vp) r.lines ∙ ap (λ vs. w.lines ++ attempt_lines p vs u steps.vp) same.did.served ∙ ap (λ x. w.lines ++ attempt_lines p whole.served u x) same.did.vp;
    kept = kept-more first v.partition w.partition steps.served whole.served same.did.served r.kept;
    holds = same.did.holds;
    step = subst (λ s. IsInStep limits s whole.words) (sym (state_after-append first w.partition whole.served)) same.step;
    placed = places-set (IsPlaced limits) w.vps p whole.vp same.placed r.placed;
  }

  either : (b : Bool) (v v' : Stepped) (w w' : World) → Alike first limits v w → Alike first limits v' w' → Alike first limits (cond b v v') (cond b w w')
  either true v v' w w' r s = r
  either false v v' w w' r s = s

  attempts-alike : (program : Program) (p : ℕ) (v : Stepped) (w : World) (u : Vp) → IsPlaced limits p u → Alike first limits v w → SameAttempt limits p (state_after first w.partition) (made_steps program u v.partition.state v.words) (attempted program u (state_after first w.partition) w.words)
  attempts-alike program p v w u is r =
      let step = subst (λ s. IsInStep limits s w.words) (sym r.kept.state) r.step in
      subst (λ s. SameAttempt limits p s (made_steps program u v.partition.state v.words) (attempted program u s w.words)) r.kept.state (attempt-did limits program p u v.partition.state v.words w.words is step r.holds)

  -- the processor that stands at a place acts, if there is one
  acted_at-alike : (program : Program) (p : ℕ) (v : Stepped) (w : World) (u : Option Vp) → slice_get w.vps p ≡ u → Alike first limits v w → Alike first limits (by_steps p program v u) (at_once first p program w u)
  acted_at-alike program p v w None e r = r
  acted_at-alike program p v w (Some u) e r =
      either (is_running u) _ v _ w (with_attempt-alike p v w u _ _ r (attempts-alike program p v w u (r.placed p u e) r)) r

  acts_alike : (programs : List Program) (p : ℕ) (v : Stepped) (w : World) → Alike first limits v w → Alike first limits (stepped programs p v) (acted first programs p w)
  unfolding stepped acted
  acts_alike programs p v w r =
      subst (λ u. Alike first limits (by_steps p (program_at programs p) v u) (acted first programs p w)) (sym (ap (λ us. slice_get us p) r.vps)) (acted_at-alike (program_at programs p) p v w (slice_get w.vps p) refl r)

-- zeros behind other zeros are still zeros
zeros-behind : (n m : ℕ) (masks memory : List ℕ) → take n (drop (length masks + m) (masks ++ (replicate (n + m) 0 ++ memory))) ≡ replicate n 0
zeros-behind n m masks memory =
    let zeros : List ℕ = replicate (n + m) 0 in
    let left : n + m - m ≡ n = omega arith in
    ap (take n) (drop-append-add masks (zeros ++ memory) m ∙ drop-append-le m zeros memory (omega (arith, length-replicate {A = ℕ} (n + m) 0)) ∙ ap (λ zs. zs ++ memory) (drop-replicate m (n + m) 0 ∙ ap (λ k. replicate k 0) left))
    ∙ ap (λ k. take k (replicate n 0 ++ memory)) (sym (length-replicate n 0)) ∙ take-append_seam (replicate n 0) memory

-- the shared words at the opening
holds_opening : (limits : Limits) (masks memory : List ℕ) → length masks ≡ limits.pages
    → Holds limits (masks ++ (replicate (1 + 10 * limits.vps) 0 ++ memory)) (record { opening = masks; journal = []; posted = replicate (9 * limits.vps) 0; memory = memory })
holds_opening limits masks memory m =
    let zeros : List ℕ = replicate (1 + 10 * limits.vps) 0 in
    let many : length zeros ≡ 1 + 10 * limits.vps = length-replicate (1 + 10 * limits.vps) 0 in
    let here : limits.pages - limits.pages ≡ 0 = omega arith in
    let far : memory_at limits ≡ length (masks ++ zeros) = omega (arith, length-append masks zeros) in
    let behind : posted_at limits ≡ length masks + (1 + limits.vps) = omega arith in
    let rest : 1 + 10 * limits.vps ≡ 9 * limits.vps + (1 + limits.vps) = omega arith in
    record {
      long = omega (arith, length-append masks (zeros ++ memory), length-append zeros memory);
      of_masks = ap (λ n. take n (masks ++ (zeros ++ memory))) (sym m) ∙ take-append_seam masks (zeros ++ memory);
      of_generation = get_or-append_right masks (zeros ++ memory) limits.pages limits.pages 0 m (omega arith) ∙ ap (λ i. slice_index (zeros ++ memory) i) here ∙ get_or-append zeros memory 0 0 (omega arith) ∙ get_or-replicate (1 + 10 * limits.vps) 0 0 0 (omega arith);
      of_posted = ap (λ n. take (9 * limits.vps) (drop n (masks ++ (zeros ++ memory)))) behind ∙ ap (λ n. take (9 * limits.vps) (drop (length masks + (1 + limits.vps)) (masks ++ (replicate n 0 ++ memory)))) rest ∙ zeros-behind (9 * limits.vps) (1 + limits.vps) masks memory;
      of_memory = ap (λ n. drop n (masks ++ (zeros ++ memory))) far ∙ ap (λ ws. drop (length (masks ++ zeros)) ws) (sym (append_assoc masks zeros memory)) ∙ drop-append_seam (masks ++ zeros) memory;
    }

length-opening_masks : (s : Script) → length (opening_masks s) ≡ s.limits.pages
unfolding opening_masks
length-opening_masks s = length-fold-with_mask (replicate s.limits.pages 15) s.masks ∙ length-replicate s.limits.pages 15

opening-placed : (s : Script) → length s.programs ≡ s.limits.vps → (p : ℕ) (u : Vp) → slice_get (opening_vps s) p ≡ Some u → IsPlaced s.limits p u
opening-placed s all p u e =
    let at = opening-at s p u e in
    subst (IsPlaced s.limits p) at.is (record { limits_same = refl; number = refl; low = subst (λ k. p < k) all at.low })

opened_alike : (s : Script) → length s.programs ≡ s.limits.vps → Alike (first_partition s) s.limits (stepped_opening s) (opened s)
unfolding stepped_opening opened opening_shared opening_flat
opened_alike s all = record {
  vps = refl;
  lines = refl;
  kept = record { state = refl; journal = refl };
  holds = holds_opening s.limits (opening_masks s) (opening_words s) (length-opening_masks s);
  step = record { vps = length-map-range_with_len (opening_standing s.started) 0 s.limits.vps; pages = refl; rounds = refl };
  placed = opening-placed s all;
}

same_report : (s : Script) (v : Stepped) (w : World) → Alike (first_partition s) s.limits v w → stepped_report s v ≡ report_of w
same_report s v w r =
    let u = r.vps in let l = r.lines in let j = r.kept.journal in let m = r.holds.of_masks in let h = r.holds.of_memory in rw (l, j, u, m, h) refl

-- the worlds at the end of a walk of the schedule and of the flat run
closed-alike : (s : Script) → IsWithin s → Alike (first_partition s) s.limits (after_schedule (stepped s.programs) (stepped_opening s) s.schedule) (closed s)
unfolding closed
closed-alike s within =
    let first = first_partition s in
    schedule_alike (Alike first s.limits) (stepped s.programs) (acted first s.programs) (acts_alike first s.limits s.programs) s.schedule (stepped_opening s) (opened s) (opened_alike s within.programs)

-- the journal of the flat run is that of the requests that it serves
pub flat-journal : (s : Script) → (flat s).journal ≡ joined (served s)
unfolding flat served
flat-journal s = refl

-- the report of walking a schedule step by step is that of the flat run
pub traced-flat : (s : Script) → IsWithin s → traced s ≡ flat s
unfolding traced flat
traced-flat s within = same_report s _ _ (closed-alike s within)
