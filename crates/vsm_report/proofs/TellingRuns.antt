-- The lines of a run tell the marks of each processor.
use Rattle.std.proofs.Common.{◌≡◌, ◌≢◌, ◌⊎◌, ◌<◌, inl, inr, eqb, ◌==◌, ℕ, zero, suc, get_or, ◌≤◌, unwrap_or, Bool, true, false, not, is_some, cond, IfSome, Option, Some, None, List, [], ◌∷◌, ◌++◌, map, length, drop, slice_get, slice_set, refl, sym, ap, ◌∙◌, subst, arith, nat_lt}
use Rattle.std.specs.Prelude.{option_map}
use Rattle.std.proofs.lemmas.Bool.Decides.{eqb_tells}
use Rattle.std.proofs.lemmas.List.{append-nil, length-set}
use Rattle.std.proofs.lemmas.List.Elements.{filter-append}
use Rattle.std.proofs.lemmas.Option.{slice_get-map, slice_get_cases, slice_get_within}
use Rattle.std.proofs.Math.Seq.{drop-append_seam}
use Rattle.vsm_core.specs.declared.event.PendingWord.TheVariants.{Start}
use Rattle.vsm_core.specs.declared.journal.Entry.{Entry}
use Rattle.vsm_core.specs.declared.mark.Ending.{Ending}
use Rattle.vsm_core.specs.declared.mark.Ending.TheVariants as endings
use Rattle.vsm_core.specs.declared.mark.Mark.{Mark}
use Rattle.vsm_core.specs.declared.operation.Program.{Program}
use Rattle.vsm_core.specs.declared.partition_state.PartitionState.{PartitionState}
use Rattle.vsm_core.specs.Processor.{Vp, Did, standing, new_marks, operation_at, origin_of, ran_out, tree_of, does_all, wakes, acts, attempted}
use Rattle.vsm_core.specs.Served.{state_after}
use Rattle.vsm_core.specs.Starts.{start_tree}
use Rattle.vsm_core.specs.Tree.{WordStep, Taking}
use Rattle.vsm_core.specs.Whole.{Flat, answer_in, flat_after, with_entries}
use Rattle.guest_script.specs.declared.script.Script.{Script}
use Rattle.guest_script.specs.Programs.{program_at}
use Rattle.vsm_report.specs.declared.report.Line.{Line}
use Rattle.vsm_report.specs.declared.report.Track.{Track}
use Rattle.vsm_report.specs.Acting.{first_partition, opening_vp, opening_vps, ending_of, is_running, track_of, attempt_lines, with_attempt}
use Rattle.vsm_report.specs.Counts.{is_left}
use Rattle.vsm_report.specs.FlatRun.{World, acted, opened, closed, flat}
use Rattle.vsm_report.specs.Telling.{kept_marks, staying, told_marks, vain_last}
use Rattle.vsm_report.proofs.Processors.{does_all-same, places-change, StandsAt, opening-at}
use Rattle.vsm_report.proofs.Stepping.{at_once, schedule_alike}
use Rattle.vsm_report.proofs.Telling.{own-behind, other-behind}
use Rattle.vsm_report.proofs.TellingMarks.{IsOwnEnding, Leaves, does_all-leaves, if-own, ran_out-own, vain_behind}

-- a processor that may act makes its attempt or its start, or hasn't started and waits
pub record Waits (v n : Vp) : Type 0 where
  pub same : n ≡ v
  pub unstarted : v.started ≡ false

pub record Makes (v n : Vp) : Type 0 where
  pub leaves : Leaves v n
  pub started : n.started ≡ true

module _ {W : Type 0} (answers : W → WordStep → ℕ) (changes : W → WordStep → W) (adds : W → List Entry → W) (s : PartitionState) (v : Vp) (words : W) (going : v.ended ≡ None) where
  wakes-leaves : (b : Bool) → v.started ≡ false
      → let n = (cond b (record { vp = v; words = words; served = [] }) (does_all answers changes adds s None v words (start_tree (origin_of v)))).vp in Waits v n ⊎ Makes v n
  wakes-leaves true off = inl (record { same = refl; unstarted = off })
  wakes-leaves false off = inr (record { leaves = does_all-leaves answers changes adds None s v words (start_tree (origin_of v)) going; started = refl })

  acts-by : (program : Program) (b : Bool) → v.started ≡ b
      → let op = operation_at program v.state in
      let n = (cond b (does_all answers changes adds s op v words (tree_of (origin_of v) op)) (wakes answers changes adds s v words)).vp in
      Waits v n ⊎ Makes v n
  acts-by program true on =
      let op = operation_at program v.state in let t = tree_of (origin_of v) op in
      inr (record { leaves = does_all-leaves answers changes adds op s v words t going; started = (does_all-same answers changes adds op s v words t).started on })
  acts-by program false off = wakes-leaves (answers words (Taking Start) == 0) off

attempted-leaves : (program : Program) (v : Vp) (s : PartitionState) (flat : Flat) → v.ended ≡ None → Waits v (attempted program v s flat).vp ⊎ Makes v (attempted program v s flat).vp
unfolding attempted
attempted-leaves program v s flat going =
    acts-by (answer_in v.limits v.number) (flat_after v.limits v.number) with_entries s v flat going program v.started refl

-- these marks were told of the processor
pub record Tells (told : List Mark) (v : Vp) : Type 0 where
  pub stood : standing v ≡ staying told
  pub last : v.marks ≡ standing v ++ vain_behind v.ended told
  pub own : IfSome v.ended IsOwnEnding
  pub unstarted : v.started ≡ false → told ≡ []

none-behind : (ended : Option Ending) → vain_behind ended [] ≡ []
none-behind None = refl
none-behind (Some ending) = refl

pub unstarted-marks : (told : List Mark) (v : Vp) → Tells told v → v.started ≡ false → v.marks ≡ []
unstarted-marks told v h off =
    let none = h.unstarted off in
    h.last ∙ ap (λ ms. standing v ++ vain_behind v.ended ms) none ∙ ap (λ ms. ms ++ vain_behind v.ended []) (h.stood ∙ ap staying none) ∙ none-behind v.ended

pub drop-nil : {A : Type 0} (n : ℕ) (xs : List A) → xs ≡ [] → drop n xs ≡ []
drop-nil zero xs e = e
drop-nil (suc n) [] e = refl
drop-nil (suc n) (x ∷ xs) e = cc

-- and those of its attempt too
tells-more : (told : List Mark) (v n : Vp) → Tells told v → Waits v n ⊎ Makes v n → Tells (told ++ new_marks v n) n
tells-more told v n h (inl waits) =
    let none : new_marks v v ≡ [] = drop-nil (length (standing v)) v.marks (unstarted-marks told v h waits.unstarted) in
    let same : told ≡ told ++ new_marks v v = sym (ap (λ ms. told ++ ms) none ∙ append-nil told) in
    subst (λ u. Tells (told ++ new_marks v u) u) (sym waits.same) (subst (λ ms. Tells ms v) same h)
tells-more told v n h (inr makes) =
    let left = makes.leaves in
    let new : left.new ≡ new_marks v n = sym (ap (drop (length (standing v))) left.marks ∙ drop-append_seam (standing v) left.new) in
    subst (λ ms. Tells (told ++ ms) n) new (record {
      stood = left.stood ∙ ap (λ ms. ms ++ staying left.new) h.stood ∙ sym (filter-append (λ (m : Mark). is_left m.what) told left.new);
      last = left.last told;
      own = left.own;
      unstarted = λ off. let on = makes.started in cc;
    })

-- the lines tell the marks of each processor, and none where there is no processor
pub record AllTell (w : World) : Type 0 where
  pub each : (p : ℕ) (v : Vp) → slice_get w.vps p ≡ Some v → Tells (told_marks p w.lines) v
  pub others : (p : ℕ) → slice_get w.vps p ≡ None → told_marks p w.lines ≡ []

set-none : (vps : List Vp) (p q : ℕ) (v : Vp) → slice_get (slice_set vps p v) q ≡ None → slice_get vps q ≡ None
set-none vps p q v e = past (slice_get_cases (slice_set vps p v) q).1 (slice_get_cases vps q).1 where
  past : ((x : Vp) × (q < length (slice_set vps p v)) × (slice_get (slice_set vps p v) q ≡ Some x) × (get_or (slice_set vps p v) q x ≡ x)) ⊎ ((length (slice_set vps p v) ≤ q) × (slice_get (slice_set vps p v) q ≡ None))
      → ((x : Vp) × (q < length vps) × (slice_get vps q ≡ Some x) × (get_or vps q x ≡ x)) ⊎ ((length vps ≤ q) × (slice_get vps q ≡ None)) → slice_get vps q ≡ None
  past (inl found) g = let no : Some found.0 ≡ None = sym found.2 ∙ e in cc
  past (inr out) (inl found) = let low = found.1 in let far = out.0 in absurd (omega (arith, length-set vps p v))
  past (inr out) (inr none) = none.1

eqb-same : (p : ℕ) → eqb p p ≡ true
eqb-same p = same (eqb_tells p p) where
  same : ((eqb p p ≡ true) × (p ≡ p)) ⊎ ((eqb p p ≡ false) × (p ≢ p)) → eqb p p ≡ true
  same (inl is) = is.0
  same (inr other) = absurd (other.1 refl)

apart : (q p : ℕ) → (q ≡ p → ⊥) → eqb q p ≡ false
apart q p other = which (eqb_tells q p) where
  which : ((eqb q p ≡ true) × (q ≡ p)) ⊎ ((eqb q p ≡ false) × (q ≢ p)) → eqb q p ≡ false
  which (inl is) = absurd (other is.1)
  which (inr differ) = differ.0

none_ended : (ended : Option Ending) → not (is_some ended) ≡ true → ended ≡ None
none_ended None e = refl
none_ended (Some ending) e = cc

module _ (first : PartitionState) where
  attempt-tells : (program : Program) (p : ℕ) (w : World) (u : Vp) (did : Did Flat) → slice_get w.vps p ≡ Some u → AllTell w → Waits u did.vp ⊎ Makes u did.vp
      → AllTell (with_attempt attempted (state_after first) (λ before more. before ++ more) p w u did)
  attempt-tells program p w u did found h makes = record {
    each = places-change (λ q x. Tells (told_marks q (w.lines ++ attempt_lines p did.served u did.vp)) x) w.vps p did.vp
        (subst (λ ms. Tells ms did.vp) (sym (own-behind w.lines p p did.served u did.vp (eqb-same p))) (tells-more (told_marks p w.lines) u did.vp (h.each p u found) makes))
        (λ q x other e. subst (λ ms. Tells ms x) (sym (other-behind w.lines q p did.served u did.vp other)) (h.each q x e));
    others = λ q e.
        let none = set-none w.vps p q did.vp e in
        other-behind w.lines q p did.served u did.vp (apart q p (λ same. let no : Some u ≡ None = sym found ∙ ap (slice_get w.vps) (sym same) ∙ none in cc)) ∙ h.others q none;
  }

  if-tells : (b : Bool) (w v : World) → (b ≡ true → AllTell w) → AllTell v → AllTell (cond b w v)
  if-tells true w v h g = h refl
  if-tells false w v h g = g

  at_once-tells : (program : Program) (p : ℕ) (w : World) (u : Option Vp) → slice_get w.vps p ≡ u → AllTell w → AllTell (at_once first p program w u)
  at_once-tells program p w None found h = h
  at_once-tells program p w (Some u) found h =
      if-tells (is_running u) _ w (λ runs. attempt-tells program p w u _ found h (attempted-leaves program u (state_after first w.partition) w.words (none_ended u.ended runs))) h

  acted-tells : (programs : List Program) (p : ℕ) (w : World) → AllTell w → AllTell (acted first programs p w)
  unfolding acted
  acted-tells programs p w h = at_once-tells (program_at programs p) p w (slice_get w.vps p) refl h

-- before the first attempt
opening-tells : (s : Script) (p : ℕ) → Tells [] (opening_vp s p)
opening-tells s p =
    let program = program_at s.programs p in
    let ended : Option Ending = cond (nat_lt p s.started) (ran_out (length program.zero) s.limits.budget 0 0) None in
    record {
      stood = refl;
      last = sym (none-behind ended);
      own = if-own (nat_lt p s.started) (ran_out (length program.zero) s.limits.budget 0 0) None (ran_out-own (length program.zero) s.limits.budget 0 0) tt;
      unstarted = λ off. refl;
    }

opened-tell : (s : Script) → AllTell (opened s)
unfolding opened
opened-tell s = record { each = λ p v e. subst (Tells []) (opening-at s p v e).is (opening-tells s p); others = λ p e. refl }

pub closed-tell : (s : Script) → AllTell (closed s)
unfolding closed
closed-tell s =
    let first = first_partition s in
    schedule_alike (λ (v w : World). AllTell w) (acted first s.programs) (acted first s.programs) (λ p v w h. acted-tells first s.programs p w h) s.schedule (opened s) (opened s) (opened-tell s)

-- the marks that stay of those that were told, by the ending
kept-by : (ended : Option Ending) (started : Bool) (told : List Mark) → IfSome ended IsOwnEnding → (started ≡ false → told ≡ []) → staying told ++ vain_behind ended told ≡ kept_marks (cond started (unwrap_or ended endings.Cut) endings.Unstarted) told
kept-by ended false told own none = rw (none refl) (none-behind ended)
kept-by None true told own none = refl
kept-by (Some endings.Cut) true told own none = absurd own
kept-by (Some ending) true told own none = append-nil (staying told)

tells-kept : (told : List Mark) (v : Vp) → Tells told v → v.marks ≡ kept_marks (ending_of v) told
tells-kept told v h = h.last ∙ ap (λ ms. ms ++ vain_behind v.ended told) h.stood ∙ kept-by v.ended v.started told h.own h.unstarted

same_some : {X : Type 0} {x y : X} → Some x ≡ Some y → x ≡ y
same_some e = cc

-- the processor at a place of a list of what each has left
pub record Found {X : Type 0} (f : Vp → X) (vps : List Vp) (p : ℕ) (x : X) : Type 0 where
  pub vp : Vp
  pub at : slice_get vps p ≡ Some vp
  pub is : f vp ≡ x

pub found-in : {X : Type 0} (f : Vp → X) (vps : List Vp) (p : ℕ) (x : X) → slice_get (map f vps) p ≡ Some x → Found f vps p x
found-in f vps p x e = from (slice_get vps p) refl (sym (slice_get-map f vps p) ∙ e) where
  from : (u : Option Vp) → slice_get vps p ≡ u → option_map f u ≡ Some x → Found f vps p x
  from None at is = cc
  from (Some u) at is = record { vp = u; at = at; is = cc }

pub none-in : {X : Type 0} (f : Vp → X) (vps : List Vp) (p : ℕ) → slice_get (map f vps) p ≡ None → slice_get vps p ≡ None
none-in f vps p e = from (slice_get vps p) (sym (slice_get-map f vps p) ∙ e) where
  from : (u : Option Vp) → option_map f u ≡ None → u ≡ None
  from None is = refl
  from (Some u) is = cc

pub marks-told : (s : Script) (p : ℕ) (track : Track) (ending : Ending) → slice_get (flat s).tracks p ≡ Some track → slice_get (flat s).ends p ≡ Some ending → track.marks ≡ kept_marks ending (told_marks p (flat s).lines)
unfolding flat
marks-told s p track ending at end =
    let vps = (closed s).vps in
    let one = found-in track_of vps p track at in
    let two = found-in ending_of vps p ending end in
    let same : two.vp ≡ one.vp = same_some (sym two.at ∙ one.at) in
    let e : ending_of one.vp ≡ ending = ap ending_of (sym same) ∙ two.is in
    sym (ap (λ (t : Track). t.marks) one.is) ∙ tells-kept (told_marks p (closed s).lines) one.vp ((closed-tell s).each p one.vp one.at) ∙ ap (λ d. kept_marks d (told_marks p (closed s).lines)) e

pub others-untold : (s : Script) (p : ℕ) → slice_get (flat s).tracks p ≡ None → told_marks p (flat s).lines ≡ []
unfolding flat
others-untold s p e = (closed-tell s).others p (none-in track_of (closed s).vps p e)
