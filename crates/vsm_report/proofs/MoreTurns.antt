-- What one turn more of a processor does to a run.
use Rattle.std.proofs.Common.{◌≡◌, ◌≢◌, ◌⊎◌, inl, inr, ◌==◌, ◌+◌, ℕ, zero, suc, Bool, true, false, not, cond, is_some, unwrap_or, IfSome, Option, Some, None, List, [], ◌∷◌, ◌++◌, drop, flat_map, fold, length, map, nat_lt, replicate, slice_get, slice_set, refl, sym, ap, ◌∙◌, subst}
use Rattle.std.specs.Prelude.{option_map}
use Rattle.std.proofs.lemmas.List.{append-nil}
use Rattle.std.proofs.lemmas.List.Sums.{fold-append}
use Rattle.std.proofs.lemmas.Option.{slice_get-map}
use Rattle.std.proofs.Math.Seq.{drop-append_seam}
use Rattle.vsm_core.specs.declared.event.Event.{Event}
use Rattle.vsm_core.specs.declared.event.Event.TheVariants as events
use Rattle.vsm_core.specs.declared.event.PendingWord.TheVariants.{Start}
use Rattle.vsm_core.specs.declared.journal.Entry.{Entry}
use Rattle.vsm_core.specs.declared.mark.Ending.{Ending}
use Rattle.vsm_core.specs.declared.mark.Ending.TheVariants as endings
use Rattle.vsm_core.specs.declared.mark.Mark.{Mark}
use Rattle.vsm_core.specs.declared.mark.What.{What}
use Rattle.vsm_core.specs.declared.mark.What.TheVariants.{Again, Started}
use Rattle.vsm_core.specs.declared.operation.Op.{Op}
use Rattle.vsm_core.specs.declared.operation.Program.{Program}
use Rattle.vsm_core.specs.declared.partition_state.PartitionState.{PartitionState}
use Rattle.vsm_core.specs.declared.request.PartCall.TheVariants.{Fetch}
use Rattle.vsm_core.specs.declared.request.Request.{Request}
use Rattle.vsm_core.specs.Hypercalls.{asked_of}
use Rattle.vsm_core.specs.Keeps.{EndsIn}
use Rattle.vsm_core.specs.Outcomes.{Outcome}
use Rattle.vsm_core.specs.Processor.{Vp, Did, IsSameProcessor, standing, new_marks, came_to, mark_of, start_mark, marked_or_ended, ending_after, ran_out, spun_out, or_else, length_of, saw, asking, answered, does_all, wakes, acts, attempted, operation_at, origin_of, tree_of}
use Rattle.vsm_core.specs.Served.{answer, after, block, state_after, joined}
use Rattle.vsm_core.specs.Starts.{start_tree, start_outcome}
use Rattle.vsm_core.specs.State.{rip_of}
use Rattle.vsm_core.specs.Steps.{made}
use Rattle.vsm_core.specs.Tree.{Tree, Ends, Asks, Wants, WordStep, Taking}
use Rattle.vsm_core.specs.Whole.{Flat, answer_in, flat_after, with_entries}
use Rattle.guest_script.specs.declared.script.Script.{Script}
use Rattle.guest_script.specs.declared.script.Turns.{Turns}
use Rattle.guest_script.specs.Programs.{program_at}
use Rattle.vsm_report.specs.declared.report.Line.{Line}
use Rattle.vsm_report.specs.declared.report.Report.{Report}
use Rattle.vsm_report.specs.Acting.{first_partition, ending_of, is_running, opening_vps, track_of, mark_line, entry_line, with_attempt}
use Rattle.vsm_report.specs.Counts.{is_left}
use Rattle.vsm_report.specs.Endings.{last_of}
use Rattle.vsm_report.specs.FlatRun.{World, acted, opened, opening_flat, closed, report_of, flat}
use Rattle.vsm_report.specs.MoreTurns.{once, with_turn, turns_in, one_by_one, IsOver, HasMore, HasOneMore, HasStarted}
use Rattle.vsm_report.specs.Opening.{opening_masks, opening_words}
use Rattle.vsm_report.specs.Schedule.{after_turns, after_entry, after_line, after_schedule}
use Rattle.vsm_report.specs.Telling.{told_marks}
use Rattle.vsm_report.proofs.Endings.{says-end}
use Rattle.vsm_report.proofs.LastStates.{Ready, Tested, Stands, after_spin, closed-stand, or_else-first, or_else-second, saw-ready, saw-state, stop_of, tested-ready}
use Rattle.vsm_report.proofs.Processors.{acts-same-processor}
use Rattle.vsm_report.proofs.Stepping.{at_once, joined-append}
use Rattle.vsm_report.proofs.TellingMarks.{IsOwnEnding, saw-standing}
use Rattle.vsm_report.proofs.TellingRuns.{Found, Tells, closed-tell, found-in, none-in, unstarted-marks, drop-nil}
use Rattle.vsm_report.proofs.VainSpins.{VainAt, tree-at}

-- lists in which one element is set
set-there : {X : Type 0} (xs : List X) (p : ℕ) (x y : X) → slice_get xs p ≡ Some x → slice_get (slice_set xs p y) p ≡ Some y
set-there [] p x y e = cc
set-there (z ∷ xs) zero x y e = refl
set-there (z ∷ xs) (suc p) x y e = set-there xs p x y e

set-same : {X : Type 0} (xs : List X) (p : ℕ) (x : X) → slice_get xs p ≡ Some x → slice_set xs p x ≡ xs
set-same [] p x e = refl
set-same (z ∷ xs) zero x e = let same : x ≡ z = cc in ap (λ y. y ∷ xs) same
set-same (z ∷ xs) (suc p) x e = ap (λ ys. z ∷ ys) (set-same xs p x e)

set-apart : {X : Type 0} (xs : List X) (p q : ℕ) (y : X) → q ≢ p → slice_get (slice_set xs p y) q ≡ slice_get xs q
set-apart [] p q y other = refl
set-apart (z ∷ xs) zero zero y other = absurd (other refl)
set-apart (z ∷ xs) zero (suc q) y other = refl
set-apart (z ∷ xs) (suc p) zero y other = refl
set-apart (z ∷ xs) (suc p) (suc q) y other = set-apart xs p q y (λ e. other (ap suc e))

-- the turns of a schedule, one by one
module _ {W : Type 0} (act : ℕ → W → W) where
  abbrev one : W → ℕ → W
  one w p = act p w

  turns-ones : (p count : ℕ) (w : W) → after_turns (act p) count w ≡ fold one w (replicate count p)
  unfolding after_turns
  turns-ones p zero w = refl
  turns-ones p (suc count) w = turns-ones p count (act p w)

  entries-ones : (entries : List Turns) (w : W) → fold (after_entry act) w entries ≡ fold one w (flat_map (λ (t : Turns). replicate t.count t.vp.0) entries)
  entries-ones [] w = refl
  entries-ones (t ∷ entries) w =
      let rest = flat_map (λ (t : Turns). replicate t.count t.vp.0) entries in
      entries-ones entries (after_entry act w t) ∙ ap (λ u. fold one u rest) (turns-ones t.vp.0 t.count w) ∙ sym (fold-append one w (replicate t.count t.vp.0) rest)

  lines-ones : (lines : List (List Turns)) (w : W) → fold (after_line act) w lines ≡ fold one w (turns_in lines)
  unfolding after_line
  lines-ones [] w = refl
  lines-ones (l ∷ lines) w =
      let entries = flat_map (λ (t : Turns). replicate t.count t.vp.0) l in
      lines-ones lines (fold (after_entry act) w l) ∙ ap (λ u. fold one u (turns_in lines)) (entries-ones l w) ∙ sym (fold-append one w entries (turns_in lines))

  ones-lines : (ps : List ℕ) (w : W) → fold (after_line act) w (map once ps) ≡ fold one w ps
  unfolding after_line after_turns
  ones-lines [] w = refl
  ones-lines (p ∷ ps) w = ones-lines ps (act p w)

  schedule-ones : (lines : List (List Turns)) (w : W) → after_schedule act w (map once (turns_in lines)) ≡ after_schedule act w lines
  unfolding after_schedule
  schedule-ones lines w = ones-lines (turns_in lines) w ∙ sym (lines-ones lines w)

  schedule-more : (lines : List (List Turns)) (w : W) (p : ℕ) → after_schedule act w (lines ++ once p ∷ []) ≡ act p (after_schedule act w lines)
  unfolding after_schedule after_line after_turns
  schedule-more lines w p = fold-append (after_line act) w lines (once p ∷ [])

-- a run begins alike whatever its schedule
opened-same : (s : Script) (schedule : List (List Turns)) → opened (record s { schedule = schedule }) ≡ opened s
unfolding opened opening_flat opening_vps opening_masks opening_words
opened-same s schedule = refl

closed-ones : (s : Script) → closed (one_by_one s) ≡ closed s
unfolding closed
closed-ones s =
    let act = acted (first_partition s) s.programs in
    ap (λ w. after_schedule act w (map once (turns_in s.schedule))) (opened-same s (map once (turns_in s.schedule))) ∙ schedule-ones act s.schedule (opened s)

pub flat-ones : (s : Script) → flat (one_by_one s) ≡ flat s
unfolding flat
flat-ones s = ap report_of (closed-ones s)

closed-more : (s : Script) (p : ℕ) → closed (with_turn s p) ≡ acted (first_partition s) s.programs p (closed s)
unfolding closed
closed-more s p =
    let act = acted (first_partition s) s.programs in
    ap (λ w. after_schedule act w (s.schedule ++ once p ∷ [])) (opened-same s (s.schedule ++ once p ∷ [])) ∙ schedule-more act s.schedule (opened s) p

acted-at : (first : PartitionState) (programs : List Program) (p : ℕ) (w : World) (u : Option Vp) → slice_get w.vps p ≡ u → acted first programs p w ≡ at_once first p (program_at programs p) w u
unfolding acted
acted-at first programs p w u e = ap (at_once first p (program_at programs p) w) e

-- the report with one turn more, by the processor that stands at the place
flat-more : (s : Script) (p : ℕ) (u : Option Vp) → slice_get (closed s).vps p ≡ u → flat (with_turn s p) ≡ report_of (at_once (first_partition s) p (program_at s.programs p) (closed s) u)
unfolding flat
flat-more s p u e = ap report_of (closed-more s p ∙ acted-at (first_partition s) s.programs p (closed s) u e)

-- where there is no processor, nothing happens
pub nobody-acts : (s : Script) (p : ℕ) → slice_get (flat s).ends p ≡ None → flat (with_turn s p) ≡ flat s
unfolding flat
nobody-acts s p e = flat-more s p None (none-in ending_of (closed s).vps p e)

-- nor where it has ended
over-stops : (started : Bool) (ended : Option Ending) → IsOver (cond started (unwrap_or ended endings.Cut) endings.Unstarted) → not (is_some ended) ≡ false
over-stops false ended over = absurd over
over-stops true None over = absurd over
over-stops true (Some ending) over = refl

pub over-still : (s : Script) (p : ℕ) (ending : Ending) → slice_get (flat s).ends p ≡ Some ending → IsOver ending → flat (with_turn s p) ≡ flat s
unfolding flat
over-still s p ending e over =
    let found = found-in ending_of (closed s).vps p ending e in
    let v = found.vp in
    let stops : is_running v ≡ false = over-stops v.started v.ended (subst IsOver (sym found.is) over) in
    flat-more s p (Some v) found.at ∙ ap (λ b. report_of (cond b (with_attempt attempted (state_after (first_partition s)) (λ before more. before ++ more) p (closed s) v (attempted (program_at s.programs p) v (state_after (first_partition s) (closed s).partition) (closed s).words)) (closed s))) stops

-- a processor that may make an attempt
record Running (v : Vp) : Type 0 where
  ready : Ready v
  ran : ran_out (length_of v v.state.active) v.limits.budget (rip_of v.state) (length (standing v)) ≡ None

tested-running : (v : Vp) → v.ended ≡ None → Tested v → Running v
tested-running v going h =
    let stop = stop_of (last_of (standing v)) in
    let ran = ran_out (length_of v v.state.active) v.limits.budget (rip_of v.state) (length (standing v)) in
    record { ready = tested-ready v going h; ran = or_else-first ran (spun_out v.spins) (sym (or_else-second stop (or_else ran (spun_out v.spins)) (sym going ∙ h.ended))) }

-- one mark behind those that stood, or none where it has spun in vain too often
abbrev One : List Mark → Vp → Type 0
One stood n = ((mark : Mark) × (n.marks ≡ stood ++ mark ∷ [])) ⊎ ((n.marks ≡ stood) × (n.ended ≡ Some endings.Spun))

spun-is : (b : Bool) (ending : Ending) → Some ending ≡ cond b (Some endings.Spun) None → Some ending ≡ Some endings.Spun
spun-is true ending e = e
spun-is false ending e = cc

vain-one : (v : Vp) (o : Outcome) (ending : Option Ending) → ending ≡ after_spin v → Running v → One (standing v) (marked_or_ended v o ending)
vain-one v o None e h = inl (mark_of v o.what, refl)
vain-one v o (Some ending) e h = inr (refl, spun-is _ ending (e ∙ ap (λ x. or_else x (spun_out (v.spins + 1))) h.ran))

came_to-one : (what : What) (v : Vp) (o : Outcome) → o.what ≡ what → VainAt v.state o → Running v → One (standing v) (came_to what v o)
came_to-one (Again grant) v o e vain h =
    let same = vain (ap is_left e) in
    vain-one v o _ (ap (λ w. ending_after v w o.state (length (standing v)) (v.spins + 1)) e ∙ ap (λ s. ending_after v (Again grant) s (length (standing v)) (v.spins + 1)) same) h
came_to-one Started v o e vain h = inl (start_mark v o, refl)
came_to-one _ v o e vain h = inl (mark_of v o.what, refl)

saw-running : (op : Option Op) (v : Vp) (e : Event) → Running v → Running (saw op v e)
saw-running op v (events.Check generation) h = record { ready = saw-ready op v (events.Check generation) h.ready; ran = h.ran }
saw-running op v e h = record { ready = saw-ready op v e h.ready; ran = h.ran }

module _ {W : Type 0} (answers : W → WordStep → ℕ) (changes : W → WordStep → W) (adds : W → List Entry → W) (op : Option Op) where
  does_all-one : (s : PartitionState) (v : Vp) (words : W) (t : Tree Outcome) → EndsIn (VainAt v.state) t → Running v → One (standing v) (does_all answers changes adds s op v words t).vp
  does_all-one s v words (Ends o) vain h = came_to-one o.what v o refl vain h
  does_all-one s v words (Asks step k) vain h =
      let x = answers words step in
      let seen = saw op v (made step x) in
      let n = (does_all answers changes adds s op seen (changes words step) (k x)).vp in
      subst (λ stood. One stood n) (saw-standing op v (made step x)) (does_all-one s seen (changes words step) (k x) (subst (λ state. EndsIn (VainAt state) (k x)) (sym (saw-state op v (made step x))) (vain x)) (saw-running op v (made step x) h))
  does_all-one s v words (Wants q k) vain h =
      let reply = answer s q in
      let ready : Ready (answered reply (asking op v)) = record { going = h.ready.going; few = h.ready.few; quiet = h.ready.quiet } in
      does_all-one (after s q) (answered reply (asking op v)) (adds words (block s q)) (k reply) (vain reply) (record { ready = ready; ran = h.ran })

attempted-one : (program : Program) (v : Vp) (s : PartitionState) (flat : Flat) → v.started ≡ true → Running v → One (standing v) (attempted program v s flat).vp
unfolding attempted
attempted-one program v s flat on h = by v.started on where
  by : (b : Bool) → b ≡ true
      → let op = operation_at program v.state in
      One (standing v) (cond b (does_all (answer_in v.limits v.number) (flat_after v.limits v.number) with_entries s op v flat (tree_of (origin_of v) op)) (wakes (answer_in v.limits v.number) (flat_after v.limits v.number) with_entries s v flat)).vp
  by true e = let op = operation_at program v.state in does_all-one (answer_in v.limits v.number) (flat_after v.limits v.number) with_entries op s v flat (tree_of (origin_of v) op) (tree-at (origin_of v) op) h
  by false e = cc

attempted-same : (program : Program) (v : Vp) (s : PartitionState) (flat : Flat) → IsSameProcessor v (attempted program v s flat).vp
unfolding attempted
attempted-same program v s flat = acts-same-processor (answer_in v.limits v.number) (flat_after v.limits v.number) with_entries program s v flat

-- a start leaves its mark
record Begins (stood : List Mark) (n : Vp) : Type 0 where
  mark : Mark
  marks : n.marks ≡ stood ++ mark ∷ []
  what : mark.what ≡ Started

-- where one more turn makes this of a processor
abbrev after_attempt : Script → ℕ → Vp → Did Flat → World
after_attempt s p v did = with_attempt attempted (state_after (first_partition s)) (λ before more. before ++ more) p (closed s) v did

more-of : (s : Script) (p : ℕ) (v : Vp) (did : Did Flat) (marks : List Mark) → new_marks v did.vp ≡ marks → HasMore p (joined did.served) marks (report_of (closed s)) (report_of (after_attempt s p v did))
more-of s p v did marks e = record {
  journal = joined-append (closed s).partition did.served;
  lines = ap (λ ms. (closed s).lines ++ (map entry_line (joined did.served) ++ map (mark_line p) ms)) e;
}

behind : (v n : Vp) (marks : List Mark) → n.marks ≡ standing v ++ marks → new_marks v n ≡ marks
behind v n marks e = ap (drop (length (standing v))) e ∙ drop-append_seam (standing v) marks

cut-runs : (started : Bool) (ended : Option Ending) → IfSome ended IsOwnEnding → cond started (unwrap_or ended endings.Cut) endings.Unstarted ≡ endings.Cut → (started ≡ true) × (ended ≡ None)
cut-runs false ended own e = cc
cut-runs true None own e = (refl, refl)
cut-runs true (Some ending) own e = absurd (subst IsOwnEnding e own)

end-there : (s : Script) (p : ℕ) (v : Vp) (did : Did Flat) → slice_get (closed s).vps p ≡ Some v → slice_get (report_of (after_attempt s p v did)).ends p ≡ Some (ending_of did.vp)
end-there s p v did at = slice_get-map ending_of (slice_set (closed s).vps p did.vp) p ∙ ap (option_map ending_of) (set-there (closed s).vps p v did.vp at)

spun-end : (n : Vp) → n.started ≡ true → n.ended ≡ Some endings.Spun → ending_of n ≡ endings.Spun
spun-end n on spun = ap (λ b. cond b (unwrap_or n.ended endings.Cut) endings.Unstarted) on ∙ ap (λ x. unwrap_or x endings.Cut) spun

attempt-adds : (s : Script) (p : ℕ) (v : Vp) (did : Did Flat) → slice_get (closed s).vps p ≡ Some v → did.vp.started ≡ true → One (standing v) did.vp → HasOneMore p (report_of (closed s)) (report_of (after_attempt s p v did))
attempt-adds s p v did at on (inl one) =
    record { entries = joined did.served; marks = one.0 ∷ []; more = more-of s p v did (one.0 ∷ []) (behind v did.vp (one.0 ∷ []) one.1); one = inl refl }
attempt-adds s p v did at on (inr none) = record {
  entries = joined did.served;
  marks = [];
  more = more-of s p v did [] (behind v did.vp [] (none.0 ∙ sym (append-nil (standing v))));
  one = inr (refl, end-there s p v did at ∙ ap (λ e. Some e) (spun-end did.vp on none.1));
}

-- where the schedule ended first, a turn more leaves a mark more
pub cut-acts : (s : Script) (p : ℕ) → slice_get (flat s).ends p ≡ Some endings.Cut → HasOneMore p (flat s) (flat (with_turn s p))
unfolding flat
cut-acts s p e =
    let found = found-in ending_of (closed s).vps p endings.Cut e in
    let v = found.vp in
    let runs = cut-runs v.started v.ended ((closed-tell s).each p v found.at).own found.is in
    let first = first_partition s in
    let program = program_at s.programs p in
    let state = state_after first (closed s).partition in
    let did = attempted program v state (closed s).words in
    let going : is_running v ≡ true = ap (λ x. not (is_some x)) runs.1 in
    let tested = (closed-stand s p v found.at).on runs.0 in
    let one = attempted-one program v state (closed s).words runs.0 (tested-running v runs.1 tested) in
    let on = (attempted-same program v state (closed s).words).started runs.0 in
    let new : flat (with_turn s p) ≡ report_of (after_attempt s p v did) = flat-more s p (Some v) found.at ∙ ap (λ b. report_of (cond b (after_attempt s p v did) (closed s))) going in
    subst (HasOneMore p (report_of (closed s))) (sym new) (attempt-adds s p v did found.at on one)

-- one that hasn't started starts, or waits
world-same : (w : World) (partition : List (Request × List Entry)) (vps : List Vp) (lines : List Line) → partition ≡ w.partition → vps ≡ w.vps → lines ≡ w.lines → report_of (record { words = w.words; partition = partition; vps = vps; lines = lines }) ≡ report_of w
world-same w partition vps lines e f g = rw (e, f, g) refl

waits-same : (s : Script) (p : ℕ) (v : Vp) → slice_get (closed s).vps p ≡ Some v → v.started ≡ false → report_of (after_attempt s p v (record { vp = v; words = (closed s).words; served = [] })) ≡ report_of (closed s)
waits-same s p v at off =
    let w = closed s in
    let none : new_marks v v ≡ [] = drop-nil (length (standing v)) v.marks (unstarted-marks (told_marks p w.lines) v ((closed-tell s).each p v at) off) in
    world-same w (w.partition ++ []) (slice_set w.vps p v) (w.lines ++ map (mark_line p) (new_marks v v)) (append-nil w.partition) (set-same w.vps p v at) (ap (λ ms. w.lines ++ map (mark_line p) ms) none ∙ append-nil w.lines)

begins-adds : (s : Script) (p : ℕ) (v : Vp) (did : Did Flat) → Begins (standing v) did.vp → HasStarted p (report_of (closed s)) (report_of (after_attempt s p v did))
begins-adds s p v did b = record { entries = joined did.served; mark = b.mark; starts = b.what; more = more-of s p v did (b.mark ∷ []) (behind v did.vp (b.mark ∷ []) b.marks) }

abbrev Waits-or-starts : Script → ℕ → Report → Type 0
Waits-or-starts s p new = (new ≡ report_of (closed s)) ⊎ HasStarted p (report_of (closed s)) new

-- the mark of a start
start-begins : {W : Type 0} (answers : W → WordStep → ℕ) (changes : W → WordStep → W) (adds : W → List Entry → W) (s : PartitionState) (v : Vp) (words : W) → Begins (standing v) (does_all answers changes adds s None v words (start_tree (origin_of v))).vp
start-begins answers changes adds s v words =
    let seen = saw None v (made (Taking Start) (answers words (Taking Start))) in
    let reply = answer s (asked_of (origin_of v) Fetch) in
    record { mark = start_mark (answered reply (asking None seen)) (start_outcome (origin_of v) reply); marks = refl; what = refl }

module _ (s : Script) (p : ℕ) (v : Vp) (at : slice_get (closed s).vps p ≡ Some v) (off : v.started ≡ false) where
  wakes-or-waits : (state : PartitionState) (answers : Flat → WordStep → ℕ) (changes : Flat → WordStep → Flat) (b : Bool)
      → Waits-or-starts s p (report_of (after_attempt s p v (cond b (record { vp = v; words = (closed s).words; served = [] }) (does_all answers changes with_entries state None v (closed s).words (start_tree (origin_of v))))))
  wakes-or-waits state answers changes true = inl (waits-same s p v at off)
  wakes-or-waits state answers changes false =
      inr (begins-adds s p v (does_all answers changes with_entries state None v (closed s).words (start_tree (origin_of v))) (start-begins answers changes with_entries state v (closed s).words))

  attempted-begins : (program : Program) (state : PartitionState) → Waits-or-starts s p (report_of (after_attempt s p v (attempted program v state (closed s).words)))
  unfolding attempted
  attempted-begins program state = by v.started off where
    answers : Flat → WordStep → ℕ
    answers = answer_in v.limits v.number

    changes : Flat → WordStep → Flat
    changes = flat_after v.limits v.number

    by : (b : Bool) → b ≡ false
        → let op = operation_at program v.state in
        Waits-or-starts s p (report_of (after_attempt s p v (cond b (does_all (answer_in v.limits v.number) (flat_after v.limits v.number) with_entries state op v (closed s).words (tree_of (origin_of v) op)) (wakes (answer_in v.limits v.number) (flat_after v.limits v.number) with_entries state v (closed s).words))))
    by true e = cc
    by false e = wakes-or-waits state (answer_in v.limits v.number) (flat_after v.limits v.number) (answer_in v.limits v.number (closed s).words (Taking Start) == 0)

pub unstarted-waits : (s : Script) (p : ℕ) → slice_get (flat s).ends p ≡ Some endings.Unstarted → (flat (with_turn s p) ≡ flat s) ⊎ HasStarted p (flat s) (flat (with_turn s p))
unfolding flat
unstarted-waits s p e =
    let found = found-in ending_of (closed s).vps p endings.Unstarted e in
    let v = found.vp in
    let off : v.started ≡ false = says-end s p v endings.Unstarted found.at e in
    let going : is_running v ≡ true = ap (λ x. not (is_some x)) ((closed-stand s p v found.at).off off).going in
    let program = program_at s.programs p in
    let state = state_after (first_partition s) (closed s).partition in
    let new : flat (with_turn s p) ≡ report_of (after_attempt s p v (attempted program v state (closed s).words)) = flat-more s p (Some v) found.at ∙ ap (λ b. report_of (cond b (after_attempt s p v (attempted program v state (closed s).words)) (closed s))) going in
    subst (Waits-or-starts s p) (sym new) (attempted-begins s p v found.at off program state)

-- a turn changes nothing of another processor
same-of : (w : World) (vps : List Vp) (q : ℕ) → slice_get vps q ≡ slice_get w.vps q → slice_get (map track_of vps) q ≡ slice_get (map track_of w.vps) q
same-of w vps q e = slice_get-map track_of vps q ∙ ap (option_map track_of) e ∙ sym (slice_get-map track_of w.vps q)

ends-of : (w : World) (vps : List Vp) (q : ℕ) → slice_get vps q ≡ slice_get w.vps q → slice_get (map ending_of vps) q ≡ slice_get (map ending_of w.vps) q
ends-of w vps q e = slice_get-map ending_of vps q ∙ ap (option_map ending_of) e ∙ sym (slice_get-map ending_of w.vps q)

module _ (first : PartitionState) (p q : ℕ) (other : q ≢ p) where
  apart-if : (b : Bool) (w v : World) → slice_get w.vps q ≡ slice_get v.vps q → slice_get (cond b w v).vps q ≡ slice_get v.vps q
  apart-if true w v e = e
  apart-if false w v e = refl

  at_once-apart : (program : Program) (w : World) (u : Option Vp) → slice_get (at_once first p program w u).vps q ≡ slice_get w.vps q
  at_once-apart program w None = refl
  at_once-apart program w (Some u) = apart-if (is_running u) _ w (set-apart w.vps p q (attempted program u (state_after first w.partition) w.words).vp other)

pub others-stay : (s : Script) (p q : ℕ) → q ≢ p → (slice_get (flat (with_turn s p)).tracks q ≡ slice_get (flat s).tracks q) × (slice_get (flat (with_turn s p)).ends q ≡ slice_get (flat s).ends q)
unfolding flat
others-stay s p q other =
    let w = closed s in
    let new = at_once (first_partition s) p (program_at s.programs p) w (slice_get w.vps p) in
    let e = flat-more s p (slice_get w.vps p) refl in
    let at = at_once-apart (first_partition s) p q other (program_at s.programs p) w (slice_get w.vps p) in
    (ap (λ (r : Report). slice_get r.tracks q) e ∙ same-of w new.vps q at, ap (λ (r : Report). slice_get r.ends q) e ∙ ends-of w new.vps q at)
