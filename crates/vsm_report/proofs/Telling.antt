-- The lines of an attempt, told apart again, and the entries among those of a run.
use Rattle.std.proofs.Common.{◌≡◌, ℕ, Bool, true, false, cond, eqb, Option, Some, None, List, [], ◌∷◌, ◌++◌, map, slice_get, refl, sym, ap, ◌∙◌}
use Rattle.std.proofs.lemmas.List.{append-nil}
use Rattle.std.proofs.lemmas.List.Elements.{filter_map-append}
use Rattle.vsm_core.specs.declared.journal.Entry.{Entry}
use Rattle.vsm_core.specs.declared.mark.Mark.{Mark}
use Rattle.vsm_core.specs.declared.operation.Program.{Program}
use Rattle.vsm_core.specs.declared.partition_state.PartitionState.{PartitionState}
use Rattle.vsm_core.specs.declared.request.Request.{Request}
use Rattle.vsm_core.specs.Processor.{Vp, attempted, new_marks}
use Rattle.vsm_core.specs.Served.{state_after, joined}
use Rattle.guest_script.specs.declared.script.Script.{Script}
use Rattle.guest_script.specs.Programs.{program_at}
use Rattle.vsm_report.specs.declared.report.Line.{Line}
use Rattle.vsm_report.specs.Acting.{first_partition, is_running, entry_line, mark_line, new_lines, attempt_lines}
use Rattle.vsm_report.specs.FlatRun.{World, acted, opened, closed, flat}
use Rattle.vsm_report.specs.Telling.{mark_in, entry_in, told_marks, told_entries}
use Rattle.vsm_report.proofs.Stepping.{at_once, schedule_alike, joined-append}

entries-of-entries : (es : List Entry) → told_entries (map entry_line es) ≡ es
entries-of-entries [] = refl
entries-of-entries (e ∷ es) = ap (λ l. e ∷ l) (entries-of-entries es)

entries-of-marks : (p : ℕ) (ms : List Mark) → told_entries (map (mark_line p) ms) ≡ []
entries-of-marks p [] = refl
entries-of-marks p (m ∷ ms) = entries-of-marks p ms

marks-of-entries : (q : ℕ) (es : List Entry) → told_marks q (map entry_line es) ≡ []
marks-of-entries q [] = refl
marks-of-entries q (e ∷ es) = marks-of-entries q es

marks-of-own : (q p : ℕ) (ms : List Mark) → eqb q p ≡ true → told_marks q (map (mark_line p) ms) ≡ ms
marks-of-own q p [] e = refl
marks-of-own q p (m ∷ ms) e = rw e (ap (λ l. m ∷ l) (marks-of-own q p ms e))

marks-of-other : (q p : ℕ) (ms : List Mark) → eqb q p ≡ false → told_marks q (map (mark_line p) ms) ≡ []
marks-of-other q p [] e = refl
marks-of-other q p (m ∷ ms) e = rw e (marks-of-other q p ms e)

-- the lines of an attempt tell its own marks of its processor, and none of any other
module _ (lines : List Line) (q p : ℕ) (served : List (Request × List Entry)) (old new : Vp) where
  marks-behind : told_marks q (lines ++ attempt_lines p served old new) ≡ told_marks q lines ++ told_marks q (new_lines p old new)
  marks-behind =
      let es = map entry_line (joined served) in
      filter_map-append (mark_in q) lines (es ++ new_lines p old new)
      ∙ ap (λ ms. told_marks q lines ++ ms) (filter_map-append (mark_in q) es (new_lines p old new) ∙ ap (λ ms. ms ++ told_marks q (new_lines p old new)) (marks-of-entries q (joined served)))

  pub own-behind : eqb q p ≡ true → told_marks q (lines ++ attempt_lines p served old new) ≡ told_marks q lines ++ new_marks old new
  own-behind e = marks-behind ∙ ap (λ ms. told_marks q lines ++ ms) (marks-of-own q p (new_marks old new) e)

  pub other-behind : eqb q p ≡ false → told_marks q (lines ++ attempt_lines p served old new) ≡ told_marks q lines
  other-behind e = marks-behind ∙ ap (λ ms. told_marks q lines ++ ms) (marks-of-other q p (new_marks old new) e) ∙ append-nil (told_marks q lines)

-- they tell its own entries
entries-behind : (lines : List Line) (p : ℕ) (served : List (Request × List Entry)) (old new : Vp) → told_entries (lines ++ attempt_lines p served old new) ≡ told_entries lines ++ joined served
entries-behind lines p served old new =
    let es = map entry_line (joined served) in
    filter_map-append entry_in lines (es ++ new_lines p old new)
    ∙ ap (λ us. told_entries lines ++ us) (filter_map-append entry_in es (new_lines p old new) ∙ ap (λ us. us ++ told_entries (new_lines p old new)) (entries-of-entries (joined served)) ∙ ap (λ us. joined served ++ us) (entries-of-marks p (new_marks old new)) ∙ append-nil (joined served))

-- the lines so far tell the entries of the requests so far
abbrev TellsEntries : World → Type 0
TellsEntries w = told_entries w.lines ≡ joined w.partition

if-told : (b : Bool) (w v : World) → TellsEntries w → TellsEntries v → TellsEntries (cond b w v)
if-told true w v h g = h
if-told false w v h g = g

module _ (first : PartitionState) where
  at_once-told : (program : Program) (p : ℕ) (w : World) (u : Option Vp) → TellsEntries w → TellsEntries (at_once first p program w u)
  at_once-told program p w None h = h
  at_once-told program p w (Some u) h =
      let did = attempted program u (state_after first w.partition) w.words in
      if-told (is_running u) _ w (entries-behind w.lines p did.served u did.vp ∙ ap (λ es. es ++ joined did.served) h ∙ sym (joined-append w.partition did.served)) h

  acted-told : (programs : List Program) (p : ℕ) (w : World) → TellsEntries w → TellsEntries (acted first programs p w)
  unfolding acted
  acted-told programs p w h = at_once-told (program_at programs p) p w (slice_get w.vps p) h

-- the lines of a run tell its journal
pub journal-told : (s : Script) → told_entries (flat s).lines ≡ (flat s).journal
unfolding flat closed opened
journal-told s =
    let first = first_partition s in
    schedule_alike (λ (v w : World). TellsEntries w) (acted first s.programs) (acted first s.programs) (λ p v w h. acted-told first s.programs p w h) s.schedule (opened s) (opened s) refl
