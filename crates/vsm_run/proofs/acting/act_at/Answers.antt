use Rattle.std.proofs.Common.{arith, None, ◌≡◌, ◌≤◌, ◌+◌, length, sym, ap, ◌∙◌, subst, length-append, length-take, length-drop, ℕ, ◌-◌, List, ◌++◌, take, drop, map}
use Rattle.std.proofs.lemmas.List.{length-map}
use Rattle.vsm_core.specs.declared.journal.Entry.{Entry}
use Rattle.vsm_core.specs.declared.mark.Mark.{Mark}
use Rattle.vsm_core.specs.declared.operation.Program.{Program}
use Rattle.vsm_core.specs.declared.partition_state.PartitionState.{PartitionState}
use Rattle.vsm_core.specs.Processor.{Vp, standing}
use Rattle.partition.specs.PartView.{PartView}
use Rattle.protection_map.specs.JournalView.{JournalView}
use Rattle.vsm_report.specs.declared.report.Line.{Line}
use Rattle.vsm_report.specs.Acting.{entry_line, mark_line}
use Rattle.vsm_report.specs.Trace.{made_steps}
use Rattle.vsm_run.specs.Fits.{FitsOne}
use Rattle.vsm_run.specs.Rests.{IsAtRest, IsInPlace}
use Rattle.vsm_run.proofs.Attempts.{AddsFew, made_steps-few, made_steps-fits, made_steps-pays, made_steps-place, made_steps-stands}
use Rattle.vsm_run.proofs.Serves.{still-free, entries-few, entries-later, entries-paid}
use Rattle.vsm_run.proofs.acting.act_at.Goals as goal

few : (program : Program) (v n : Vp) (s : PartitionState) (words : List ℕ) (marks : List Mark) → n ≡ (made_steps program v s words).vp → marks ≡ n.marks → AddsFew (standing v) marks
few program v n s words marks e m = rw (m, e) (made_steps-few program v s words)

-- the entries are read before the attempt and after it
entries-more : (old new : PartView) (first last : JournalView) (before entries : List Entry) → first ≡ old.journal → before ≡ first.entries → last ≡ new.journal → entries ≡ last.entries → length old.journal.entries ≤ length new.journal.entries
    → length (take (length entries - length before) (drop (length before) entries)) + length old.journal.entries ≤ length new.journal.entries
entries-more old new first last before entries f b l e later =
    let old_same : length before ≡ length old.journal.entries = ap length (b ∙ ap (λ (j : JournalView). j.entries) f) in
    let new_same : length entries ≡ length new.journal.entries = ap length (e ∙ ap (λ (j : JournalView). j.entries) l) in
    omega (arith, length-take {A = Entry}, length-drop {A = Entry})

marks-more : (stood : ℕ) (marks : List Mark) → length marks ≤ stood + 1 → length (take (length marks - stood) (drop stood marks)) ≤ 1
marks-more stood marks le = omega (arith, length-take {A = Mark}, length-drop {A = Mark})

-- as many lines more
grown : {X : Type 0} (line : X → Line) (lines new : List Line × ℕ) (items : List X) → new ≡ (lines.0 ++ map line items, lines.1) → (length new.0 ≡ length lines.0 + length items) × (new.1 ≡ lines.1)
grown line lines new items e =
    (ap (λ (r : List Line × ℕ). length r.0) e ∙ length-append lines.0 (map line items) ∙ ap (λ n. length lines.0 + n) (length-map items line), ap (λ (r : List Line × ℕ). r.1) e)

pub offset_bounds-marks-stood : goal.offset_bounds-marks-stood
offset_bounds-marks-stood c =
    let h = few _ _ _ _ _ _ c.make_at.ensures.done.vp c.marks.ensures in let low = h.low in omega arith

pub slice_bounds-add_marks-count : goal.slice_bounds-add_marks-count
slice_bounds-add_marks-count c =
    let h = few _ _ _ _ _ _ c.make_at.ensures.done.vp c.marks.ensures in let low = h.low in omega arith

pub slice_bounds-add_marks-start : goal.slice_bounds-add_marks-start
slice_bounds-add_marks-start c =
    let h = few _ _ _ _ _ _ c.make_at.ensures.done.vp c.marks.ensures in let low = h.low in omega arith

pub returns-clause-place : goal.returns-clause-place
returns-clause-place c =
    let program = c.args.program.now in
    let v = c.args.cpu.now in
    let limits = c.args.fabric.now.limits in
    let e = c.make_at.ensures.done.vp in
    subst (IsInPlace limits v.number) (sym e) (made_steps-place program v c.args.partition.now.state c.args.fabric.now.fabric.words limits v.number c.requires.place (subst IsAtRest e c.make_at.ensures.rests) (subst (λ (u : Vp). u.heard ≡ None) e c.make_at.ensures.unheard))

pub returns-clause-fits : goal.returns-clause-fits
returns-clause-fits c =
    subst (FitsOne c.args.program.now) (sym c.make_at.ensures.done.vp) (made_steps-fits c.args.program.now c.args.cpu.now c.args.partition.now.state c.args.fabric.now.fabric.words c.requires.fits)

pub returns-clause-free : goal.returns-clause-free
returns-clause-free c =
    still-free _ c.make_at.new.cpu c.make_at.new.fabric.fabric.words c.args.partition.now c.make_at.new.partition c.make_at.ensures.done c.args.fabric.now.limits c.requires.free

pub returns-clause-spends : goal.returns-clause-spends
returns-clause-spends c =
    entries-paid _ c.make_at.new.cpu c.make_at.new.fabric.fabric.words c.args.partition.now c.make_at.new.partition c.make_at.ensures.done (length c.args.partition.now.state.vps + 11) (standing c.args.cpu.now) (made_steps-pays c.args.program.now c.args.cpu.now c.args.partition.now.state c.args.fabric.now.fabric.words) c.make_at.ensures.few

pub returns-clause-marks : goal.returns-clause-marks
returns-clause-marks c =
    let v = c.args.cpu.now in
    subst (λ (n : Vp). length (standing n) ≤ length (standing v) + 1) (sym c.make_at.ensures.done.vp) (made_steps-stands c.args.program.now v c.args.partition.now.state c.args.fabric.now.fabric.words)

pub add_entries-requires : goal.add_entries-requires
add_entries-requires c =
    let did = c.make_at.ensures.done in
    let vps = length c.args.partition.now.state.vps in
    let pays = made_steps-pays c.args.program.now c.args.cpu.now c.args.partition.now.state c.args.fabric.now.fabric.words in
    let few_entries = entries-few _ c.make_at.new.cpu c.make_at.new.fabric.fabric.words c.args.partition.now c.make_at.new.partition did (vps + 11) (standing c.args.cpu.now) pays c.make_at.ensures.few in
    let later = entries-later _ c.make_at.new.cpu c.make_at.new.fabric.fabric.words c.args.partition.now c.make_at.new.partition did in
    let some = entries-more c.args.partition.now c.make_at.new.partition c.journal.result.now c.journal-2.result.now c.entries-before.result.now c.entries.result.now c.journal.ensures c.entries-before.ensures c.journal-2.ensures c.entries.ensures later in
    let room = c.requires.room in
    omega arith

pub add_marks-requires : goal.add_marks-requires
add_marks-requires c =
    let did = c.make_at.ensures.done in
    let vps = length c.args.partition.now.state.vps in
    let pays = made_steps-pays c.args.program.now c.args.cpu.now c.args.partition.now.state c.args.fabric.now.fabric.words in
    let few_entries = entries-few _ c.make_at.new.cpu c.make_at.new.fabric.fabric.words c.args.partition.now c.make_at.new.partition did (vps + 11) (standing c.args.cpu.now) pays c.make_at.ensures.few in
    let later = entries-later _ c.make_at.new.cpu c.make_at.new.fabric.fabric.words c.args.partition.now c.make_at.new.partition did in
    let some = entries-more c.args.partition.now c.make_at.new.partition c.journal.result.now c.journal-2.result.now c.entries-before.result.now c.entries.result.now c.journal.ensures c.entries-before.ensures c.journal-2.ensures c.entries.ensures later in
    let more = grown entry_line c.args.lines.now c.add_entries.new.lines _ c.add_entries.ensures in
    let lines = more.0 in
    let same = more.1 in
    let h = few _ _ _ _ _ _ did.vp c.marks.ensures in
    let low = h.few in
    let marks = marks-more c.standing-stood.result c.marks.result.now (omega arith) in
    let room = c.requires.room in
    omega arith

pub returns-clause-grows : goal.returns-clause-grows
returns-clause-grows c =
    let did = c.make_at.ensures.done in
    let vps = length c.args.partition.now.state.vps in
    let pays = made_steps-pays c.args.program.now c.args.cpu.now c.args.partition.now.state c.args.fabric.now.fabric.words in
    let few_entries = entries-few _ c.make_at.new.cpu c.make_at.new.fabric.fabric.words c.args.partition.now c.make_at.new.partition did (vps + 11) (standing c.args.cpu.now) pays c.make_at.ensures.few in
    let later = entries-later _ c.make_at.new.cpu c.make_at.new.fabric.fabric.words c.args.partition.now c.make_at.new.partition did in
    let some = entries-more c.args.partition.now c.make_at.new.partition c.journal.result.now c.journal-2.result.now c.entries-before.result.now c.entries.result.now c.journal.ensures c.entries-before.ensures c.journal-2.ensures c.entries.ensures later in
    let more = grown entry_line c.args.lines.now c.add_entries.new.lines _ c.add_entries.ensures in
    let lines = more.0 in
    let h = few _ _ _ _ _ _ did.vp c.marks.ensures in
    let low = h.few in
    let marks = marks-more c.standing-stood.result c.marks.result.now (omega arith) in
    let last = grown (mark_line c.vp-vp.result.0) c.add_entries.new.lines c.add_marks.new.lines _ c.add_marks.ensures in
    let grown_lines = last.0 in
    omega arith
