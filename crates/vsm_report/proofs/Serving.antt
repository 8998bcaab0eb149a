-- What a run serves: each request adds what it adds to the state that those before it leave, and the masks at the end are those of the journal.
use Rattle.std.proofs.Common.{◌≡◌, ℕ, Bool, true, false, cond, Option, Some, None, List, [], ◌∷◌, ◌++◌, slice_get, refl, sym, ap, ◌∙◌, subst}
use Rattle.std.proofs.lemmas.List.FromFn.{length-map-range_with_len}
use Rattle.vsm_base.specs.declared.places.Limits.{Limits}
use Rattle.vsm_core.specs.declared.journal.Entry.{Entry}
use Rattle.vsm_core.specs.declared.operation.Op.{Op}
use Rattle.vsm_core.specs.declared.operation.Program.{Program}
use Rattle.vsm_core.specs.declared.partition_state.PartitionState.{PartitionState}
use Rattle.vsm_core.specs.declared.request.Request.{Request}
use Rattle.vsm_core.specs.Blocks.{IsWhole}
use Rattle.vsm_core.specs.Journal.{masks}
use Rattle.vsm_core.specs.Outcomes.{Outcome}
use Rattle.vsm_core.specs.Partition.{opening_standing}
use Rattle.vsm_core.specs.Processor.{Vp, saw, asking, answered, does_all, attempted}
use Rattle.vsm_core.specs.Served.{answer, after, block, state_after, AreServed, joined}
use Rattle.vsm_core.specs.Steps.{made}
use Rattle.vsm_core.specs.Tree.{Tree, Ends, Asks, Wants, WordStep, Entering, Checking, Masking, Reading, Writing, Leaving, Posting, Taking}
use Rattle.vsm_core.specs.Whole.{Flat, answer_in, flat_after, with_entries}
use Rattle.vsm_core.proofs.SameAnswers.{acts-either, acts-journal}
use Rattle.vsm_core.proofs.ServedBlocks.{served-whole}
use Rattle.guest_script.specs.declared.script.Script.{Script}
use Rattle.guest_script.specs.Programs.{program_at}
use Rattle.vsm_report.specs.Acting.{first_partition, is_running}
use Rattle.vsm_report.specs.FlatRun.{World, acted, opening_flat, opened, closed, served, flat}
use Rattle.vsm_report.specs.Opening.{opening_masks}
use Rattle.vsm_report.proofs.Stepping.{at_once, schedule_alike, joined-append}

served-append : (s : PartitionState) (before more : List (Request × List Entry)) → AreServed s before → AreServed (state_after s before) more → AreServed s (before ++ more)
served-append s [] more h g = g
served-append s (v ∷ before) more h g = (h.0, served-append (after s v.0) before more h.1 g)

-- the requests of an attempt are served one after the other
module _ {W : Type 0} (answers : W → WordStep → ℕ) (changes : W → WordStep → W) (adds : W → List Entry → W) (op : Option Op) where
  does_all-served : (s : PartitionState) (v : Vp) (words : W) (t : Tree Outcome) → AreServed s (does_all answers changes adds s op v words t).served
  does_all-served s v words (Ends o) = tt
  does_all-served s v words (Asks step k) = let x = answers words step in does_all-served s (saw op v (made step x)) (changes words step) (k x)
  does_all-served s v words (Wants q k) = let reply = answer s q in (refl, does_all-served (after s q) (answered reply (asking op v)) (adds words (block s q)) (k reply))

attempted-served : (program : Program) (v : Vp) (s : PartitionState) (flat : Flat) → AreServed s (attempted program v s flat).served
unfolding attempted
attempted-served program v s flat =
    let answers = answer_in v.limits v.number in
    let changes = flat_after v.limits v.number in
    acts-either answers changes with_entries (λ did. AreServed s did.served) program s v flat tt (λ op t. does_all-served answers changes with_entries op s v flat t)

module _ (first : PartitionState) where
  abbrev HasServed : World → Type 0
  HasServed w = AreServed first w.partition

  if-served : (b : Bool) (w v : World) → HasServed w → HasServed v → HasServed (cond b w v)
  if-served true w v h g = h
  if-served false w v h g = g

  at_once-served : (program : Program) (p : ℕ) (w : World) (u : Option Vp) → HasServed w → HasServed (at_once first p program w u)
  at_once-served program p w None h = h
  at_once-served program p w (Some u) h =
      if-served (is_running u) _ w (served-append first w.partition _ h (attempted-served program u (state_after first w.partition) w.words)) h

  acted-served : (programs : List Program) (p : ℕ) (w : World) → HasServed w → HasServed (acted first programs p w)
  unfolding acted
  acted-served programs p w h = at_once-served (program_at programs p) p w (slice_get w.vps p) h

pub served-are : (s : Script) → AreServed (first_partition s) (served s)
unfolding served closed opened
served-are s =
    let first = first_partition s in
    schedule_alike (λ (v w : World). HasServed first w) (acted first s.programs) (acted first s.programs) (λ p v w h. acted-served first s.programs p w h) s.schedule (opened s) (opened s) tt

-- the journal of a run is whole
pub flat-whole : (s : Script) → IsWhole s.limits.vps (flat s).journal
unfolding flat served
flat-whole s =
    subst (λ n. IsWhole n (joined (served s))) (length-map-range_with_len (opening_standing s.started) 0 s.limits.vps) (served-whole (first_partition s) (served s) refl refl (served-are s))

-- the opening masks stay, and the journal is that of the requests that were served
record HasJournal (opening : List ℕ) (w : World) : Type 0 where
  opening_same : w.words.opening ≡ opening
  journal : w.words.journal ≡ joined w.partition

-- no step of a processor changes the opening masks
opening-stays : (limits : Limits) (p : ℕ) (flat : Flat) (step : WordStep) → (flat_after limits p flat step).opening ≡ flat.opening
opening-stays limits p flat Entering = refl
opening-stays limits p flat Checking = refl
opening-stays limits p flat (Masking page) = refl
opening-stays limits p flat (Reading page index) = refl
opening-stays limits p flat (Writing page index value) = refl
opening-stays limits p flat Leaving = refl
opening-stays limits p flat (Posting vp word bits) = refl
opening-stays limits p flat (Taking word) = refl

did-opening : (limits : Limits) (p : ℕ) (op : Option Op) (s : PartitionState) (v : Vp) (flat : Flat) (t : Tree Outcome) → (does_all (answer_in limits p) (flat_after limits p) with_entries s op v flat t).words.opening ≡ flat.opening
did-opening limits p op s v flat (Ends o) = refl
did-opening limits p op s v flat (Asks step k) =
    let x = answer_in limits p flat step in did-opening limits p op s (saw op v (made step x)) (flat_after limits p flat step) (k x) ∙ opening-stays limits p flat step
did-opening limits p op s v flat (Wants q k) =
    let reply = answer s q in did-opening limits p op (after s q) (answered reply (asking op v)) (with_entries flat (block s q)) (k reply)

attempted-opening : (program : Program) (v : Vp) (s : PartitionState) (flat : Flat) → (attempted program v s flat).words.opening ≡ flat.opening
unfolding attempted
attempted-opening program v s flat =
    acts-either (answer_in v.limits v.number) (flat_after v.limits v.number) with_entries (λ did. did.words.opening ≡ flat.opening) program s v flat refl (λ op t. did-opening v.limits v.number op s v flat t)

attempted-journal : (program : Program) (v : Vp) (s : PartitionState) (flat : Flat) → (attempted program v s flat).words.journal ≡ flat.journal ++ joined (attempted program v s flat).served
unfolding attempted
attempted-journal program v s flat = acts-journal program v s flat

module _ (first : PartitionState) (opening : List ℕ) where
  if-journal : (b : Bool) (w v : World) → HasJournal opening w → HasJournal opening v → HasJournal opening (cond b w v)
  if-journal true w v h g = h
  if-journal false w v h g = g

  at_once-journal : (program : Program) (p : ℕ) (w : World) (u : Option Vp) → HasJournal opening w → HasJournal opening (at_once first p program w u)
  at_once-journal program p w None h = h
  at_once-journal program p w (Some u) h =
      let s = state_after first w.partition in
      let did = attempted program u s w.words in
      if-journal (is_running u) _ w (record {
        opening_same = attempted-opening program u s w.words ∙ h.opening_same;
        journal = attempted-journal program u s w.words ∙ ap (λ es. es ++ joined did.served) h.journal ∙ sym (joined-append w.partition did.served);
      }) h

  acted-journal : (programs : List Program) (p : ℕ) (w : World) → HasJournal opening w → HasJournal opening (acted first programs p w)
  unfolding acted
  acted-journal programs p w h = at_once-journal (program_at programs p) p w (slice_get w.vps p) h

closed-journal : (s : Script) → HasJournal (opening_masks s) (closed s)
unfolding closed opened opening_flat
closed-journal s =
    let first = first_partition s in let opening = opening_masks s in
    schedule_alike (λ (v w : World). HasJournal opening w) (acted first s.programs) (acted first s.programs) (λ p v w h. acted-journal first opening s.programs p w h) s.schedule (opened s) (opened s) (record { opening_same = refl; journal = refl })

-- the masks at the end of a run are those of its journal
pub flat-masks : (s : Script) → (flat s).masks ≡ masks (opening_masks s) (flat s).journal
unfolding flat
flat-masks s = let h = closed-journal s in ap (λ opening. masks opening (closed s).words.journal) h.opening_same ∙ ap (masks (opening_masks s)) h.journal
