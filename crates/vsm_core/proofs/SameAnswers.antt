-- The shared words answer an attempt as their masks, generation, posted words and memory do.
use Rattle.std.proofs.Common.{◌≡◌, ◌<◌, ◌≤◌, ◌+◌, ◌*◌, ◌==◌, ℕ, Bool, true, false, cond, Option, Some, None, List, [], ◌∷◌, ◌++◌, refl, sym, ap, ◌∙◌, subst, arith, slice_index, slice_set, take, drop, bit_or}
use Rattle.std.proofs.lemmas.List.{append-nil, append_assoc, take-set-le, drop-set-lt, drop-set-add, get_or-take, get_or-drop, get_or-set_other}
use Rattle.std.proofs.Math.ListN.{length-set}
use Rattle.std.proofs.Math.Seq.{take-set-lt}
use Rattle.vsm_base.specs.Levels.{level_number}
use Rattle.vsm_base.specs.declared.places.Limits.{Limits}
use Rattle.vsm_base.specs.declared.places.Vtl.{Vtl}
use Rattle.vsm_base.specs.declared.places.Vtl.TheVariants.{Zero, One}
use Rattle.vsm_core.specs.declared.event.Event.{Event}
use Rattle.vsm_core.specs.declared.event.PendingWord.{PendingWord}
use Rattle.vsm_core.specs.declared.event.PendingWord.TheVariants.{Start, Vectors}
use Rattle.vsm_core.specs.Tree.{Tree, Ends, Asks, Wants, WordStep, Entering, Checking, Masking, Reading, Writing, Leaving, Posting, Taking}
use Rattle.vsm_core.specs.declared.journal.Entry.{Entry}
use Rattle.vsm_core.specs.declared.operation.Op.{Op}
use Rattle.vsm_core.specs.declared.operation.Program.{Program}
use Rattle.vsm_core.specs.declared.partition_state.PartitionState.{PartitionState}
use Rattle.vsm_core.specs.AtOnce.{SameDid, IsInStep}
use Rattle.vsm_core.specs.Outcomes.{Outcome}
use Rattle.vsm_core.specs.Processor.{Vp, Did, saw, asking, answered, operation_at, origin_of, tree_of, does_all, wakes, acts}
use Rattle.vsm_core.specs.Served.{answer, after, block, state_after, joined}
use Rattle.vsm_core.specs.Steps.{MayStep, IsPending, IsVectors, phase_of, made}
use Rattle.vsm_core.specs.Sound.{Sound, IsOver}
use Rattle.vsm_core.specs.Starts.{start_tree}
use Rattle.vsm_core.specs.Whole.{Flat, answer_in, flat_after, with_entries, with_posted, memory_place, posted_place}
use Rattle.vsm_core.specs.Words.{Holds, answer_of, words_by, busy_at, posted_at, memory_at, generation_at}
use Rattle.vsm_core.specs.Entries.{words_by_entries}
use Rattle.vsm_core.proofs.HeldEntries.{entries-hold, entries-in-step}
use Rattle.vsm_core.proofs.Soundness.{attempt-sound, start-sound}

-- a busy word is none of them
busy_set : (limits : Limits) (p value : ℕ) (words : List ℕ) (flat : Flat) → p < limits.vps → Holds limits words flat → Holds limits (slice_set words (busy_at limits p) value) flat
busy_set limits p value words flat low h = record {
  long = rw (length-set words (busy_at limits p) value) h.long;
  of_masks = take-set-le limits.pages words (busy_at limits p) value (omega arith) ∙ h.of_masks;
  of_generation = get_or-set_other words (busy_at limits p) (generation_at limits) value 0 (omega arith) ∙ h.of_generation;
  of_posted = ap (take (9 * limits.vps)) (drop-set-lt (posted_at limits) words (busy_at limits p) value (omega arith)) ∙ h.of_posted;
  of_memory = drop-set-lt (memory_at limits) words (busy_at limits p) value (omega arith) ∙ h.of_memory;
}

-- a memory word is none but its own
memory_set : (limits : Limits) (place value : ℕ) (words : List ℕ) (flat : Flat) → Holds limits words flat → Holds limits (slice_set words (memory_at limits + place) value) (record flat { memory = slice_set flat.memory place value })
memory_set limits place value words flat h =
    let far : memory_at limits + place ≡ posted_at limits + (9 * limits.vps + place) = omega arith in
    record {
      long = rw (length-set words (memory_at limits + place) value) h.long;
      of_masks = take-set-le limits.pages words (memory_at limits + place) value (omega arith) ∙ h.of_masks;
      of_generation = get_or-set_other words (memory_at limits + place) (generation_at limits) value 0 (omega arith) ∙ h.of_generation;
      of_posted = ap (λ i. take (9 * limits.vps) (drop (posted_at limits) (slice_set words i value))) far ∙ ap (take (9 * limits.vps)) (drop-set-add (posted_at limits) words (9 * limits.vps + place) value) ∙ take-set-le (9 * limits.vps) (drop (posted_at limits) words) (9 * limits.vps + place) value (omega arith) ∙ h.of_posted;
      of_memory = drop-set-add (memory_at limits) words place value ∙ ap (λ m. slice_set m place value) h.of_memory;
    }

-- a posted word is none but its own
posted_set : (limits : Limits) (place value : ℕ) (words : List ℕ) (flat : Flat) → place < 9 * limits.vps → Holds limits words flat → Holds limits (slice_set words (posted_at limits + place) value) (with_posted flat place value)
posted_set limits place value words flat low h = record {
  long = rw (length-set words (posted_at limits + place) value) h.long;
  of_masks = take-set-le limits.pages words (posted_at limits + place) value (omega arith) ∙ h.of_masks;
  of_generation = get_or-set_other words (posted_at limits + place) (generation_at limits) value 0 (omega arith) ∙ h.of_generation;
  of_posted = ap (take (9 * limits.vps)) (drop-set-add (posted_at limits) words place value) ∙ take-set-lt (9 * limits.vps) (drop (posted_at limits) words) place value low ∙ ap (λ m. slice_set m place value) h.of_posted;
  of_memory = drop-set-lt (memory_at limits) words (posted_at limits + place) value (omega arith) ∙ h.of_memory;
}

level_few : (level : Vtl) → level_number level ≤ 1
level_few Zero = omega arith
level_few One = omega arith

-- the words to which something is posted are these
pending_low : (limits : Limits) (p : ℕ) (word : PendingWord) → p < limits.vps → IsPending word → posted_place limits p word < 9 * limits.vps
pending_low limits p Start low is = omega arith
pending_low limits p (Vectors level part) low is = let few = level_few level in omega arith

vectors_pending : (word : PendingWord) → IsVectors word → IsPending word
vectors_pending Start is = tt
vectors_pending (Vectors level part) is = is

posted_answer : (limits : Limits) (place : ℕ) (words : List ℕ) (flat : Flat) → place < 9 * limits.vps → Holds limits words flat → slice_index words (posted_at limits + place) ≡ slice_index flat.posted place
posted_answer limits place words flat low h =
    sym (get_or-drop (posted_at limits) words place 0) ∙ sym (get_or-take (9 * limits.vps) (drop (posted_at limits) words) place 0 low) ∙ ap (λ m. slice_index m place) h.of_posted

same_answer : (limits : Limits) (p : ℕ) (es : List Event) (s : WordStep) (words : List ℕ) (flat : Flat) → p < limits.vps → MayStep limits (phase_of es) s → Holds limits words flat → answer_of limits p words s ≡ answer_in limits p flat s
same_answer limits p es Entering words flat low may h = refl
same_answer limits p es Checking words flat low may h = h.of_generation
same_answer limits p es (Masking page) words flat low may h = sym (get_or-take limits.pages words page 0 may.1) ∙ ap (λ m. slice_index m page) h.of_masks
same_answer limits p es (Reading page index) words flat low may h =
    sym (get_or-drop (memory_at limits) words (memory_place page index) 0) ∙ ap (λ m. slice_index m (memory_place page index)) h.of_memory
same_answer limits p es (Writing page index value) words flat low may h = refl
same_answer limits p es Leaving words flat low may h = refl
same_answer limits p es (Posting vp word bits) words flat low may h = refl
same_answer limits p es (Taking word) words flat low may h = posted_answer limits (posted_place limits p word) words flat (pending_low limits p word low may) h

still_holds : (limits : Limits) (p : ℕ) (es : List Event) (s : WordStep) (words : List ℕ) (flat : Flat) → p < limits.vps → MayStep limits (phase_of es) s → Holds limits words flat → Holds limits (words_by limits p words s) (flat_after limits p flat s)
still_holds limits p es Entering words flat low may h = busy_set limits p 1 words flat low h
still_holds limits p es Checking words flat low may h = h
still_holds limits p es (Masking page) words flat low may h = h
still_holds limits p es (Reading page index) words flat low may h = h
still_holds limits p es (Writing page index value) words flat low may h = memory_set limits (memory_place page index) value words flat h
still_holds limits p es Leaving words flat low may h = busy_set limits p 0 words flat low h
still_holds limits p es (Posting vp word bits) words flat low may h =
    let place = posted_place limits vp word in
    let inside = pending_low limits vp word may.0 (vectors_pending word may.1) in
    subst (λ x. Holds limits (slice_set words (posted_at limits + place) (bit_or x bits)) (with_posted flat place (bit_or (slice_index flat.posted place) bits))) (sym (posted_answer limits place words flat inside h)) (posted_set limits place _ words flat inside h)
still_holds limits p es (Taking word) words flat low may h = posted_set limits (posted_place limits p word) 0 words flat (pending_low limits p word low may) h

-- no step of a processor changes the journal
pub journal-stays : (limits : Limits) (p : ℕ) (flat : Flat) (step : WordStep) → (flat_after limits p flat step).journal ≡ flat.journal
journal-stays limits p flat Entering = refl
journal-stays limits p flat Checking = refl
journal-stays limits p flat (Masking page) = refl
journal-stays limits p flat (Reading page index) = refl
journal-stays limits p flat (Writing page index value) = refl
journal-stays limits p flat Leaving = refl
journal-stays limits p flat (Posting vp word bits) = refl
journal-stays limits p flat (Taking word) = refl

step-stays : (limits : Limits) (p : ℕ) (s : PartitionState) (flat : Flat) (step : WordStep) → IsInStep limits s flat → IsInStep limits s (flat_after limits p flat step)
step-stays limits p s flat step h = record { vps = h.vps; pages = h.pages; rounds = rw (journal-stays limits p flat step) h.rounds }

-- both come to the same: each step is answered alike, and each request is served by the same partition
pub same_did : (Q : List Event → Outcome → Type 0) (limits : Limits) (p : ℕ) (op : Option Op) (s : PartitionState) (v : Vp) (es : List Event) (t : Tree Outcome) (words : List ℕ) (flat : Flat) → p < limits.vps → Sound limits Q es t → IsInStep limits s flat → Holds limits words flat
    → SameDid limits (does_all (answer_of limits p) (words_by limits p) (words_by_entries limits) s op v words t) (does_all (answer_in limits p) (flat_after limits p) with_entries s op v flat t)
same_did Q limits p op s v es (Ends o) words flat low sound step h = record { vp = refl; served = refl; holds = h }
same_did Q limits p op s v es (Asks asked k) words flat low sound step h =
    let x = answer_of limits p words asked in
    let e = same_answer limits p es asked words flat low sound.0 h in
    let r = same_did Q limits p op s (saw op v (made asked x)) (made asked x ∷ es) (k x) (words_by limits p words asked) (flat_after limits p flat asked) low (sound.1 x) (step-stays limits p s flat asked step) (still_holds limits p es asked words flat low sound.0 h) in
    subst (λ y. SameDid limits (does_all (answer_of limits p) (words_by limits p) (words_by_entries limits) s op (saw op v (made asked x)) (words_by limits p words asked) (k x)) (does_all (answer_in limits p) (flat_after limits p) with_entries s op (saw op v (made asked y)) (flat_after limits p flat asked) (k y))) e r
same_did Q limits p op s v es (Wants q k) words flat low sound step h =
    let reply = answer s q in
    let r = same_did Q limits p op (after s q) (answered reply (asking op v)) es (k reply) (words_by_entries limits words (block s q)) (with_entries flat (block s q)) low (sound.1 reply) (entries-in-step limits s q flat step) (entries-hold limits s q words flat step h) in
    record { vp = r.vp; served = ap (λ served. (q, block s q) ∷ served) r.served; holds = r.holds }

tree-sound : (v : Vp) (op : Option Op) → v.number < v.limits.vps → Sound v.limits IsOver [] (tree_of (origin_of v) op)
tree-sound v None low = refl
tree-sound v (Some op) low = attempt-sound v.limits v.number v.state v.controllers op [] low refl

-- either of two, by the same test
same-cond : (limits : Limits) (b : Bool) (x y : Did (List ℕ)) (z w : Did Flat) → SameDid limits x z → SameDid limits y w → SameDid limits (cond b x y) (cond b z w)
same-cond limits true x y z w h g = h
same-cond limits false x y z w h g = g

module _ (program : Program) (v : Vp) (s : PartitionState) where
  -- on all the shared words, and on the journal and its lists
  abbrev slow : Option Op → List ℕ → Tree Outcome → Did (List ℕ)
  slow op words t = does_all (answer_of v.limits v.number) (words_by v.limits v.number) (words_by_entries v.limits) s op v words t

  abbrev fast : Option Op → Flat → Tree Outcome → Did Flat
  fast op flat t = does_all (answer_in v.limits v.number) (flat_after v.limits v.number) with_entries s op v flat t

  abbrev idle : {W : Type 0} → W → Did W
  idle words = record { vp = v; words = words; served = [] }

  -- the same word says that the processor isn't to start
  wakes-same : (words : List ℕ) (flat : Flat) → v.number < v.limits.vps → IsInStep v.limits s flat → Holds v.limits words flat
      → SameDid v.limits (wakes (answer_of v.limits v.number) (words_by v.limits v.number) (words_by_entries v.limits) s v words) (wakes (answer_in v.limits v.number) (flat_after v.limits v.number) with_entries s v flat)
  wakes-same words flat low step h =
      let t = start_tree (origin_of v) in
      let x = answer_of v.limits v.number words (Taking Start) in
      let did = same_did IsOver v.limits v.number None s v [] t words flat low (start-sound v.limits v.number v.state v.controllers [] low refl) step h in
      let both = same-cond v.limits (x == 0) (idle words) (slow None words t) (idle flat) (fast None flat t) (record { vp = refl; served = refl; holds = h }) did in
      subst (λ y. SameDid v.limits (cond (x == 0) (idle words) (slow None words t)) (cond (y == 0) (idle flat) (fast None flat t))) (same_answer v.limits v.number [] (Taking Start) words flat low tt h) both

  pub acts-same : (words : List ℕ) (flat : Flat) → v.number < v.limits.vps → IsInStep v.limits s flat → Holds v.limits words flat
      → SameDid v.limits (acts (answer_of v.limits v.number) (words_by v.limits v.number) (words_by_entries v.limits) program s v words) (acts (answer_in v.limits v.number) (flat_after v.limits v.number) with_entries program s v flat)
  acts-same words flat low step h =
      let op = operation_at program v.state in
      let t = tree_of (origin_of v) op in
      same-cond v.limits v.started (slow op words t) (wakes (answer_of v.limits v.number) (words_by v.limits v.number) (words_by_entries v.limits) s v words) (fast op flat t) (wakes (answer_in v.limits v.number) (flat_after v.limits v.number) with_entries s v flat)
      (same_did IsOver v.limits v.number op s v [] t words flat low (tree-sound v op low) step h) (wakes-same words flat low step h)

-- the partition stays in step with the journal
pub did-in-step : (limits : Limits) (p : ℕ) (op : Option Op) (s : PartitionState) (v : Vp) (t : Tree Outcome) (flat : Flat) → IsInStep limits s flat
    → let did = does_all (answer_in limits p) (flat_after limits p) with_entries s op v flat t in IsInStep limits (state_after s did.served) did.words
did-in-step limits p op s v (Ends o) flat step = step
did-in-step limits p op s v (Asks asked k) flat step =
    let x = answer_in limits p flat asked in
    did-in-step limits p op s (saw op v (made asked x)) (k x) (flat_after limits p flat asked) (step-stays limits p s flat asked step)
did-in-step limits p op s v (Wants q k) flat step =
    let reply = answer s q in
    did-in-step limits p op (after s q) (answered reply (asking op v)) (k reply) (with_entries flat (block s q)) (entries-in-step limits s q flat step)

-- what holds of both holds by either test
did-cond : {W : Type 0} (P : Did W → Type 0) (b : Bool) (x y : Did W) → P x → P y → P (cond b x y)
did-cond P true x y h g = h
did-cond P false x y h g = g

-- whether a processor has started or not, and whether it is to start: what holds where nothing is done, and of all that a tree does
module _ {W : Type 0} (answers : W → WordStep → ℕ) (changes : W → WordStep → W) (adds : W → List Entry → W) where
  pub acts-either : (P : Did W → Type 0) (program : Program) (s : PartitionState) (v : Vp) (words : W) → P (record { vp = v; words = words; served = [] })
      → ((op : Option Op) (t : Tree Outcome) → P (does_all answers changes adds s op v words t)) → P (acts answers changes adds program s v words)
  acts-either P program s v words none did =
      let op = operation_at program v.state in
      let start = start_tree (origin_of v) in
      did-cond P v.started (does_all answers changes adds s op v words (tree_of (origin_of v) op)) (wakes answers changes adds s v words) (did op (tree_of (origin_of v) op))
      (did-cond P (answers words (Taking Start) == 0) (record { vp = v; words = words; served = [] }) (does_all answers changes adds s None v words start) none (did None start))

pub acts-in-step : (program : Program) (v : Vp) (s : PartitionState) (flat : Flat) → IsInStep v.limits s flat
    → let did = acts (answer_in v.limits v.number) (flat_after v.limits v.number) with_entries program s v flat in IsInStep v.limits (state_after s did.served) did.words
acts-in-step program v s flat step =
    acts-either (answer_in v.limits v.number) (flat_after v.limits v.number) with_entries (λ did. IsInStep v.limits (state_after s did.served) did.words) program s v flat step (λ op t. did-in-step v.limits v.number op s v t flat step)

-- and the journal gains the entries of the requests
pub did-journal : (limits : Limits) (p : ℕ) (op : Option Op) (s : PartitionState) (v : Vp) (t : Tree Outcome) (flat : Flat)
    → let did = does_all (answer_in limits p) (flat_after limits p) with_entries s op v flat t in did.words.journal ≡ flat.journal ++ joined did.served
did-journal limits p op s v (Ends o) flat = sym (append-nil flat.journal)
did-journal limits p op s v (Asks asked k) flat =
    let x = answer_in limits p flat asked in
    let did : Did Flat = does_all (answer_in limits p) (flat_after limits p) with_entries s op (saw op v (made asked x)) (flat_after limits p flat asked) (k x) in
    did-journal limits p op s (saw op v (made asked x)) (k x) (flat_after limits p flat asked) ∙ ap (λ es. es ++ joined did.served) (journal-stays limits p flat asked)
did-journal limits p op s v (Wants q k) flat =
    let reply = answer s q in
    let did : Did Flat = does_all (answer_in limits p) (flat_after limits p) with_entries (after s q) op (answered reply (asking op v)) (with_entries flat (block s q)) (k reply) in
    did-journal limits p op (after s q) (answered reply (asking op v)) (k reply) (with_entries flat (block s q)) ∙ append_assoc flat.journal (block s q) (joined did.served)

pub acts-journal : (program : Program) (v : Vp) (s : PartitionState) (flat : Flat)
    → let did = acts (answer_in v.limits v.number) (flat_after v.limits v.number) with_entries program s v flat in did.words.journal ≡ flat.journal ++ joined did.served
acts-journal program v s flat =
    acts-either (answer_in v.limits v.number) (flat_after v.limits v.number) with_entries (λ did. did.words.journal ≡ flat.journal ++ joined did.served) program s v flat (sym (append-nil flat.journal)) (λ op t. did-journal v.limits v.number op s v t flat)
