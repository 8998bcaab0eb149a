-- What holds at each end of an attempt whose requests the partition answers, and what the processor then has left.
use Rattle.std.proofs.Common.{◌≡◌, ◌∙◌, ◌++◌, ℕ, Bool, true, false, cond, Option, Some, None, List, [], ◌∷◌, ◌+◌}
use Rattle.std.proofs.Common.{drop, length, map, refl, sym, ap, subst}
use Rattle.vsm_core.specs.declared.event.Event.{Event}
use Rattle.vsm_core.specs.declared.event.Event.TheVariants as events
use Rattle.vsm_core.specs.declared.mark.Ending.{Ending}
use Rattle.vsm_core.specs.declared.mark.Mark.{Mark}
use Rattle.vsm_core.specs.declared.mark.What.{What}
use Rattle.vsm_core.specs.declared.mark.What.TheVariants.{Again, Part, Started}
use Rattle.vsm_core.specs.declared.operation.Op.{Op}
use Rattle.vsm_core.specs.declared.operation.Program.{Program}
use Rattle.vsm_core.specs.declared.partition_state.PartitionState.{PartitionState}
use Rattle.vsm_core.specs.Outcomes.{Outcome}
use Rattle.vsm_core.specs.Processor.{Vp, Did, answered, asking, attempted, came_to, does_all, ending_after, mark_of}
use Rattle.vsm_core.specs.Processor.{marked_or_ended, operation_at, origin_of, saw, standing, start_mark, tree_of}
use Rattle.vsm_core.specs.Processor.{wakes}
use Rattle.vsm_core.specs.Served.{after, answer, block}
use Rattle.vsm_core.specs.Steps.{made}
use Rattle.vsm_core.specs.Tree.{Tree, Ends, Asks, Wants}
use Rattle.vsm_core.specs.Whole.{Flat, answer_in, flat_after, with_entries}
use Rattle.vsm_laws.specs.ReadWords.{EndsReading, all_read, with_read, words_read}
use Rattle.vsm_laws.specs.Slices.{is_part, whats_left}

-- whatever words are read this holds at each end, of the words that were read, after these, and of what it comes to
abbrev pub EndsServed : {A : Type 0} → (List ℕ → A → Type 0) → PartitionState → List ℕ → Tree A → Type 0
EndsServed Q s words (Ends a) = Q words a
EndsServed Q s words (Asks step k) = (x : ℕ) → EndsServed Q s (with_read words step x) (k x)
EndsServed Q s words (Wants q k) = EndsServed Q (after s q) words (k (answer s q))

-- whatever is answered
pub served-any : {A : Type 0} (Q : List ℕ → A → Type 0) (s : PartitionState) (words : List ℕ) (t : Tree A)
    → EndsReading Q words t → EndsServed Q s words t
served-any Q s words (Ends a) h = h
served-any Q s words (Asks step k) h = λ x. served-any Q s (with_read words step x) (k x) (h x)
served-any Q s words (Wants q k) h = served-any Q (after s q) words (k (answer s q)) (h (answer s q))

-- the same processor before the attempt's end: what it stands at is what it stood at
pub record IsBefore (old by : Vp) : Type 0 where
  pub state : by.state ≡ old.state
  pub started : by.started ≡ old.started
  pub marks : standing by ≡ standing old

-- a processor that has come to an outcome of which this holds
pub record CameTo (Q : List ℕ → Outcome → Type 0) (old : Vp) (words : List ℕ) (now : Vp) : Type 0 where
  pub outcome : Outcome
  pub by : Vp
  pub before : IsBefore old by
  pub is : now ≡ came_to outcome.what by outcome
  pub holds : Q words outcome

saw-before : (op : Option Op) (old v : Vp) (e : Event) → IsBefore old v → IsBefore old (saw op v e)
saw-before op old v (events.Check generation) h = record { state = h.state; started = h.started; marks = h.marks }
saw-before op old v _ h = record { state = h.state; started = h.started; marks = h.marks }

module _ (Q : List ℕ → Outcome → Type 0) (old : Vp) where
  did-come : (s : PartitionState) (op : Option Op) (v : Vp) (flat : Flat) (words : List ℕ) (t : Tree Outcome)
      → IsBefore old v → EndsServed Q s words t
      → CameTo Q old (all_read old.limits old.number s flat words t)
      (does_all (answer_in old.limits old.number)
      (flat_after old.limits old.number) with_entries s op v flat t).vp
  did-come s op v flat words (Ends o) before h = record { outcome = o; by = v; before = before; is = refl; holds = h }
  did-come s op v flat words (Asks step k) before h =
      let x = answer_in old.limits old.number flat step in
      did-come s op (saw op v (made step x)) (flat_after old.limits old.number flat step) (with_read words step x)
      (k x) (saw-before op old v (made step x) before) (h x)
  did-come s op v flat words (Wants q k) before h =
      did-come (after s q) op (answered (answer s q) (asking op v)) (with_entries flat (block s q)) words
      (k (answer s q))
      (record { state = before.state; started = before.started; marks = before.marks }) h

acts-come : (P : Vp → Type 0) (b : Bool) (acted woken : Did Flat) → b ≡ true → P acted.vp → P (cond b acted woken).vp
acts-come P true acted woken is h = h
acts-come P false acted woken is h = cc

pub attempted-come : (Q : List ℕ → Outcome → Type 0) (program : Program) (v : Vp) (s : PartitionState) (flat : Flat)
    → v.started ≡ true
    → EndsServed Q s [] (tree_of (origin_of v) (operation_at program v.state))
    → CameTo Q v (words_read program v s flat) (attempted program v s flat).vp
unfolding attempted
attempted-come Q program v s flat started h =
    let op = operation_at program v.state in
    let acted : Did Flat = does_all (answer_in v.limits v.number)
    (flat_after v.limits v.number) with_entries s op v flat (tree_of (origin_of v) op) in
    let woken : Did Flat = wakes (answer_in v.limits v.number) (flat_after v.limits v.number) with_entries s v flat in
    acts-come (CameTo Q v (words_read program v s flat)) v.started acted woken started
    (did-come Q v s op v flat [] (tree_of (origin_of v) op) (record { state = refl; started = refl; marks = refl }) h)

-- a mark behind those that stay
behind : {A : Type 0} (before more : List A) → drop (length before) (before ++ more) ≡ more
behind [] more = refl
behind (x ∷ before) more = behind before more

abbrev whats : List Mark → List What
whats marks = map (λ (m : Mark). m.what) marks

left-behind : (old before : List Mark) (mark : Mark) (w : What) → before ≡ old
    → whats (drop (length old) (before ++ mark ∷ [])) ≡ w ∷ [] → mark.what ≡ w
left-behind old before mark w is e =
    let one : whats (drop (length before) (before ++ mark ∷ [])) ≡ w ∷ [] =
    subst (λ marks. whats (drop (length marks) (before ++ mark ∷ [])) ≡ w ∷ []) (sym is) e in
    let same : mark.what ∷ [] ≡ w ∷ [] = sym (ap whats (behind before (mark ∷ []))) ∙ one in
    cc

behind-none : {A : Type 0} (before : List A) → drop (length before) before ≡ []
behind-none [] = refl
behind-none (x ∷ before) = behind-none before

none-left : (old before : List Mark) (w : What) → before ≡ old → whats (drop (length old) before) ≡ w ∷ [] → ⊥
none-left old before w is e =
    let none : whats (drop (length before) before) ≡ w ∷ [] =
    subst (λ marks. whats (drop (length marks) before) ≡ w ∷ []) (sym is) e in
    let same : [] ≡ w ∷ [] = sym (ap whats (behind-none before)) ∙ none in
    cc

again-left : (old by : Vp) (o : Outcome) (ending : Option Ending) (w : What) → standing by ≡ standing old
    → whats_left old (marked_or_ended by o ending) ≡ w ∷ [] → o.what ≡ w
again-left old by o None w is h = left-behind (standing old) (standing by) (mark_of by o.what) w is h
again-left old by o (Some ending) w is h = absurd (none-left (standing old) (standing by) w is h)

came-left : (old by : Vp) (o : Outcome) (what w : What) → standing by ≡ standing old
    → whats_left old (came_to what by o) ≡ w ∷ [] → o.what ≡ w
came-left old by o (Again grant) w is h = again-left old by o
    (ending_after by o.what o.state (length (standing by)) (by.spins + 1)) w is h
came-left old by o Started w is h = left-behind (standing old) (standing by) (start_mark by o) w is h
came-left old by o _ w is h = left-behind (standing old) (standing by) (mark_of by o.what) w is h

-- the mark that it has left is that of its outcome
pub left-what : (Q : List ℕ → Outcome → Type 0) (old : Vp) (words : List ℕ) (now : Vp) (w : What)
    (came : CameTo Q old words now) → whats_left old now ≡ w ∷ [] → came.outcome.what ≡ w
left-what Q old words now w came h =
    let o = came.outcome in
    came-left old came.by o o.what w came.before.marks (subst (λ v. whats_left old v ≡ w ∷ []) came.is h)

-- and its state and whether it has started are those of its outcome, where that is a part of a call or a result
pub record IsMarked (old : Vp) (o : Outcome) (now : Vp) : Type 0 where
  pub state : now.state ≡ o.state
  pub started : now.started ≡ old.started

pub part-marked : (Q : List ℕ → Outcome → Type 0) (old : Vp) (words : List ℕ) (now : Vp) (next : ℕ)
    (came : CameTo Q old words now) → came.outcome.what ≡ Part next → IsMarked old came.outcome now
part-marked Q old words now next came is =
    let o = came.outcome in
    let same : now ≡ came_to (Part next) came.by o = came.is ∙ ap (λ w. came_to w came.by o) is in
    record { state = ap (λ (v : Vp). v.state) same; started = ap (λ (v : Vp). v.started) same ∙ came.before.started }

-- one mark that says that elements are left
pub record HasPart (left : List What) : Type 0 where
  pub next : ℕ
  pub is : left ≡ Part next ∷ []

pub part-in : (left : List What) → is_part left ≡ true → HasPart left
part-in (Part next ∷ []) e = record { next = next; is = refl }
part-in _ e = cc
