-- What holds at each end of an attempt, of the words that it has read.
use Rattle.std.proofs.Common.{◌≡◌, ◌∙◌, ◌+◌, ◌++◌, ℕ, zero, suc, Bool, true, false, cond, Option, Some, None, List, [], ◌∷◌, length, refl, sym, subst, arith, append_assoc, length-append}
use Rattle.vsm_core.specs.declared.event.Event.{Event}
use Rattle.vsm_core.specs.declared.event.Event.TheVariants as events
use Rattle.vsm_core.specs.declared.mark.Ending.{Ending}
use Rattle.vsm_core.specs.declared.mark.GuestFault.TheVariants.{Undefined}
use Rattle.vsm_core.specs.declared.mark.What.{What}
use Rattle.vsm_core.specs.declared.mark.What.TheVariants.{Again}
use Rattle.vsm_core.specs.declared.note.Note.{Note}
use Rattle.vsm_core.specs.declared.operation.Op.{Op}
use Rattle.vsm_core.specs.declared.operation.Program.{Program}
use Rattle.vsm_core.specs.declared.partition_state.PartitionState.{PartitionState}
use Rattle.vsm_core.specs.Attempt.{attempt, by_slot, left_with, posting, refused, tells, told_on}
use Rattle.vsm_core.specs.Controllers.{message_page}
use Rattle.vsm_core.specs.Fills.{Cached}
use Rattle.vsm_core.specs.Keeps.{EndsIn}
use Rattle.vsm_core.specs.Outcomes.{Origin, Outcome, Refusal, denied_outcome, faulted, held_outcome, note_of}
use Rattle.vsm_core.specs.Processor.{Vp, Did, answered, asking, attempted, came_to, does_all, marked_or_ended, operation_at, origin_of, saw, tree_of, wakes}
use Rattle.vsm_core.specs.Served.{after, answer, block}
use Rattle.vsm_core.specs.State.{State}
use Rattle.vsm_core.specs.Steps.{made}
use Rattle.vsm_core.specs.Switch.{assist_page, by_interrupt, may_enter}
use Rattle.vsm_core.specs.Tree.{Tree, Ends, Asks, Wants, reads}
use Rattle.vsm_core.specs.Whole.{Flat, answer_in, flat_after, with_entries}
use Rattle.vsm_core.proofs.KeptLevels.{EndsIn-asks_all, EndsIn-by_slot, EndsIn-cond}
use Rattle.vsm_laws.specs.ReadWords.{EndsReading, all_read, with_read, words_read}

-- whatever words were read
pub reading-any : {A : Type 0} (Q : A → Type 0) (words : List ℕ) (t : Tree A) → EndsIn Q t → EndsReading (λ read. Q) words t
reading-any Q words (Ends a) h = h
reading-any Q words (Asks s k) h = λ x. reading-any Q (with_read words s x) (k x) (h x)
reading-any Q words (Wants q k) h = λ r. reading-any Q words (k r) (h r)

-- of a weaker statement
pub reading-so : {A : Type 0} (Q R : List ℕ → A → Type 0) → ((words : List ℕ) (a : A) → Q words a → R words a) → (words : List ℕ) (t : Tree A) → EndsReading Q words t → EndsReading R words t
reading-so Q R so words (Ends a) h = so words a h
reading-so Q R so words (Asks s k) h = λ x. reading-so Q R so (with_read words s x) (k x) (h x)
reading-so Q R so words (Wants q k) h = λ r. reading-so Q R so words (k r) (h r)

-- where the test's answer is known in either case
pub reading-if : {A : Type 0} (Q : List ℕ → A → Type 0) (words : List ℕ) (b : Bool) (t u : Tree A) → (b ≡ true → EndsReading Q words t) → (b ≡ false → EndsReading Q words u) → EndsReading Q words (cond b t u)
reading-if Q words true t u h g = h refl
reading-if Q words false t u h g = g refl

pub found-suc : (found : List ℕ) (x count : ℕ) (words : List ℕ) → length words ≡ length (found ++ x ∷ []) + count → length words ≡ length found + suc count
found-suc found x count words long = omega (arith, long, length-append found (x ∷ []))

-- words that are read one after the other
pub reading-reads : {A : Type 0} (Q : List ℕ → A → Type 0) (page index count : ℕ) (before found : List ℕ) (rest : List ℕ → Tree A)
    → ((words : List ℕ) → length words ≡ length found + count → EndsReading Q (before ++ words) (rest words)) → EndsReading Q (before ++ found) (reads page index count found rest)
reading-reads Q page index zero before found rest h = h found (omega arith)
reading-reads Q page index (suc count) before found rest h = λ x.
    subst (λ words. EndsReading Q words (reads page (suc index) count (found ++ x ∷ []) rest)) (sym (append_assoc before found (x ∷ [])))
    (reading-reads Q page (suc index) count before (found ++ x ∷ []) rest (λ words long. h words (found-suc found x count words long)))

-- a processor after the attempt, whose words were read so
module _ (P : List ℕ → State → Type 0) (s : State) (same : (words : List ℕ) → P words s) where
  again-so : (v : Vp) (o : Outcome) (ending : Option Ending) (words : List ℕ) → v.state ≡ s → P words (marked_or_ended v o ending).state
  again-so v o None words is = rw is (same words)
  again-so v o (Some ending) words is = rw is (same words)

  came-so : (what : What) (v : Vp) (o : Outcome) (words : List ℕ) → v.state ≡ s → P words o.state → P words (came_to what v o).state
  came-so (Again grant) v o words is h = again-so v o _ words is
  came-so _ v o words is h = h

  saw-state : (op : Option Op) (v : Vp) (e : Event) → (saw op v e).state ≡ v.state
  saw-state op v (events.Check generation) = refl
  saw-state op v _ = refl

  did-so : (numbered : Vp) (partition : PartitionState) (op : Option Op) (v : Vp) (flat : Flat) (words : List ℕ) (t : Tree Outcome) → v.state ≡ s → EndsReading (λ read o. P read o.state) words t
      → P (all_read numbered.limits numbered.number partition flat words t) (does_all (answer_in numbered.limits numbered.number) (flat_after numbered.limits numbered.number) with_entries partition op v flat t).vp.state
  did-so numbered partition op v flat words (Ends o) is h = came-so o.what v o words is h
  did-so numbered partition op v flat words (Asks step k) is h =
      let x = answer_in numbered.limits numbered.number flat step in
      did-so numbered partition op (saw op v (made step x)) (flat_after numbered.limits numbered.number flat step) (with_read words step x) (k x) (saw-state op v (made step x) ∙ is) (h x)
  did-so numbered partition op v flat words (Wants q k) is h =
      let reply = answer partition q in
      did-so numbered (after partition q) op (answered reply (asking op v)) (with_entries flat (block partition q)) words (k reply) is (h reply)

acts-so : (P : State → Type 0) (b : Bool) (acted woken : Did Flat) → b ≡ true → P acted.vp.state → P (cond b acted woken).vp.state
acts-so P true acted woken is h = h
acts-so P false acted woken is h = cc

pub attempted-so : (P : List ℕ → State → Type 0) (program : Program) (v : Vp) (partition : PartitionState) (flat : Flat) → v.started ≡ true → ((words : List ℕ) → P words v.state)
    → EndsReading (λ read o. P read o.state) [] (tree_of (origin_of v) (operation_at program v.state)) → P (words_read program v partition flat) (attempted program v partition flat).vp.state
unfolding attempted
attempted-so P program v partition flat started same h =
    let op = operation_at program v.state in
    let acted : Did Flat = does_all (answer_in v.limits v.number) (flat_after v.limits v.number) with_entries partition op v flat (tree_of (origin_of v) op) in
    let woken : Did Flat = wakes (answer_in v.limits v.number) (flat_after v.limits v.number) with_entries partition v flat in
    acts-so (P (words_read program v partition flat)) v.started acted woken started (did-so P v.state same v partition op v flat [] (tree_of (origin_of v) op) refl h)

-- where no operation stands there, nothing changes
pub tree-so : (Q : List ℕ → Outcome → Type 0) (from : Origin) (op : Option Op) → Q [] (faulted from Undefined) → ((o : Op) → op ≡ Some o → EndsReading Q [] (attempt from o)) → EndsReading Q [] (tree_of from op)
tree-so Q from None h g = h
tree-so Q from (Some op) h g = g op refl

-- an access that is denied ends so, whatever is answered
pub refused-ends : (from : Origin) (Q : Outcome → Type 0) (gva : Option ℕ) (r : Refusal) (does : List Cached) → Q (held_outcome from r does) → ((note : Note) (slot : Option ℕ) → Q (denied_outcome from r note slot does)) → EndsIn Q (refused from gva r does)
refused-ends from Q gva r does held told =
    let note = note_of from gva r in
    let page = message_page from.pages from.state in
    EndsIn-cond Q (may_enter from.state) (by_slot page (tells from r note does)) (left_with (held_outcome from r does))
    (EndsIn-by_slot Q page (tells from r note does) (λ slot.
    EndsIn-asks_all Q (posting from page note slot ++ told_on (assist_page from.pages from.state) by_interrupt) (left_with (denied_outcome from r note slot does)) (λ x. told note slot)))
    (λ x. held)
