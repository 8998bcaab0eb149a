-- What an attempt, or a start, keeps of its processor, how many marks it adds, and that each request is paid for by a mark.
use Rattle.std.proofs.Common.{◌≡◌, ◌<◌, ◌≤◌, ◌+◌, ◌-◌, ◌==◌, ℕ, Bool, true, false, cond, nat_lt, Option, Some, None, IfSome, List, [], ◌∷◌, ◌++◌, take, length, refl, sym, ap, subst, ◌∙◌, length-append, length-take, arith}
use Rattle.std.proofs.lemmas.Bool.Decides.{nat_tests}
use Rattle.vsm_base.specs.declared.places.Limits.{Limits}
use Rattle.vsm_core.specs.declared.event.Event.{Event}
use Rattle.vsm_core.specs.declared.event.Event.TheVariants as events
use Rattle.vsm_core.specs.declared.event.PendingWord.TheVariants.{Start}
use Rattle.vsm_core.specs.declared.journal.Entry.{Entry}
use Rattle.vsm_core.specs.declared.mark.Ending.{Ending}
use Rattle.vsm_core.specs.declared.mark.Ending.TheVariants as endings
use Rattle.vsm_core.specs.declared.mark.Mark.{Mark}
use Rattle.vsm_core.specs.declared.mark.What.{What}
use Rattle.vsm_core.specs.declared.mark.What.TheVariants.{Again}
use Rattle.vsm_core.specs.declared.operation.Op.{Op}
use Rattle.vsm_core.specs.declared.operation.Program.{Program}
use Rattle.vsm_core.specs.Entries.{words_by_entries}
use Rattle.vsm_core.specs.Outcomes.{Origin, Outcome}
use Rattle.vsm_core.specs.declared.partition_state.PartitionState.{PartitionState}
use Rattle.vsm_core.specs.declared.request.Reply.{Reply}
use Rattle.vsm_core.specs.Keeps.{EndsIn}
use Rattle.vsm_core.specs.Processor.{Vp, Did, IsSameProcessor, saw, asking, answered, came_to, does_all, marked_or_ended, or_else, ran_out, stopped_by, spun_out, length_of, ending_after, standing, operation_at, origin_of, tree_of}
use Rattle.vsm_core.specs.Served.{after, answer, block}
use Rattle.vsm_core.specs.Starts.{start_tree}
use Rattle.vsm_core.specs.State.{State, rip_of}
use Rattle.vsm_core.specs.Steps.{made}
use Rattle.vsm_core.specs.Tree.{Tree, Ends, Asks, Wants, WordStep, Taking}
use Rattle.vsm_core.specs.Words.{answer_of, words_by}
use Rattle.vsm_core.proofs.Requests.{Asked, Unasked, IsNoAgain, NoAgain, IsOwnRequest, own-requests}
use Rattle.vsm_report.specs.Trace.{made_steps}
use Rattle.vsm_report.proofs.Processors.{does_all-same}
use Rattle.vsm_run.specs.Fits.{FitsOne}
use Rattle.vsm_run.specs.Rests.{HasMarkLeft, IsAtRest, IsInPlace}

-- at most one mark more than stood before
pub record AddsFew (stood : List Mark) (marks : List Mark) : Type 0 where
  pub low : length stood ≤ length marks
  pub few : length marks ≤ length stood + 1

-- what the events of an attempt and the reply to its request keep
pub record Sees (v n : Vp) : Type 0 where
  pub limits : n.limits ≡ v.limits
  pub state : n.state ≡ v.state
  pub stood : standing n ≡ standing v
  pub ended : n.ended ≡ v.ended

saw-sees : (op : Option Op) (v : Vp) (e : Event) → Sees v (saw op v e)
saw-sees op v (events.Check generation) = record { limits = refl; state = refl; stood = refl; ended = refl }
saw-sees op v _ = record { limits = refl; state = refl; stood = refl; ended = refl }

sees-itself : (v : Vp) → Sees v v
sees-itself v = record { limits = refl; state = refl; stood = refl; ended = refl }

saw-owes : (op : Option Op) (v : Vp) (e : Event) → v.owes ≡ false → (saw op v e).owes ≡ false
saw-owes op v (events.Check generation) owes = owes
saw-owes op v _ owes = owes

one_more : (stood : List Mark) (mark : Mark) → AddsFew stood (stood ++ mark ∷ [])
one_more stood mark = record { low = simp length-append (omega arith); few = simp length-append (omega arith) }

none_more : (stood : List Mark) → AddsFew stood stood
none_more stood = record { low = omega arith; few = omega arith }

marked_or_ended-few : (v : Vp) (o : Outcome) (ending : Option Ending) → AddsFew (standing v) (marked_or_ended v o ending).marks
marked_or_ended-few v o None = one_more (standing v) _
marked_or_ended-few v o (Some ending) = none_more (standing v)

came_to-few : (what : What) (v : Vp) (o : Outcome) → AddsFew (standing v) (came_to what v o).marks
came_to-few (Again grant) v o = marked_or_ended-few v o _
came_to-few _ v o = one_more (standing v) _

-- the marks that stay are no fewer than before
stood_later : (b : Bool) (marks : List Mark) → length (cond b (take (length marks - 1) marks) marks) ≤ length marks
stood_later true marks = let l = length-take (length marks - 1) marks in omega arith
stood_later false marks = omega arith

again-stands : (stood : List Mark) (mark : Mark) → length (take (length (stood ++ mark ∷ []) - 1) (stood ++ mark ∷ [])) ≡ length stood
again-stands stood mark =
    let l = length-append stood (mark ∷ []) in let t = length-take (length (stood ++ mark ∷ []) - 1) (stood ++ mark ∷ []) in omega arith

marked_or_ended-stands : (v : Vp) (o : Outcome) (ending : Option Ending) → length (standing (marked_or_ended v o ending)) ≡ length (standing v)
marked_or_ended-stands v o None = again-stands (standing v) _
marked_or_ended-stands v o (Some ending) = refl

no-less : (n m : ℕ) → n ≡ m → m ≤ n
no-less n m e = omega arith

still-less : (n m b : ℕ) → n ≡ m → m < b → n < b
still-less n m b e less = omega arith

came_to-stands : (what : What) (v : Vp) (o : Outcome) → length (standing v) ≤ length (standing (came_to what v o))
came_to-stands (Again grant) v o =
    let ending = ending_after v o.what o.state (length (standing v)) (v.spins + 1) in
    no-less (length (standing (marked_or_ended v o ending))) (length (standing v)) (marked_or_ended-stands v o ending)
came_to-stands _ v o = simp length-append (omega arith)

-- an attempt that is no spin in vain leaves a mark that stays
no-again-stands : (what : What) (v : Vp) (o : Outcome) → IsNoAgain what → length (standing (came_to what v o)) ≡ length (standing v) + 1
no-again-stands (Again grant) v o never = absurd never
no-again-stands _ v o never = length-append (standing v) _

-- an ending is left out only where the budget still has a mark
or_else-none : (a b : Option Ending) → or_else a b ≡ None → (a ≡ None) × (b ≡ None)
or_else-none None b e = (refl, e)
or_else-none (Some ending) b e = cc

ran_out-none : (length_of_program budget rip marks : ℕ) → ran_out length_of_program budget rip marks ≡ None → marks < budget
ran_out-none length_of_program budget rip marks e = go (nat_lt rip length_of_program) (nat_lt marks budget) refl e where
  go : (b c : Bool) → nat_lt marks budget ≡ c → cond b (cond c None (Some endings.Budget)) (Some endings.Done) ≡ None → marks < budget
  go true true lt e = grind (arith, nat_tests)
  go true false lt e = cc
  go false c lt e = cc

ending-none : (v : Vp) (what : What) (state : State) (marks spins : ℕ) → ending_after v what state marks spins ≡ None → marks < v.limits.budget
ending-none v what state marks spins e =
    let out = ran_out (length_of v state.active) v.limits.budget (rip_of state) marks in
    let later = or_else-none (stopped_by what) (or_else out (spun_out spins)) e in
    ran_out-none (length_of v state.active) v.limits.budget (rip_of state) marks (or_else-none out (spun_out spins) later.1).0

marked_or_ended-left : (v : Vp) (o : Outcome) (ending : Option Ending) → HasMarkLeft v → HasMarkLeft (marked_or_ended v o ending)
marked_or_ended-left v o None h = λ e. still-less _ _ _ (again-stands (standing v) _) (h e)
marked_or_ended-left v o (Some ending) h = λ e. cc

came_to-left : (what : What) (v : Vp) (o : Outcome) → HasMarkLeft v → HasMarkLeft (came_to what v o)
came_to-left (Again grant) v o h = marked_or_ended-left v o _ h
came_to-left _ v o h = λ e. let less = ending-none v o.what o.state (length (standing v) + 1) v.spins e in simp length-append less

-- the end of an attempt doesn't change whether a reply is owed
marked_or_ended-owes : (v : Vp) (o : Outcome) (ending : Option Ending) → (marked_or_ended v o ending).owes ≡ v.owes
marked_or_ended-owes v o None = refl
marked_or_ended-owes v o (Some ending) = refl

came_to-owes : (what : What) (v : Vp) (o : Outcome) → (came_to what v o).owes ≡ v.owes
came_to-owes (Again grant) v o = marked_or_ended-owes v o _
came_to-owes _ v o = refl

-- the operation that the processor keeps on with is the one where its program stands
abbrev Keeps : Program → Vp → Type 0
Keeps program v = IfSome v.op (λ op. operation_at program v.state ≡ Some op)

pub keeps_same : (here op : Option Op) → here ≡ op → IfSome op (λ o. here ≡ Some o)
keeps_same here None e = tt
keeps_same here (Some o) e = e

-- where this is the operation at which the program stands
record IsHere (program : Program) (op : Option Op) (v : Vp) : Type 0 where
  here : operation_at program v.state ≡ op
  kept : Keeps program v

saw-here : (program : Program) (op : Option Op) (v : Vp) (e : Event) → IsHere program op v → IsHere program op (saw op v e)
saw-here program op v (events.Check generation) h = record { here = h.here; kept = keeps_same (operation_at program v.state) op h.here }
saw-here program op v _ h = record { here = h.here; kept = keeps_same (operation_at program v.state) op h.here }

marked_or_ended-keeps : (program : Program) (v : Vp) (o : Outcome) (ending : Option Ending) → Keeps program v → Keeps program (marked_or_ended v o ending)
marked_or_ended-keeps program v o None h = h
marked_or_ended-keeps program v o (Some ending) h = tt

came_to-keeps : (program : Program) (what : What) (v : Vp) (o : Outcome) → Keeps program v → Keeps program (came_to what v o)
came_to-keeps program (Again grant) v o h = marked_or_ended-keeps program v o _ h
came_to-keeps program _ v o h = tt

-- what holds as an attempt begins, and after each event and reply, leaves something at its end
module _ {W : Type 0} (answers : W → WordStep → ℕ) (changes : W → WordStep → W) (adds : W → List Entry → W) (op : Option Op) (P Q : Vp → Type 0) (sees : (v : Vp) (e : Event) → P v → P (saw op v e)) (hears : (v : Vp) (reply : Reply) → P v → P (answered reply (asking op v))) (ends : (v : Vp) (o : Outcome) → P v → Q (came_to o.what v o)) where
  by_end : (s : PartitionState) (v : Vp) (words : W) (t : Tree Outcome) → P v → Q (does_all answers changes adds s op v words t).vp
  by_end s v words (Ends o) h = ends v o h
  by_end s v words (Asks step k) h =
      let x = answers words step in by_end s (saw op v (made step x)) (changes words step) (k x) (sees v (made step x) h)
  by_end s v words (Wants q k) h =
      let reply = answer s q in by_end (after s q) (answered reply (asking op v)) (adds words (block s q)) (k reply) (hears v reply h)

-- how many requests an attempt makes, and that each is paid for by a mark that stays
pub record Pays (stood : List Mark) (did : Did (List ℕ)) : Type 0 where
  pub one : length did.served ≤ 1
  pub spends : length did.served + length stood ≤ length (standing did.vp)

-- nothing is served, and a mark more stays
record Unserved (stood : List Mark) (did : Did (List ℕ)) : Type 0 where
  none : did.served ≡ []
  marks : length (standing did.vp) ≡ length stood + 1

module _ (answers : List ℕ → WordStep → ℕ) (changes : List ℕ → WordStep → List ℕ) (adds : List ℕ → List Entry → List ℕ) (op : Option Op) where
  does_all-unserved : (s : PartitionState) (v : Vp) (words : List ℕ) (t : Tree Outcome) → Unasked t → EndsIn NoAgain t → Unserved (standing v) (does_all answers changes adds s op v words t)
  does_all-unserved s v words (Ends o) asks ends = record { none = refl; marks = no-again-stands o.what v o ends }
  does_all-unserved s v words (Asks step k) asks ends =
      let x = answers words step in
      let did = does_all answers changes adds s op (saw op v (made step x)) (changes words step) (k x) in
      subst (λ ms. Unserved ms did) (saw-sees op v (made step x)).stood (does_all-unserved s (saw op v (made step x)) (changes words step) (k x) (asks x) (ends x))
  does_all-unserved s v words (Wants q k) asks ends = absurd asks

  does_all-pays : (number : ℕ) (s : PartitionState) (v : Vp) (words : List ℕ) (t : Tree Outcome) → Asked (IsOwnRequest number) t → Pays (standing v) (does_all answers changes adds s op v words t)
  does_all-pays number s v words (Ends o) own = let le = came_to-stands o.what v o in record { one = omega arith; spends = omega arith }
  does_all-pays number s v words (Asks step k) own =
      let x = answers words step in
      let did = does_all answers changes adds s op (saw op v (made step x)) (changes words step) (k x) in
      subst (λ ms. Pays ms did) (saw-sees op v (made step x)).stood (does_all-pays number s (saw op v (made step x)) (changes words step) (k x) (own x))
  does_all-pays number s v words (Wants q k) own =
      let reply = answer s q in
      let ends = own.ends reply in
      let words_then = adds words (block s q) in
      let did = does_all answers changes adds (after s q) op (answered reply (asking op v)) words_then (k reply) in
      let rest = does_all-unserved (after s q) (answered reply (asking op v)) words_then (k reply) ends.0 ends.1 in
      let marks = rest.marks in
      let none : length did.served ≡ 0 = ap length rest.none in
      record { one = omega arith; spends = omega arith }

-- what nothing at all adds to the marks
marks-few : (again : Bool) (marks : List Mark) → AddsFew (cond again (take (length marks - 1) marks) marks) marks
marks-few true marks = let l = length-take (length marks - 1) marks in record { low = omega arith; few = omega arith }
marks-few false marks = none_more marks

start-own : (from : Origin) → Asked (IsOwnRequest from.number) (start_tree from)
start-own from = λ x. record { by = refl; slice = tt; ends = λ reply. (tt, tt) }

saw-none : (program : Program) (v : Vp) (e : Event) → Keeps program (saw None v e)
saw-none program v (events.Check generation) = tt
saw-none program v e = tt

module _ (program : Program) (v : Vp) (s : PartitionState) (words : List ℕ) where
  abbrev here : Option Op
  here = operation_at program v.state

  -- the tree is done from this processor on, of this operation or of none
  abbrev does : Option Op → Tree Outcome → Did (List ℕ)
  does op t = does_all (answer_of v.limits v.number) (words_by v.limits v.number) (words_by_entries v.limits) s op v words t

  abbrev starts : Tree Outcome
  starts = start_tree (origin_of v)

  -- an attempt, nothing at all, or a start
  by_kind : (P : Did (List ℕ) → Type 0) → P (does here (tree_of (origin_of v) here)) → P (record { vp = v; words = words; served = [] }) → P (does None starts) → P (made_steps program v s words)
  unfolding made_steps
  by_kind P attempts waits begins = either v.started _ _ attempts (either (answer_of v.limits v.number words (Taking Start) == 0) _ _ waits begins) where
    either : (b : Bool) (x y : Did (List ℕ)) → P x → P y → P (cond b x y)
    either true x y h g = h
    either false x y h g = g

  -- of an attempt and of a start
  by_both : (P : Did (List ℕ) → Type 0) → ((op : Option Op) (t : Tree Outcome) → P (does op t)) → P (record { vp = v; words = words; served = [] }) → P (made_steps program v s words)
  by_both P does_so waits = by_kind P (does_so here (tree_of (origin_of v) here)) waits (does_so None starts)

  pub made_steps-same : IsSameProcessor v (made_steps program v s words).vp
  made_steps-same =
      by_both (λ did. IsSameProcessor v did.vp) (λ op t. does_all-same (answer_of v.limits v.number) (words_by v.limits v.number) (words_by_entries v.limits) op s v words t)
      (record { number = refl; limits = refl; zero_length = refl; one_length = refl; started = λ h. h })

  -- what follows from what its events keep
  by_sees : (Q : Vp → Type 0) → ((u : Vp) (o : Outcome) → Sees v u → Q (came_to o.what u o)) → Q v → Q (made_steps program v s words).vp
  by_sees Q ends waits =
      by_both (λ did. Q did.vp) (λ op t.
      by_end (answer_of v.limits v.number) (words_by v.limits v.number) (words_by_entries v.limits) op (Sees v) Q
      (λ u e h. let g = saw-sees op u e in record { limits = g.limits ∙ h.limits; state = g.state ∙ h.state; stood = g.stood ∙ h.stood; ended = g.ended ∙ h.ended })
      (λ u reply h. record { limits = h.limits; state = h.state; stood = h.stood; ended = h.ended })
      ends s v words t (sees-itself v)) waits

  pub made_steps-few : AddsFew (standing v) (made_steps program v s words).vp.marks
  made_steps-few = by_sees (λ n. AddsFew (standing v) n.marks) (λ u o h. subst (λ ms. AddsFew ms (came_to o.what u o).marks) h.stood (came_to-few o.what u o)) (marks-few v.again v.marks)

  pub made_steps-stands : length (standing (made_steps program v s words).vp) ≤ length (standing v) + 1
  made_steps-stands =
      by_sees (λ n. length (standing n) ≤ length (standing v) + 1)
      (λ u o h. let n = came_to o.what u o in let later = stood_later n.again n.marks in let few = (subst (λ ms. AddsFew ms n.marks) h.stood (came_to-few o.what u o)).few in omega arith) (omega arith)

  pub made_steps-pays : Pays (standing v) (made_steps program v s words)
  made_steps-pays =
      by_kind (Pays (standing v))
      (does_all-pays (answer_of v.limits v.number) (words_by v.limits v.number) (words_by_entries v.limits) here v.number s v words (tree_of (origin_of v) here) (own-requests (origin_of v) here None []))
      (record { one = omega arith; spends = omega arith })
      (does_all-pays (answer_of v.limits v.number) (words_by v.limits v.number) (words_by_entries v.limits) None v.number s v words starts (start-own (origin_of v)))

  made_steps-keeps : Keeps program v → Keeps program (made_steps program v s words).vp
  made_steps-keeps h =
      by_kind (λ did. Keeps program did.vp)
      (by_end (answer_of v.limits v.number) (words_by v.limits v.number) (words_by_entries v.limits) here (IsHere program here) (Keeps program)
      (saw-here program here) (λ u reply g. record { here = g.here; kept = keeps_same (operation_at program u.state) here g.here })
      (λ u o g. came_to-keeps program o.what u o g.kept) s v words (tree_of (origin_of v) here) (record { here = refl; kept = h })) h
      (by_end (answer_of v.limits v.number) (words_by v.limits v.number) (words_by_entries v.limits) None (Keeps program) (Keeps program)
      (λ u e g. saw-none program u e) (λ u reply g. tt) (λ u o g. came_to-keeps program o.what u o g) s v words starts h)

  made_steps-owes : v.owes ≡ false → (made_steps program v s words).vp.owes ≡ false
  made_steps-owes owes =
      by_both (λ did. did.vp.owes ≡ false) (λ op t.
      by_end (answer_of v.limits v.number) (words_by v.limits v.number) (words_by_entries v.limits) op (λ u. u.owes ≡ false) (λ u. u.owes ≡ false)
      (saw-owes op) (λ u reply g. refl) (λ u o g. came_to-owes o.what u o ∙ g) s v words t owes) owes

  made_steps-left : HasMarkLeft v → HasMarkLeft (made_steps program v s words).vp
  made_steps-left left =
      by_sees HasMarkLeft (λ u o h. came_to-left o.what u o (λ e. rw (h.stood, h.limits) (left (sym h.ended ∙ e)))) left

  pub made_steps-fits : FitsOne program v → FitsOne program (made_steps program v s words).vp
  made_steps-fits fits = record {
    zero = fits.zero ∙ sym made_steps-same.zero_length;
    one = fits.one ∙ sym made_steps-same.one_length;
    kept = made_steps-keeps fits.kept;
  }

  pub made_steps-place : (limits : Limits) (p : ℕ) → IsInPlace limits p v → IsAtRest (made_steps program v s words).vp → (made_steps program v s words).vp.heard ≡ None → IsInPlace limits p (made_steps program v s words).vp
  made_steps-place limits p place rests unheard = record {
    number = made_steps-same.number ∙ place.number;
    low = place.low;
    limits_same = made_steps-same.limits ∙ place.limits_same;
    rests = rests;
    answered = made_steps-owes place.answered;
    unheard = unheard;
    left = made_steps-left place.left;
  }
