-- A processor's ending, as its attempts leave it, is that of its state: of the last mark that stays, of where its program stands, and of how many marks stay and how many reads of spins found another value.
use Rattle.std.proofs.Common.{◌≡◌, ◌⊎◌, inl, inr, eqb, ◌==◌, ◌-◌, ◌+◌, ◌<◌, ◌≤◌, ℕ, Bool, true, false, not, cond, is_some, Option, Some, None, List, [], ◌∷◌, ◌++◌, length, slice_get, refl, sym, ap, ◌∙◌, subst, arith, nat_lt, lit<}
use Rattle.std.proofs.lemmas.Bool.Decides.{nat_tests}
use Rattle.std.proofs.lemmas.List.{length-append}
use Rattle.vsm_base.specs.Names.{all_names}
use Rattle.vsm_core.specs.declared.event.Event.{Event}
use Rattle.vsm_core.specs.declared.event.Event.TheVariants as events
use Rattle.vsm_core.specs.declared.event.PendingWord.TheVariants.{Start}
use Rattle.vsm_core.specs.declared.journal.Entry.{Entry}
use Rattle.vsm_core.specs.declared.mark.Ending.{Ending}
use Rattle.vsm_core.specs.declared.mark.Ending.TheVariants as endings
use Rattle.vsm_core.specs.declared.mark.Mark.{Mark}
use Rattle.vsm_core.specs.declared.mark.What.{What}
use Rattle.vsm_core.specs.declared.mark.What.TheVariants.{Again, Started}
use Rattle.vsm_core.specs.declared.operation.Op.{Op}
use Rattle.vsm_core.specs.declared.operation.Program.{Program}
use Rattle.vsm_core.specs.declared.partition_state.PartitionState.{PartitionState}
use Rattle.vsm_core.specs.Keeps.{EndsIn}
use Rattle.vsm_core.specs.Outcomes.{Outcome}
use Rattle.vsm_core.specs.Processor.{Vp, IsSameProcessor, standing, came_to, marked, begun, mark_of, start_mark, marked_or_ended, marked_again, ending_after, stopped_by, ran_out, spin_limit, spun_out, or_else, length_of, saw, asking, answered, does_all, wakes, acts, attempted, operation_at, origin_of, tree_of}
use Rattle.vsm_core.specs.Registers.{opening_private, private_names, private_place, opening_value}
use Rattle.vsm_core.specs.Served.{answer, after, block, state_after}
use Rattle.vsm_core.specs.Starts.{start_tree}
use Rattle.vsm_core.specs.State.{State, rip_of, opening_state}
use Rattle.vsm_core.specs.Steps.{made}
use Rattle.vsm_core.specs.Tree.{Tree, Ends, Asks, Wants, WordStep, Taking}
use Rattle.vsm_core.specs.Whole.{Flat, answer_in, flat_after, with_entries}
use Rattle.guest_script.specs.declared.script.Script.{Script}
use Rattle.guest_script.specs.Programs.{program_at}
use Rattle.vsm_report.specs.Acting.{first_partition, opening_vp, is_running, with_attempt}
use Rattle.vsm_report.specs.Counts.{is_left}
use Rattle.vsm_report.specs.Endings.{last_of}
use Rattle.vsm_report.specs.FlatRun.{World, acted, opened, closed}
use Rattle.vsm_report.proofs.Processors.{acts-same-processor, does_all-same, same_by, places-set, StandsAt, opening-at}
use Rattle.vsm_report.proofs.Stepping.{at_once, schedule_alike}
use Rattle.vsm_report.proofs.TellingMarks.{all_but_last}
use Rattle.vsm_report.proofs.VainSpins.{VainAt, tree-at}

-- the ending that a mark is by itself
abbrev pub stop_of : Option Mark → Option Ending
stop_of None = None
stop_of (Some mark) = stopped_by mark.what

-- the ending of these marks that stay, of a program of this length that stands at this place, and of so many spins in vain
abbrev pub by_tests : List Mark → ℕ → ℕ → ℕ → ℕ → Option Ending
by_tests marks long budget rip spins = or_else (stop_of (last_of marks)) (or_else (ran_out long budget rip (length marks)) (spun_out spins))

abbrev pub tested : Vp → Option Ending
tested v = by_tests (standing v) (length_of v v.state.active) v.limits.budget (rip_of v.state) v.spins

-- a processor that may act
pub record Ready (v : Vp) : Type 0 where
  pub going : v.ended ≡ None
  pub few : v.spins < spin_limit
  pub quiet : stop_of (last_of (standing v)) ≡ None

-- one that has started
pub record Tested (v : Vp) : Type 0 where
  pub ended : v.ended ≡ tested v
  pub most : v.spins ≤ spin_limit

get-behind : (marks : List Mark) (m : Mark) → slice_get (marks ++ m ∷ []) (length marks) ≡ Some m
get-behind [] m = refl
get-behind (n ∷ marks) m = get-behind marks m

last-behind : (marks : List Mark) (m : Mark) → last_of (marks ++ m ∷ []) ≡ Some m
last-behind marks m =
    let before : length (marks ++ m ∷ []) - 1 ≡ length marks = omega (arith, length-append marks (m ∷ [])) in
    ap (slice_get (marks ++ m ∷ [])) before ∙ get-behind marks m

-- one mark more that stays
tests-behind : (marks : List Mark) (m : Mark) (long budget rip spins : ℕ) → or_else (stopped_by m.what) (or_else (ran_out long budget rip (length marks + 1)) (spun_out spins)) ≡ by_tests (marks ++ m ∷ []) long budget rip spins
tests-behind marks m long budget rip spins =
    ap (λ x. or_else (stop_of x) (or_else (ran_out long budget rip (length marks + 1)) (spun_out spins))) (sym (last-behind marks m))
    ∙ ap (λ n. or_else (stop_of (last_of (marks ++ m ∷ []))) (or_else (ran_out long budget rip n) (spun_out spins))) (sym (length-append marks (m ∷ [])))

marked-tested : (v : Vp) (o : Outcome) → Ready v → Tested (marked v o)
marked-tested v o h = record {
  ended = tests-behind (standing v) (mark_of v o.what) (length_of v o.state.active) v.limits.budget (rip_of o.state) v.spins;
  most = let few = h.few in omega arith;
}

begun-tested : (v : Vp) (o : Outcome) → Ready v → Tested (begun v o)
begun-tested v o h = record {
  ended = tests-behind (standing v) (start_mark v o) (length_of v o.state.active) v.limits.budget (rip_of o.state) v.spins;
  most = let few = h.few in omega arith;
}

-- a spin in vain leaves its state, and the marks that stay
abbrev pub after_spin : Vp → Option Ending
after_spin v = or_else (ran_out (length_of v v.state.active) v.limits.budget (rip_of v.state) (length (standing v))) (spun_out (v.spins + 1))

vain-tested : (v : Vp) (o : Outcome) (ending : Option Ending) → ending ≡ after_spin v → Ready v → Tested (marked_or_ended v o ending)
vain-tested v o None e h =
    let stood : standing (marked_again v o) ≡ standing v = all_but_last (standing v) (mark_of v o.what) in
    record {
      ended = h.going ∙ e ∙ ap (λ x. or_else x (after_spin v)) (sym h.quiet) ∙ ap (λ ms. by_tests ms (length_of v v.state.active) v.limits.budget (rip_of v.state) (v.spins + 1)) (sym stood);
      most = let few = h.few in omega arith;
    }
vain-tested v o (Some ending) e h = record {
  ended = e ∙ ap (λ x. or_else x (after_spin v)) (sym h.quiet);
  most = let few = h.few in omega arith;
}

came_to-tested : (what : What) (v : Vp) (o : Outcome) → o.what ≡ what → VainAt v.state o → Ready v → Tested (came_to what v o)
came_to-tested (Again grant) v o e vain h =
    let same : o.state ≡ v.state = vain (ap is_left e) in
    vain-tested v o _ (ap (λ w. ending_after v w o.state (length (standing v)) (v.spins + 1)) e ∙ ap (λ s. ending_after v (Again grant) s (length (standing v)) (v.spins + 1)) same) h
came_to-tested Started v o e vain h = begun-tested v o h
came_to-tested _ v o e vain h = marked-tested v o h

pub saw-ready : (op : Option Op) (v : Vp) (e : Event) → Ready v → Ready (saw op v e)
saw-ready op v (events.Check generation) h = record { going = h.going; few = h.few; quiet = h.quiet }
saw-ready op v _ h = record { going = h.going; few = h.few; quiet = h.quiet }

pub saw-state : (op : Option Op) (v : Vp) (e : Event) → (saw op v e).state ≡ v.state
saw-state op v (events.Check generation) = refl
saw-state op v _ = refl

-- whatever an attempt asks and is answered
module _ {W : Type 0} (answers : W → WordStep → ℕ) (changes : W → WordStep → W) (adds : W → List Entry → W) (op : Option Op) where
  does_all-tested : (s : PartitionState) (v : Vp) (words : W) (t : Tree Outcome) → EndsIn (VainAt v.state) t → Ready v → Tested (does_all answers changes adds s op v words t).vp
  does_all-tested s v words (Ends o) vain h = came_to-tested o.what v o refl vain h
  does_all-tested s v words (Asks step k) vain h =
      let x = answers words step in
      let seen = saw op v (made step x) in
      does_all-tested s seen (changes words step) (k x) (subst (λ state. EndsIn (VainAt state) (k x)) (sym (saw-state op v (made step x))) (vain x)) (saw-ready op v (made step x) h)
  does_all-tested s v words (Wants q k) vain h =
      let reply = answer s q in
      does_all-tested (after s q) (answered reply (asking op v)) (adds words (block s q)) (k reply) (vain reply) (record { going = h.going; few = h.few; quiet = h.quiet })

-- the processor of this number, as it is made and as its attempts leave it
pub record Stands (s : Script) (p : ℕ) (v : Vp) : Type 0 where
  pub same : IsSameProcessor (opening_vp s p) v
  pub off : v.started ≡ false → Ready v
  pub on : v.started ≡ true → Tested v

pub or_else-first : (a b : Option Ending) → None ≡ or_else a b → a ≡ None
or_else-first None b e = refl
or_else-first (Some ending) b e = cc

pub or_else-second : (a b : Option Ending) → None ≡ or_else a b → b ≡ None
or_else-second None b e = sym e
or_else-second (Some ending) b e = cc

not-spun : (b : Bool) → cond b (Some endings.Spun) None ≡ None → b ≡ false
not-spun true e = cc
not-spun false e = refl

few-spins : (spins : ℕ) → spins ≤ spin_limit → spun_out spins ≡ None → spins < spin_limit
few-spins spins most e = let g = not-spun (spins == spin_limit) e in grind (arith, nat_tests)

pub tested-ready : (v : Vp) → v.ended ≡ None → Tested v → Ready v
tested-ready v going h =
    let stop = stop_of (last_of (standing v)) in
    let ran = ran_out (length_of v v.state.active) v.limits.budget (rip_of v.state) (length (standing v)) in
    let e : None ≡ or_else stop (or_else ran (spun_out v.spins)) = sym going ∙ h.ended in
    record {
      going = going;
      few = few-spins v.spins h.most (or_else-second ran (spun_out v.spins) (sym (or_else-second stop (or_else ran (spun_out v.spins)) e)));
      quiet = or_else-first stop (or_else ran (spun_out v.spins)) e;
    }

stands-ready : (s : Script) (p : ℕ) (v : Vp) (b : Bool) → v.started ≡ b → v.ended ≡ None → Stands s p v → Ready v
stands-ready s p v true on going h = tested-ready v going (h.on on)
stands-ready s p v false off going h = h.off off

-- where it may act it still stands so
on-stands : (s : Script) (p : ℕ) (v n : Vp) → Stands s p v → IsSameProcessor v n → n.started ≡ true → Tested n → Stands s p n
on-stands s p v n h same on is = record { same = same_by (opening_vp s p) v n h.same same; off = λ off. cc; on = λ on. is }

module _ {W : Type 0} (answers : W → WordStep → ℕ) (changes : W → WordStep → W) (adds : W → List Entry → W) (script : Script) (p : ℕ) (s : PartitionState) (v : Vp) (words : W) (h : Stands script p v) (ready : Ready v) where
  wakes-stands : (b : Bool) → Stands script p (cond b (record { vp = v; words = words; served = [] }) (does_all answers changes adds s None v words (start_tree (origin_of v)))).vp
  wakes-stands true = h
  wakes-stands false =
      let t = start_tree (origin_of v) in
      on-stands script p v (does_all answers changes adds s None v words t).vp h (does_all-same answers changes adds None s v words t) refl (does_all-tested answers changes adds None s v words t (λ x. λ reply. λ e. cc) ready)

  acts-stands : (program : Program) (b : Bool) → v.started ≡ b
      → let op = operation_at program v.state in Stands script p (cond b (does_all answers changes adds s op v words (tree_of (origin_of v) op)) (wakes answers changes adds s v words)).vp
  acts-stands program true on =
      let op = operation_at program v.state in let t = tree_of (origin_of v) op in
      let same = does_all-same answers changes adds op s v words t in
      on-stands script p v (does_all answers changes adds s op v words t).vp h same (same.started on) (does_all-tested answers changes adds op s v words t (tree-at (origin_of v) op) ready)
  acts-stands program false off = wakes-stands (answers words (Taking Start) == 0)

attempted-stands : (script : Script) (p : ℕ) (program : Program) (v : Vp) (s : PartitionState) (flat : Flat) → v.ended ≡ None → Stands script p v → Stands script p (attempted program v s flat).vp
unfolding attempted
attempted-stands script p program v s flat going h =
    acts-stands (answer_in v.limits v.number) (flat_after v.limits v.number) with_entries script p s v flat h (stands-ready script p v v.started refl going h) program v.started refl

-- each processor stands so
abbrev AllStand : Script → World → Type 0
AllStand s w = (p : ℕ) (v : Vp) → slice_get w.vps p ≡ Some v → Stands s p v

no-ending : (ended : Option Ending) → not (is_some ended) ≡ true → ended ≡ None
no-ending None e = refl
no-ending (Some ending) e = cc

module _ (script : Script) (first : PartitionState) where
  if-stand : (b : Bool) (w v : World) → (b ≡ true → AllStand script w) → AllStand script v → AllStand script (cond b w v)
  if-stand true w v h g = h refl
  if-stand false w v h g = g

  at_once-stand : (program : Program) (p : ℕ) (w : World) (u : Option Vp) → slice_get w.vps p ≡ u → AllStand script w → AllStand script (at_once first p program w u)
  at_once-stand program p w None found h = h
  at_once-stand program p w (Some u) found h =
      let did = attempted program u (state_after first w.partition) w.words in
      if-stand (is_running u) _ w (λ runs. places-set (Stands script) w.vps p did.vp (attempted-stands script p program u (state_after first w.partition) w.words (no-ending u.ended runs) (h p u found)) h) h

  acted-stand : (programs : List Program) (p : ℕ) (w : World) → AllStand script w → AllStand script (acted first programs p w)
  unfolding acted
  acted-stand programs p w h = at_once-stand (program_at programs p) p w (slice_get w.vps p) refl h

-- a program begins at its first operation, at level 0
record IsFirst (state : State) : Type 0 where
  level : (v : Vp) → length_of v state.active ≡ v.zero_length
  rip : rip_of state ≡ 0

opening-first : IsFirst opening_state
unfolding opening_state opening_private private_names private_place opening_value all_names
opening-first = record { level = λ v. refl; rip = refl }

no-spins : spun_out 0 ≡ None
unfolding spin_limit
no-spins = refl

spins-open : 0 < spin_limit
unfolding spin_limit
spins-open = lit< tt

or_none : (a b : Option Ending) → b ≡ None → a ≡ or_else a b
or_none None b e = sym e
or_none (Some ending) b e = refl

opening-tested : (s : Script) (p : ℕ) → (b : Bool) → nat_lt p s.started ≡ b → b ≡ true → Tested (opening_vp s p)
opening-tested s p false e on = cc
opening-tested s p true e on =
    let v = opening_vp s p in
    let long = v.zero_length in
    let run : Option Ending = ran_out long s.limits.budget 0 0 in
    let at : ran_out (length_of v opening_state.active) s.limits.budget (rip_of opening_state) 0 ≡ run = ap (λ n. ran_out n s.limits.budget (rip_of opening_state) 0) (opening-first.level v) ∙ ap (λ r. ran_out long s.limits.budget r 0) opening-first.rip in
    let few = spins-open in
    record {
      ended = ap (λ c. cond c run None) e ∙ or_none run (spun_out 0) no-spins ∙ ap (λ x. or_else x (spun_out 0)) (sym at);
      most = omega arith;
    }

opening-ready : (s : Script) (p : ℕ) → nat_lt p s.started ≡ false → Ready (opening_vp s p)
opening-ready s p e = record { going = ap (λ c. cond c (ran_out (length (program_at s.programs p).zero) s.limits.budget 0 0) None) e; few = spins-open; quiet = refl }

opening-stands : (s : Script) (p : ℕ) → Stands s p (opening_vp s p)
opening-stands s p = record {
  same = record { number = refl; limits = refl; zero_length = refl; one_length = refl; started = λ is. is };
  off = λ off. opening-ready s p off;
  on = λ on. opening-tested s p (nat_lt p s.started) refl on;
}

opened-stand : (s : Script) → AllStand s (opened s)
unfolding opened
opened-stand s = λ p v e. subst (Stands s p) (opening-at s p v e).is (opening-stands s p)

-- and so each stands when the run is over
pub closed-stand : (s : Script) → AllStand s (closed s)
unfolding closed
closed-stand s =
    let first = first_partition s in
    schedule_alike (λ (v w : World). AllStand s w) (acted first s.programs) (acted first s.programs) (λ p v w h. acted-stand s first s.programs p w h) s.schedule (opened s) (opened s) (opened-stand s)
