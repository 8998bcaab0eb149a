-- What one attempt leaves of marks, and that the lines of a run tell them.
use Rattle.std.proofs.Common.{◌≡◌, ◌≢◌, ◌⊎◌, ◌-◌, ◌+◌, inl, inr, eqb, ◌==◌, ℕ, Bool, true, false, not, cond, IfSome, Option, Some, None, List, [], ◌∷◌, ◌++◌, map, length, drop, take, slice_get, slice_set, refl, sym, ap, ◌∙◌, subst, append_assoc, arith, nat_lt}
use Rattle.std.specs.List.{filter, range_with_len}
use Rattle.std.proofs.lemmas.Bool.Decides.{eqb_tells}
use Rattle.std.proofs.lemmas.List.{append-nil, length-append, length-set}
use Rattle.std.proofs.lemmas.List.Elements.{filter-append}
use Rattle.std.proofs.Math.Seq.{take-append_seam, drop-append_seam}
use Rattle.vsm_core.specs.declared.event.Event.{Event}
use Rattle.vsm_core.specs.declared.event.Event.TheVariants as events
use Rattle.vsm_core.specs.declared.journal.Entry.{Entry}
use Rattle.vsm_core.specs.declared.mark.Ending.{Ending}
use Rattle.vsm_core.specs.declared.mark.Ending.TheVariants as endings
use Rattle.vsm_core.specs.declared.mark.Mark.{Mark}
use Rattle.vsm_core.specs.declared.mark.Posted.{Posted}
use Rattle.vsm_core.specs.declared.mark.Posted.TheVariants.{Held}
use Rattle.vsm_core.specs.declared.mark.What.{What}
use Rattle.vsm_core.specs.declared.mark.What.TheVariants.{Again, Denied, Fault, Hit, Started}
use Rattle.vsm_core.specs.declared.operation.Op.{Op}
use Rattle.vsm_core.specs.declared.operation.Program.{Program}
use Rattle.vsm_core.specs.declared.partition_state.PartitionState.{PartitionState}
use Rattle.vsm_core.specs.declared.request.Request.{Request}
use Rattle.vsm_core.specs.Outcomes.{Outcome}
use Rattle.vsm_core.specs.Processor.{Vp, standing, came_to, marked, begun, mark_of, start_mark, marked_or_ended, ending_after, held_by, stopped_by, ran_out, spin_limit, spun_out, or_else, length_of, saw, asking, answered, new_marks, does_all, acts, attempted}
use Rattle.vsm_core.specs.Served.{answer, after, block}
use Rattle.vsm_core.specs.State.{State, rip_of}
use Rattle.vsm_core.specs.Steps.{made}
use Rattle.vsm_core.specs.Tree.{Tree, Ends, Asks, Wants, WordStep}
use Rattle.vsm_report.specs.Counts.{is_left}
use Rattle.vsm_report.specs.Telling.{staying, vain_last}

-- no processor's own ending is that of a schedule that ended first
abbrev pub IsOwnEnding : Ending → Type 0
IsOwnEnding endings.Cut = ⊥
IsOwnEnding _ = Unit {0}

or_else-own : (a b : Option Ending) → IfSome a IsOwnEnding → IfSome b IsOwnEnding → IfSome (or_else a b) IsOwnEnding
or_else-own (Some ending) b h g = h
or_else-own None b h g = g

pub if-own : (b : Bool) (x y : Option Ending) → IfSome x IsOwnEnding → IfSome y IsOwnEnding → IfSome (cond b x y) IsOwnEnding
if-own true x y h g = h
if-own false x y h g = g

held_by-own : (posted : Posted) → IfSome (held_by posted) IsOwnEnding
held_by-own Held = tt
held_by-own _ = tt

stopped_by-own : (what : What) → IfSome (stopped_by what) IsOwnEnding
stopped_by-own (Denied denial) = held_by-own denial.posted
stopped_by-own (Hit posted) = held_by-own posted
stopped_by-own (Fault fault) = tt
stopped_by-own _ = tt

pub ran_out-own : (long budget rip marks : ℕ) → IfSome (ran_out long budget rip marks) IsOwnEnding
ran_out-own long budget rip marks =
    if-own (nat_lt rip long) (cond (nat_lt marks budget) None (Some endings.Budget)) (Some endings.Done) (if-own (nat_lt marks budget) None (Some endings.Budget) tt tt) tt

pub spun_out-own : (spins : ℕ) → IfSome (spun_out spins) IsOwnEnding
spun_out-own spins = if-own (spins == spin_limit) (Some endings.Spun) None tt tt

ending_after-own : (v : Vp) (what : What) (state : State) (marks spins : ℕ) → IfSome (ending_after v what state marks spins) IsOwnEnding
ending_after-own v what state marks spins =
    let run : Option Ending = ran_out (length_of v state.active) v.limits.budget (rip_of state) marks in
    or_else-own (stopped_by what) (or_else run (spun_out spins)) (stopped_by-own what) (or_else-own run (spun_out spins) (ran_out-own (length_of v state.active) v.limits.budget (rip_of state) marks) (spun_out-own spins))

-- of a spin in vain the mark stays while the processor has no ending
abbrev pub vain_behind : Option Ending → List Mark → List Mark
vain_behind None told = vain_last told
vain_behind (Some ending) told = []

-- the marks that an attempt leaves behind those that stood: each stays but that of a spin in vain
pub record Leaves (v n : Vp) : Type 0 where
  pub new : List Mark
  pub marks : n.marks ≡ standing v ++ new
  pub stood : standing n ≡ standing v ++ staying new
  pub last : (told : List Mark) → n.marks ≡ standing n ++ vain_behind n.ended (told ++ new)
  pub own : IfSome n.ended IsOwnEnding

-- the last of marks
last_of : (told : List Mark) (m : Mark) → drop (length (told ++ m ∷ []) - 1) (told ++ m ∷ []) ≡ m ∷ []
last_of told m =
    let before : length (told ++ m ∷ []) - 1 ≡ length told = omega (arith, length-append told (m ∷ [])) in
    ap (λ n. drop n (told ++ m ∷ [])) before ∙ drop-append_seam told (m ∷ [])

vain_last-of : (told : List Mark) (m : Mark) → vain_last (told ++ m ∷ []) ≡ cond (not (is_left m.what)) (m ∷ []) []
vain_last-of told m = ap (filter (λ m. not (is_left m.what))) (last_of told m)

pub all_but_last : (stood : List Mark) (m : Mark) → take (length (stood ++ m ∷ []) - 1) (stood ++ m ∷ []) ≡ stood
all_but_last stood m =
    let before : length (stood ++ m ∷ []) - 1 ≡ length stood = omega (arith, length-append stood (m ∷ [])) in
    ap (λ n. take n (stood ++ m ∷ [])) before ∙ take-append_seam stood (m ∷ [])

no_vain : (ended : Option Ending) (told : List Mark) (m : Mark) → is_left m.what ≡ true → vain_behind ended (told ++ m ∷ []) ≡ []
no_vain None told m left = vain_last-of told m ∙ ap (λ b. cond (not b) (m ∷ []) []) left
no_vain (Some ending) told m left = refl

-- a mark that stays, of this outcome, with this ending
stays-with : (v n : Vp) (m : Mark) → n.marks ≡ standing v ++ m ∷ [] → n.again ≡ false → is_left m.what ≡ true → IfSome n.ended IsOwnEnding → Leaves v n
stays-with v n m marks again left own =
    let stood : standing n ≡ n.marks = ap (λ b. cond b (take (length n.marks - 1) n.marks) n.marks) again in
    record {
      new = m ∷ [];
      marks = marks;
      stood = stood ∙ marks ∙ ap (λ b. standing v ++ cond b (m ∷ []) []) (sym left);
      last = λ told. sym (append-nil n.marks) ∙ ap (λ ms. ms ++ []) (sym stood) ∙ ap (λ ms. standing n ++ ms) (sym (no_vain n.ended told m left));
      own = own;
    }

marked-leaves : (v : Vp) (o : Outcome) → is_left o.what ≡ true → Leaves v (marked v o)
marked-leaves v o left = stays-with v (marked v o) (mark_of v o.what) refl refl left (ending_after-own v o.what o.state (length (standing v) + 1) v.spins)

begun-leaves : (v : Vp) (o : Outcome) → is_left o.what ≡ true → Leaves v (begun v o)
begun-leaves v o left = stays-with v (begun v o) (start_mark v o) refl refl left (ending_after-own v o.what o.state (length (standing v) + 1) v.spins)

-- a spin in vain
vain-leaves : (v : Vp) (o : Outcome) (ending : Option Ending) → v.ended ≡ None → is_left o.what ≡ false → IfSome ending IsOwnEnding → Leaves v (marked_or_ended v o ending)
vain-leaves v o None going vain own =
    let m = mark_of v o.what in
    let stood : standing (marked_or_ended v o None) ≡ standing v = all_but_last (standing v) m in
    let none : staying (m ∷ []) ≡ [] = ap (λ b. cond b (m ∷ []) []) vain in
    record {
      new = m ∷ [];
      marks = refl;
      stood = stood ∙ sym (append-nil (standing v)) ∙ ap (λ ms. standing v ++ ms) (sym none);
      last = λ told. ap (λ ms. ms ++ m ∷ []) (sym stood) ∙ ap (λ b. standing (marked_or_ended v o None) ++ cond (not b) (m ∷ []) []) (sym vain) ∙ ap (λ ms. standing (marked_or_ended v o None) ++ ms) (sym (vain_last-of told m) ∙ ap (λ e. vain_behind e (told ++ m ∷ [])) (sym going));
      own = rw going tt;
    }
vain-leaves v o (Some ending) going vain own = record {
  new = [];
  marks = sym (append-nil (standing v));
  stood = sym (append-nil (standing v));
  last = λ told. sym (append-nil (standing v));
  own = own;
}

came_to-leaves : (what : What) (v : Vp) (o : Outcome) → v.ended ≡ None → o.what ≡ what → Leaves v (came_to what v o)
came_to-leaves (Again grant) v o going e =
    vain-leaves v o _ going (ap is_left e) (ending_after-own v o.what o.state (length (standing v)) (v.spins + 1))
came_to-leaves Started v o going e = begun-leaves v o (ap is_left e)
came_to-leaves _ v o going e = marked-leaves v o (ap is_left e)

saw-ended : (op : Option Op) (v : Vp) (e : Event) → (saw op v e).ended ≡ v.ended
saw-ended op v (events.Check generation) = refl
saw-ended op v e = refl

pub saw-standing : (op : Option Op) (v : Vp) (e : Event) → standing (saw op v e) ≡ standing v
saw-standing op v (events.Check generation) = refl
saw-standing op v e = refl

leaves-by : (u v n : Vp) → standing u ≡ standing v → Leaves u n → Leaves v n
leaves-by u v n same h =
    record { new = h.new; marks = h.marks ∙ ap (λ ms. ms ++ h.new) same; stood = h.stood ∙ ap (λ ms. ms ++ staying h.new) same; last = h.last; own = h.own }

-- whatever an attempt asks and is answered
module _ {W : Type 0} (answers : W → WordStep → ℕ) (changes : W → WordStep → W) (adds : W → List Entry → W) (op : Option Op) where
  pub does_all-leaves : (s : PartitionState) (v : Vp) (words : W) (t : Tree Outcome) → v.ended ≡ None → Leaves v (does_all answers changes adds s op v words t).vp
  does_all-leaves s v words (Ends o) going = came_to-leaves o.what v o going refl
  does_all-leaves s v words (Asks step k) going =
      let x = answers words step in
      let seen = saw op v (made step x) in
      leaves-by seen v _ (saw-standing op v (made step x)) (does_all-leaves s seen (changes words step) (k x) (saw-ended op v (made step x) ∙ going))
  does_all-leaves s v words (Wants q k) going =
      let reply = answer s q in
      leaves-by (answered reply (asking op v)) v _ refl (does_all-leaves (after s q) (answered reply (asking op v)) (adds words (block s q)) (k reply) going)
