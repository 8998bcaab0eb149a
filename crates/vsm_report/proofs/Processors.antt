-- A processor stays the one that it was made as, at its place in a list.
use Rattle.std.proofs.Common.{◌≡◌, ◌≢◌, ◌<◌, ◌⊎◌, inl, inr, eqb, ℕ, true, false, Option, Some, None, List, length, get_or, slice_get, slice_set, refl, sym, ap, ◌∙◌, subst, map, zero-add}
use Rattle.std.proofs.lemmas.Bool.Decides.{eqb_tells}
use Rattle.std.proofs.lemmas.Grind.{get_or-set_at}
use Rattle.std.proofs.lemmas.List.{length-set, get_or-set_other}
use Rattle.std.specs.List.{range_with_len}
use Rattle.std.proofs.lemmas.List.FromFn.{length-map-range_with_len, get_or-map-range_with_len}
use Rattle.std.proofs.lemmas.Option.{slice_get_within, slice_get-get_or, get_or_from_slice_get}
use Rattle.vsm_core.specs.declared.event.Event.{Event}
use Rattle.vsm_core.specs.declared.event.Event.TheVariants as events
use Rattle.vsm_core.specs.declared.journal.Entry.{Entry}
use Rattle.vsm_core.specs.declared.mark.Ending.{Ending}
use Rattle.vsm_core.specs.declared.mark.What.{What}
use Rattle.vsm_core.specs.declared.mark.What.TheVariants.{Again, Started}
use Rattle.vsm_core.specs.declared.operation.Op.{Op}
use Rattle.vsm_core.specs.declared.operation.Program.{Program}
use Rattle.vsm_core.specs.Outcomes.{Outcome}
use Rattle.vsm_core.specs.declared.partition_state.PartitionState.{PartitionState}
use Rattle.vsm_core.specs.declared.request.Reply.{Reply}
use Rattle.vsm_core.specs.Processor.{Vp, IsSameProcessor, saw, came_to, marked_or_ended, asking, answered, does_all, acts}
use Rattle.vsm_core.specs.Served.{answer, after, block}
use Rattle.vsm_core.specs.Steps.{made}
use Rattle.vsm_core.specs.Tree.{Tree, Ends, Asks, Wants, WordStep}
use Rattle.vsm_core.proofs.SameAnswers.{acts-either}
use Rattle.guest_script.specs.declared.script.Script.{Script}
use Rattle.vsm_report.specs.Acting.{opening_vp, opening_vps}

pub same_by : (v u w : Vp) → IsSameProcessor v u → IsSameProcessor u w → IsSameProcessor v w
same_by v u w h g = record {
  number = g.number ∙ h.number;
  limits = g.limits ∙ h.limits;
  zero_length = g.zero_length ∙ h.zero_length;
  one_length = g.one_length ∙ h.one_length;
  started = λ is. g.started (h.started is);
}

saw-same : (op : Option Op) (v : Vp) (e : Event) → IsSameProcessor v (saw op v e)
saw-same op v (events.Check generation) = record { number = refl; limits = refl; zero_length = refl; one_length = refl; started = λ is. is }
saw-same op v _ = record { number = refl; limits = refl; zero_length = refl; one_length = refl; started = λ is. is }

marked_or_ended-same : (v : Vp) (o : Outcome) (ending : Option Ending) → IsSameProcessor v (marked_or_ended v o ending)
marked_or_ended-same v o None = record { number = refl; limits = refl; zero_length = refl; one_length = refl; started = λ is. is }
marked_or_ended-same v o (Some ending) = record { number = refl; limits = refl; zero_length = refl; one_length = refl; started = λ is. is }

came_to-same : (what : What) (v : Vp) (o : Outcome) → IsSameProcessor v (came_to what v o)
came_to-same (Again grant) v o = marked_or_ended-same v o _
came_to-same Started v o = record { number = refl; limits = refl; zero_length = refl; one_length = refl; started = λ is. refl }
came_to-same _ v o = record { number = refl; limits = refl; zero_length = refl; one_length = refl; started = λ is. is }

answered-same : (reply : Reply) (op : Option Op) (v : Vp) → IsSameProcessor v (answered reply (asking op v))
answered-same reply op v = record { number = refl; limits = refl; zero_length = refl; one_length = refl; started = λ is. is }

-- whatever an attempt asks and is answered
module _ {W : Type 0} (answers : W → WordStep → ℕ) (changes : W → WordStep → W) (adds : W → List Entry → W) (op : Option Op) where
  pub does_all-same : (s : PartitionState) (v : Vp) (words : W) (t : Tree Outcome) → IsSameProcessor v (does_all answers changes adds s op v words t).vp
  does_all-same s v words (Ends o) = came_to-same o.what v o
  does_all-same s v words (Asks step k) =
      let x = answers words step in
      let seen = saw op v (made step x) in same_by v seen _ (saw-same op v (made step x)) (does_all-same s seen (changes words step) (k x))
  does_all-same s v words (Wants q k) =
      let reply = answer s q in
      let heard = answered reply (asking op v) in same_by v heard _ (answered-same reply op v) (does_all-same (after s q) heard (adds words (block s q)) (k reply))

-- and of a start too
pub acts-same-processor : {W : Type 0} (answers : W → WordStep → ℕ) (changes : W → WordStep → W) (adds : W → List Entry → W) (program : Program) (s : PartitionState) (v : Vp) (words : W) → IsSameProcessor v (acts answers changes adds program s v words).vp
acts-same-processor answers changes adds program s v words =
    acts-either answers changes adds (λ did. IsSameProcessor v did.vp) program s v words (record { number = refl; limits = refl; zero_length = refl; one_length = refl; started = λ is. is }) (λ op t. does_all-same answers changes adds op s v words t)

-- what holds of each element by its place but of one holds of all when that one is set to one for which it holds
pub places-change : {X : Type 0} (P : ℕ → X → Type 0) (xs : List X) (i : ℕ) (y : X) → P i y → ((j : ℕ) (x : X) → eqb j i ≡ false → slice_get xs j ≡ Some x → P j x) → (j : ℕ) (x : X) → slice_get (slice_set xs i y) j ≡ Some x → P j x
places-change P xs i y is others j x e = go (eqb_tells j i) where
  within : j < length xs
  within = subst (λ n. j < n) (length-set xs i y) (slice_get_within (slice_set xs i y) j x e)

  found : get_or (slice_set xs i y) j x ≡ x
  found = get_or_from_slice_get (slice_set xs i y) j x x e

  go : ((eqb j i ≡ true) × (j ≡ i)) ⊎ ((eqb j i ≡ false) × (j ≢ i)) → P j x
  go (inl here) =
      let same : y ≡ x = sym (get_or-set_at xs i j y x here.1 (subst (λ n. n < length xs) here.1 within)) ∙ found in
      subst (λ k. P k x) (sym here.1) (subst (P i) same is)
  go (inr other) =
      others j x other.0 (slice_get-get_or xs j x within ∙ ap Some (sym (get_or-set_other xs i j y x other.1) ∙ found))

-- what holds of each element by its place holds when one is set for which it holds
pub places-set : {X : Type 0} (P : ℕ → X → Type 0) (xs : List X) (i : ℕ) (y : X) → P i y → ((j : ℕ) (x : X) → slice_get xs j ≡ Some x → P j x) → (j : ℕ) (x : X) → slice_get (slice_set xs i y) j ≡ Some x → P j x
places-set P xs i y is all = places-change P xs i y is (λ j x other e. all j x e)

-- the processor at a place before the first attempt
pub record StandsAt (s : Script) (p : ℕ) (u : Vp) : Type 0 where
  pub low : p < length s.programs
  pub is : opening_vp s p ≡ u

pub opening-at : (s : Script) (p : ℕ) (u : Vp) → slice_get (opening_vps s) p ≡ Some u → StandsAt s p u
unfolding opening_vps
opening-at s p u e =
    let n = length s.programs in
    let low : p < n = subst (λ k. p < k) (length-map-range_with_len (opening_vp s) 0 n) (slice_get_within (map (opening_vp s) (range_with_len 0 n)) p u e) in
    record { low = low; is = sym (get_or-map-range_with_len (opening_vp s) 0 n p p u low (zero-add p)) ∙ get_or_from_slice_get (map (opening_vp s) (range_with_len 0 n)) p u u e }
