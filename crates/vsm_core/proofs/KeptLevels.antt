-- An attempt keeps the registers that are the other level's own.
use Rattle.std.proofs.Common.{◌≡◌, ◌∙◌, ◌+◌, ◌++◌, ℕ, zero, suc, Bool, true, false, cond, Option, Some, None, List, [], ◌∷◌, refl, subst}
use Rattle.vsm_base.specs.declared.name.Name.{Name}
use Rattle.vsm_base.specs.declared.name.Name.TheVariants as names
use Rattle.vsm_base.specs.declared.places.Vtl.{Vtl}
use Rattle.vsm_base.specs.declared.places.Vtl.TheVariants.{Zero, One}
use Rattle.vsm_base.specs.Names.{is_shared}
use Rattle.vsm_core.specs.Attempt.{by_slot}
use Rattle.vsm_core.specs.Keeps.{EndsIn, other_level}
use Rattle.vsm_core.specs.Outcomes.{Outcome}
use Rattle.vsm_core.specs.Registers.{Registers, is_legal, private_of, put as put_in}
use Rattle.vsm_core.specs.State.{State, put, put_legal, gone_to, gone_on, rip_of}
use Rattle.vsm_core.specs.Tree.{Tree, Ends, Asks, Wants, WordStep, then_, asks_all, reads}

-- whatever is answered
pub EndsIn-then_ : {A B : Type 0} (Q : B → Type 0) (t : Tree A) (f : A → Tree B) → ((a : A) → EndsIn Q (f a)) → EndsIn Q (then_ t f)
EndsIn-then_ Q (Ends a) f h = h a
EndsIn-then_ Q (Asks s k) f h = λ x. EndsIn-then_ Q (k x) f h
EndsIn-then_ Q (Wants q k) f h = λ r. EndsIn-then_ Q (k r) f h

pub EndsIn-cond : {A : Type 0} (Q : A → Type 0) (b : Bool) (t u : Tree A) → EndsIn Q t → EndsIn Q u → EndsIn Q (cond b t u)
EndsIn-cond Q true t u h g = h
EndsIn-cond Q false t u h g = g

pub Q-cond : {A : Type 0} (Q : A → Type 0) (b : Bool) (x y : A) → Q x → Q y → Q (cond b x y)
Q-cond Q true x y h g = h
Q-cond Q false x y h g = g

pub EndsIn-asks_all : {A : Type 0} (Q : A → Type 0) (steps : List WordStep) (rest : Tree A) → EndsIn Q rest → EndsIn Q (asks_all steps rest)
EndsIn-asks_all Q [] rest h = h
EndsIn-asks_all Q (s ∷ steps) rest h = λ x. EndsIn-asks_all Q steps rest h

pub EndsIn-reads : {A : Type 0} (Q : A → Type 0) (page index count : ℕ) (found : List ℕ) (rest : List ℕ → Tree A) → ((words : List ℕ) → EndsIn Q (rest words)) → EndsIn Q (reads page index count found rest)
EndsIn-reads Q page index zero found rest h = h found
EndsIn-reads Q page index (suc count) found rest h = λ x. EndsIn-reads Q page (suc index) count (found ++ x ∷ []) rest h

pub EndsIn-by_slot : (Q : Outcome → Type 0) (page : Option ℕ) (more : Option ℕ → Tree Outcome) → ((slot : Option ℕ) → EndsIn Q (more slot)) → EndsIn Q (by_slot page more)
EndsIn-by_slot Q None more h = h None
EndsIn-by_slot Q (Some page) more h = λ word. h (Some word)

-- a state after which the active level and the enabled levels are the same, and the other level's own registers
pub record Stays (old new : State) : Type 0 where
  pub active : new.active ≡ old.active
  pub enabled : new.enabled ≡ old.enabled
  pub private : private_of new.registers (other_level old.active) ≡ private_of old.registers (other_level old.active)

pub same-stays : (s : State) → Stays s s
same-stays s = record { active = refl; enabled = refl; private = refl }

pub stays-then : (a b c : State) → Stays a b → Stays b c → Stays a c
stays-then a b c h g = record {
  active = g.active ∙ h.active;
  enabled = g.enabled ∙ h.enabled;
  private = subst (λ l. private_of c.registers (other_level l) ≡ private_of b.registers (other_level l)) h.active g.private ∙ h.private;
}

private-cond : (b : Bool) (x y : Registers) (level : Vtl) (z : List ℕ) → private_of x level ≡ z → private_of y level ≡ z → private_of (cond b x y) level ≡ z
private-cond true x y level z h g = h
private-cond false x y level z h g = g

put-other : (registers : Registers) (level : Vtl) (name : Name) (value : ℕ) → private_of (put_in registers level name value) (other_level level) ≡ private_of registers (other_level level)
put-other registers Zero name value = private-cond (is_shared name) _ _ One registers.one refl refl
put-other registers One name value = private-cond (is_shared name) _ _ Zero registers.zero refl refl

pub put-stays : (s : State) (name : Name) (value : ℕ) → Stays s (put s name value)
put-stays s name value = record { active = refl; enabled = refl; private = put-other s.registers s.active name value }

pub put_legal-stays : (s : State) (name : Name) (value : ℕ) → Stays s (put_legal s name value)
put_legal-stays s name value = Q-cond (Stays s) (is_legal name value) (put s name value) s (put-stays s name value) (same-stays s)

pub gone_to-stays : (s : State) (rip : ℕ) → Stays s (gone_to s rip)
gone_to-stays s rip = put_legal-stays s names.Rip rip

pub gone_on-stays : (s : State) → Stays s (gone_on s)
gone_on-stays s = gone_to-stays s (rip_of s + 1)

pub put-then-on : (s : State) (name : Name) (value : ℕ) → Stays s (gone_on (put s name value))
put-then-on s name value = stays-then s (put s name value) _ (put-stays s name value) (gone_on-stays (put s name value))

pub legal-then-on : (s : State) (name : Name) (value : ℕ) → Stays s (gone_on (put_legal s name value))
legal-then-on s name value = stays-then s (put_legal s name value) _ (put_legal-stays s name value) (gone_on-stays (put_legal s name value))
