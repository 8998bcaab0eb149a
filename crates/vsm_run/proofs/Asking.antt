-- What an attempt may still ask of the partition: once at most, and no spin goes on after the reply.
use Rattle.std.proofs.Common.{◌≡◌, ℕ, Option, Some, None, refl, ◌∙◌, subst}
use Rattle.vsm_core.specs.declared.mark.Ending.{Ending}
use Rattle.vsm_core.specs.declared.mark.What.{What}
use Rattle.vsm_core.specs.declared.mark.What.TheVariants.{Again}
use Rattle.vsm_core.specs.declared.request.Heard.{Heard}
use Rattle.vsm_core.specs.declared.request.Reply.{Reply}
use Rattle.vsm_core.specs.declared.request.Request.{Request}
use Rattle.vsm_core.specs.Keeps.{EndsIn}
use Rattle.vsm_core.specs.Outcomes.{Outcome}
use Rattle.vsm_core.specs.Processor.{Vp, came_to, marked_or_ended, settled}
use Rattle.vsm_core.specs.Tree.{Tree, Ends, Asks, Wants, after}
use Rattle.vsm_core.proofs.Requests.{Asked, Unasked, IsNoAgain, NoAgain, IsOwnRequest, after-asked}
use Rattle.vsm_run.specs.Rests.{IsAtRest}

-- what is left of an attempt of the processor of this number that has had this reply, or none
abbrev pub AsksOnce : ℕ → Option Heard → Tree Outcome → Type 0
AsksOnce number None t = Asked (IsOwnRequest number) t
AsksOnce number (Some heard) t = Unasked t × EndsIn NoAgain t

after-ends : (Q : Outcome → Type 0) (t : Tree Outcome) (x : ℕ) → EndsIn Q t → EndsIn Q (after t x)
after-ends Q (Ends o) x h = h
after-ends Q (Asks s k) x h = h x
after-ends Q (Wants q k) x h = h

pub after-once : (number : ℕ) (heard : Option Heard) (t : Tree Outcome) (x : ℕ) → AsksOnce number heard t → AsksOnce number heard (after t x)
after-once number None t x h = after-asked (IsOwnRequest number) t x h
after-once number (Some heard) t x h = (after-asked (λ q k. ⊥) t x h.0, after-ends NoAgain t x h.1)

-- a request comes before any reply
pub record IsFirst (number : ℕ) (heard : Option Heard) (q : Request) (more : Reply → Tree Outcome) : Type 0 where
  pub none : heard ≡ None
  pub own : IsOwnRequest number q more

pub asks-first : (number : ℕ) (heard : Option Heard) (q : Request) (more : Reply → Tree Outcome) (t : Tree Outcome) → t ≡ Wants q more → AsksOnce number heard t → IsFirst number heard q more
asks-first number None q more t e h = record { none = refl; own = subst (Asked (IsOwnRequest number)) e h }
asks-first number (Some heard) q more t e h = absurd (subst Unasked e h.0)

-- an attempt that is no spin in vain ends at rest, and no reply stays
pub record IsOver (v : Vp) : Type 0 where
  pub rests : IsAtRest v
  pub unheard : v.heard ≡ None

pub came_to-over : (what : What) (v : Vp) (o : Outcome) → IsNoAgain what → IsOver (came_to what v o)
came_to-over (Again grant) v o never = absurd never
came_to-over _ v o never = record { rests = refl; unheard = refl }

marked_or_ended-heard : (v : Vp) (o : Outcome) (ending : Option Ending) → (marked_or_ended v o ending).heard ≡ v.heard
marked_or_ended-heard v o None = refl
marked_or_ended-heard v o (Some ending) = refl

came_to-unheard : (what : What) (v : Vp) (o : Outcome) → v.heard ≡ None → (came_to what v o).heard ≡ None
came_to-unheard (Again grant) v o none = marked_or_ended-heard v o _ ∙ none
came_to-unheard _ v o none = refl

-- no reply stays after the end of an attempt
pub ends-unheard : (number : ℕ) (heard : Option Heard) (t : Tree Outcome) (x : ℕ) (o : Outcome) (v : Vp) → after t x ≡ Ends o → v.heard ≡ heard → AsksOnce number heard t → (settled (Ends o) v).heard ≡ None
ends-unheard number None t x o v e same h = came_to-unheard o.what v o same
ends-unheard number (Some heard) t x o v e same h = (came_to-over o.what v o (subst (EndsIn NoAgain) e (after-ends NoAgain t x h.1))).unheard
