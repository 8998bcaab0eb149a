-- An attempt asks only what may be asked. Events stand newest first.
use Rattle.std.specs.Prelude.{◌≡◌, ℕ, List, ◌∷◌}
use Rattle.vsm_base.specs.declared.places.Limits.{Limits}
use Rattle.vsm_core.specs.declared.event.Event.{Event}
use Rattle.vsm_core.specs.declared.event.Phase.TheVariants.{Idle}
use Rattle.vsm_core.specs.declared.request.Reply.{Reply}
use Rattle.vsm_core.specs.Tree.{Tree, Ends, Asks, Wants}
use Rattle.vsm_core.specs.Outcomes.{Outcome}
use Rattle.vsm_core.specs.Steps.{MayStep, made, phase_of}

-- after these events each step of the tree may be made where it is asked, a request is made between two accesses alone, and Q holds at each end
abbrev pub Sound : {A : Type 0} → Limits → (List Event → A → Type 0) → List Event → Tree A → Type 0
Sound limits Q es (Ends a) = Q es a
Sound limits Q es (Asks s k) = MayStep limits (phase_of es) s × ((x : ℕ) → Sound limits Q (made s x ∷ es) (k x))
Sound limits Q es (Wants q k) = (phase_of es ≡ Idle) × ((r : Reply) → Sound limits Q es (k r))

-- the access is over
abbrev pub IsOver : List Event → Outcome → Type 0
IsOver es o = phase_of es ≡ Idle
