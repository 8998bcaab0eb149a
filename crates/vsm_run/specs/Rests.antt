-- Between two attempts.
use Rattle.std.specs.Prelude.{◌≡◌, ℕ, ◌<◌, false, None, List, length, get_or}
use Rattle.vsm_base.specs.declared.places.Limits.{Limits}
use Rattle.vsm_core.specs.declared.event.Phase.{Phase}
use Rattle.vsm_core.specs.declared.event.Phase.TheVariants.{Idle}
use Rattle.vsm_core.specs.Processor.{Vp, standing}

-- no processor is in an access
abbrev pub AllIdle : List Phase → Type 0
AllIdle phases = (p : ℕ) → get_or phases p Idle ≡ Idle

-- no attempt of the processor is under way
abbrev pub IsAtRest : Vp → Type 0
IsAtRest v = v.first ≡ length v.seen

-- a processor that has not ended has a mark of its budget left
abbrev pub HasMarkLeft : Vp → Type 0
HasMarkLeft v = v.ended ≡ None → length (standing v) < v.limits.budget

-- the processor at this place: no attempt of it is under way, nor a start, and it neither waits for a reply nor has one
pub record IsInPlace (limits : Limits) (p : ℕ) (v : Vp) : Type 0 where
  pub number : v.number ≡ p
  pub low : p < limits.vps
  pub limits_same : v.limits ≡ limits
  pub rests : IsAtRest v
  pub answered : v.owes ≡ false
  pub unheard : v.heard ≡ None
  pub left : HasMarkLeft v
