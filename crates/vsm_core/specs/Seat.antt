-- What is known of a processor's way to the shared words, and what a step through it changes.
use Rattle.std.specs.Prelude.{◌≡◌, ℕ, ◌+◌, ◌-◌, ◌^◌, ◌<◌, Option, Some, None, List, slice_set, if◌then◌else◌, nat_lt, ◌∷◌}
use Rattle.vsm_base.specs.declared.places.Limits.{Limits}
use Rattle.vsm_core.specs.declared.event.Event.{Event}
use Rattle.vsm_core.specs.declared.event.Phase.{Phase}
use Rattle.vsm_core.specs.Steps.{made, learned, phase_after, MayStep}
use Rattle.vsm_core.specs.declared.view.ProcessorView.{ProcessorView}
use Rattle.vsm_core.specs.Tree.{WordStep}
use Rattle.vsm_core.specs.Words.{answer_of, words_by}

-- what a fabric that tells its words tells: all words, each processor's phase, how often the generation was turned,
-- and how many processors were cleared since
pub record Fabric : Type 0 where
  pub words : List ℕ
  pub phases : List Phase
  pub turns : ℕ
  pub cleared : ℕ

-- what is known of a port: the ghost name of what it borrows, whose it is, the limits, the processor's phase, the last
-- event, how many steps were made, what its fabric tells, where it does, and what a fabric that many threads share knows
-- of its processor's view
pub record Seat : Type 0 where
  pub name : ℕ
  pub vp : ℕ
  pub limits : Limits
  pub phase : Phase
  pub last : Option Event
  pub steps : ℕ
  pub told : Option Fabric
  pub known : Option ProcessorView

-- what is known of a processor's view after one more of its events
abbrev pub knows_after : Event → Option ProcessorView → Option ProcessorView
knows_after e None = None
knows_after e (Some t) = Some (record t { past = e ∷ t.past })

-- a count that stays at its last value
unfoldable pub counted : ℕ → ℕ
counted n = if nat_lt n (2 ^ 64 - 1) then n + 1 else n

abbrev pub fabric_after : Limits → ℕ → Phase → WordStep → Fabric → Fabric
fabric_after limits p phase s fabric = record fabric { words = words_by limits p fabric.words s; phases = slice_set fabric.phases p phase }

abbrev pub told_after : Limits → ℕ → Phase → WordStep → Option Fabric → Option Fabric
told_after limits p phase s None = None
told_after limits p phase s (Some fabric) = Some (fabric_after limits p phase s fabric)

-- the port after a step that was answered so
abbrev pub seat_after : Seat → WordStep → ℕ → Seat
seat_after seat s x = record {
  name = seat.name;
  vp = seat.vp;
  limits = seat.limits;
  phase = phase_after seat.phase s x;
  last = Some (made s x);
  steps = counted seat.steps;
  told = told_after seat.limits seat.vp (phase_after seat.phase s x) s seat.told;
  known = knows_after (made s x) seat.known;
}

abbrev pub IsToldAnswer : Limits → ℕ → WordStep → ℕ → Option Fabric → Type 0
IsToldAnswer limits p s x None = Unit {0}
IsToldAnswer limits p s x (Some fabric) = x ≡ answer_of limits p fabric.words s

-- the one call made this step, and this is what it teaches: what the words say, where they are told
pub record Makes (old : Seat) (s : WordStep) (x : ℕ) (new : Seat) : Type 0 where
  pub after : new ≡ seat_after old s x
  pub learns : learned (made s x) ≡ x
  pub answer : IsToldAnswer old.limits old.vp s x old.told

-- when a step may be made
abbrev pub MayMake : Seat → WordStep → Type 0
MayMake seat s = (seat.vp < seat.limits.vps) × MayStep seat.limits seat.phase s
