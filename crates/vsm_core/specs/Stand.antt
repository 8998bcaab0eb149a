-- What is known of the partition's way to the shared words, and what a step through it changes.
use Rattle.std.specs.Prelude.{◌≡◌, ℕ, ◌+◌, ◌-◌, ◌^◌, ◌<◌, Bool, true, false, not, ◌==◌, Option, Some, None, List, bit_or, slice_index, slice_set, ◌∷◌}
use Rattle.vsm_base.specs.declared.places.Limits.{Limits}
use Rattle.vsm_base.specs.declared.places.VpIndex.{VpIndex}
use Rattle.vsm_core.specs.declared.event.Event.{Event}
use Rattle.vsm_core.specs.declared.event.Event.TheVariants as events
use Rattle.vsm_core.specs.declared.event.PendingWord.TheVariants.{Start}
use Rattle.vsm_core.specs.declared.view.PartitionView.{PartitionView}
use Rattle.vsm_core.specs.declared.view.Turning.TheVariants as turnings
use Rattle.vsm_core.specs.Seat.{Fabric, counted}
use Rattle.vsm_core.specs.Whole.{posted_place}
use Rattle.vsm_core.specs.Words.{generation_at, busy_at, posted_at}

-- what is known of a steward: the ghost name of what it borrows, the limits, how often the generation was turned and
-- how many processors were cleared since, the last event, how many steps were made, what its fabric tells, where it does,
-- and what a fabric that many threads share knows of the partition's view
pub record Stand : Type 0 where
  pub name : ℕ
  pub limits : Limits
  pub turns : ℕ
  pub cleared : ℕ
  pub last : Option Event
  pub steps : ℕ
  pub told : Option Fabric
  pub known : Option PartitionView

-- the start word of a processor
abbrev pub start_at : Limits → ℕ → ℕ
start_at limits p = posted_at limits + posted_place limits p Start

-- the words after one of the partition's steps
abbrev pub words_with : Limits → List ℕ → Event → List ℕ
words_with limits words (events.Ask page mask) = slice_set words page.0 mask
words_with limits words (events.Turn round) = slice_set words (generation_at limits) round
words_with limits words (events.Post vp word bits) = slice_set words (start_at limits vp.0) (bit_or (slice_index words (start_at limits vp.0)) bits)
words_with limits words _ = words

abbrev pub turns_with : ℕ → Event → ℕ
turns_with turns (events.Turn round) = round
turns_with turns _ = turns

abbrev pub one_more_unless : Bool → ℕ → ℕ
one_more_unless true cleared = cleared
one_more_unless false cleared = cleared + 1

abbrev pub cleared_with : ℕ → Event → ℕ
cleared_with cleared (events.Turn round) = 0
cleared_with cleared (events.Clear vp busy) = one_more_unless busy cleared
cleared_with cleared _ = cleared

abbrev pub fabric_with : Limits → Fabric → Event → Fabric
fabric_with limits fabric e = record fabric {
  words = words_with limits fabric.words e;
  turns = turns_with fabric.turns e;
  cleared = cleared_with fabric.cleared e;
}

abbrev pub told_with : Limits → Option Fabric → Event → Option Fabric
told_with limits None e = None
told_with limits (Some fabric) e = Some (fabric_with limits fabric e)

-- what is known of the partition's view after one more of its steps
abbrev pub cleared_in : Bool → VpIndex → PartitionView → PartitionView
cleared_in true vp q = q
cleared_in false vp q = record q { past = turnings.Clear vp ∷ q.past }

abbrev pub view_with : PartitionView → Event → PartitionView
view_with q (events.Ask page mask) = record q { past = turnings.Ask page mask ∷ q.past }
view_with q (events.Turn round) = record q { past = turnings.Turn ∷ q.past }
view_with q (events.Clear vp busy) = cleared_in busy vp q
view_with q (events.Post vp word bits) = record q { posts = vp ∷ q.posts }
view_with q _ = q

abbrev pub known_with : Option PartitionView → Event → Option PartitionView
known_with None e = None
known_with (Some q) e = Some (view_with q e)

-- the steward after a step
abbrev pub stand_after : Stand → Event → Stand
stand_after stand e = record {
  name = stand.name;
  limits = stand.limits;
  turns = turns_with stand.turns e;
  cleared = cleared_with stand.cleared e;
  last = Some e;
  steps = counted stand.steps;
  told = told_with stand.limits stand.told e;
  known = known_with stand.known e;
}

-- a turn makes the next round
abbrev pub IsRoundOf : ℕ → Event → Type 0
IsRoundOf turns (events.Turn round) = round ≡ turns + 1
IsRoundOf turns _ = Unit {0}

-- a processor was found busy exactly where its busy word isn't 0
abbrev pub IsToldBusy : Limits → Event → Option Fabric → Type 0
IsToldBusy limits (events.Clear vp busy) (Some fabric) = busy ≡ not (slice_index fabric.words (busy_at limits vp.0) == 0)
IsToldBusy limits _ _ = Unit {0}

-- when a step may be made
abbrev pub MayServe : Stand → Event → Type 0
MayServe stand (events.Ask page mask) = (stand.cleared ≡ stand.limits.vps) × (page.0 < stand.limits.pages)
MayServe stand (events.Turn round) = (stand.cleared ≡ stand.limits.vps) × (stand.turns < 2 ^ 64 - 1)
MayServe stand (events.Clear vp busy) = (vp.0 ≡ stand.cleared) × (vp.0 < stand.limits.vps)
MayServe stand (events.Post vp word bits) = vp.0 < stand.limits.vps
MayServe stand _ = ⊥

-- the one call made this step
pub record Serves (old : Stand) (e : Event) (new : Stand) : Type 0 where
  pub after : new ≡ stand_after old e
  pub round : IsRoundOf old.turns e
  pub busy : IsToldBusy old.limits e old.told
