-- What contracts see of a round, and each of its steps.
use Rattle.std.specs.Prelude.{◌≡◌, ℕ, ◌+◌, ◌-◌, ◌<◌, ◌≤◌, ◌^◌, Bool, true, false, nat_lt, List, [], ◌∷◌, ◌++◌, map}
use Rattle.std.specs.List.{range_with_len}
use Rattle.vsm_base.specs.declared.places.Page.{Page}
use Rattle.vsm_base.specs.declared.places.VpIndex.{VpIndex}
use Rattle.vsm_core.specs.Blocks.{clear, round}
use Rattle.vsm_core.specs.declared.journal.Entry.{Entry}
use Rattle.vsm_core.specs.declared.journal.Entry.TheVariants.{Report}
use Rattle.vsm_core.specs.declared.event.Event.TheVariants as events
use Rattle.vsm_core.specs.Stand.{Stand, Serves}
use Rattle.flush_round.specs.declared.step.RoundStep.{RoundStep}
use Rattle.flush_round.specs.declared.step.RoundStep.TheVariants as steps
use Rattle.flush_round.specs.declared.round.Stage.{Stage}
use Rattle.flush_round.specs.declared.round.Stage.TheVariants.{Asking, Clearing, Over}

-- a round: how many processors it clears, the asks to come, and how far it is
pub record RoundView : Type 0 where
  pub vps : ℕ
  pub asks : List (Page × ℕ)
  pub stage : Stage

-- the clears of so many processors from this one on, and the report
abbrev pub clears : (from count k : ℕ) → List Entry
clears from count k = map clear (range_with_len from count) ++ Report k ∷ []

-- the entries that are still to come of a round of this number, which this processor asked for
abbrev pub entries_in : ℕ → List (Page × ℕ) → Stage → ℕ → VpIndex → List Entry
entries_in vps asks Asking k by = round vps asks k by
entries_in vps asks (Clearing turned cleared) k by = clears cleared (vps - cleared) turned
entries_in vps asks Over k by = []

abbrev pub entries_left : RoundView → ℕ → VpIndex → List Entry
entries_left r k by = entries_in r.vps r.asks r.stage k by

abbrev pub vp_at : ℕ → VpIndex
vp_at q = record { 0 = q }

-- the load of a busy word: where it gave 1 the round stays as it is
abbrev pub ClearsBy : (busy : Bool) → RoundView → (turned cleared : ℕ) → RoundView → RoundStep → Type 0
ClearsBy true old turned cleared new step = (new ≡ old) × (step ≡ steps.Busy (vp_at cleared))
ClearsBy false old turned cleared new step = (new ≡ record old { stage = Clearing turned (cleared + 1) }) × (step ≡ steps.Cleared (vp_at cleared))

-- where a processor is left its busy word is loaded, and else no word step is made
abbrev pub ClearsOrReports : (left : Bool) → RoundView → (turned cleared : ℕ) → Stand → RoundView → Stand → RoundStep → Type 0
ClearsOrReports true old turned cleared before new after step =
    (busy : Bool) × Serves before (events.Clear (vp_at cleared) busy) after × ClearsBy busy old turned cleared new step
ClearsOrReports false old turned cleared before new after step =
    (after ≡ before) × (new ≡ record old { stage = Over }) × (step ≡ steps.Done turned)

-- where an ask is left it is made, and else the turn
abbrev pub AsksOrTurns : List (Page × ℕ) → RoundView → Stand → RoundView → Stand → RoundStep → Type 0
AsksOrTurns (a ∷ asks) old before new after step =
    Serves before (events.Ask a.0 a.1) after × (new ≡ record old { asks = asks }) × (step ≡ steps.Asked a.0 a.1)
AsksOrTurns [] old before new after step =
    (k : ℕ) × Serves before (events.Turn k) after × (new ≡ record old { stage = Clearing k 0 }) × (step ≡ steps.Turned k)

-- one step of a round: what was done, how far the round is then, and what it answers
abbrev pub StepsIn : Stage → RoundView → Stand → RoundView → Stand → RoundStep → Type 0
StepsIn Asking old before new after step = AsksOrTurns old.asks old before new after step
StepsIn (Clearing turned cleared) old before new after step =
    ClearsOrReports (nat_lt cleared old.vps) old turned cleared before new after step
StepsIn Over old before new after step = ⊥

abbrev pub Steps : RoundView → Stand → RoundView → Stand → RoundStep → Type 0
Steps old before new after step = StepsIn old.stage old before new after step

-- the pages of these asks are among so many
abbrev pub AreWithin : ℕ → List (Page × ℕ) → Type 0
AreWithin pages [] = Unit {0}
AreWithin pages (a ∷ asks) = (a.0.0 < pages) × AreWithin pages asks

-- the steward stands where a round does that is so far
abbrev pub IsReadyIn : Stage → ℕ → Stand → Type 0
IsReadyIn Asking vps s = (s.cleared ≡ vps) × (s.turns < 2 ^ 64 - 1)
IsReadyIn (Clearing turned cleared) vps s = (s.turns ≡ turned) × (s.cleared ≡ cleared) × (cleared ≤ vps)
IsReadyIn Over vps s = Unit {0}

-- the steward has the round's processors, and the pages that are still asked for, and stands where the round does
pub record IsReady (r : RoundView) (s : Stand) : Type 0 where
  pub vps : s.limits.vps ≡ r.vps
  pub asks : AreWithin s.limits.pages r.asks
  pub stage : IsReadyIn r.stage r.vps s

-- a page that was asked for is below the page count
abbrev pub HasAsked : RoundStep → Stand → Type 0
HasAsked (steps.Asked page mask) s = page.0 < s.limits.pages
HasAsked _ s = Unit {0}

-- where the round is done each processor was cleared since its turn, which was the last
abbrev pub WasCleared : RoundStep → Stand → Type 0
WasCleared (steps.Done k) s = (s.turns ≡ k) × (s.cleared ≡ s.limits.vps)
WasCleared _ s = Unit {0}
