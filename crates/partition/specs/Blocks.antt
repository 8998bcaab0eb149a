-- What is left of a request under way: a first entry, and then a round.
use Rattle.std.specs.Prelude.{◌≡◌, ℕ, ◌+◌, ◌<◌, ◌≤◌, ◌^◌, true, Option, Some, None, List, [], ◌∷◌}
use Rattle.vsm_base.specs.declared.places.VpIndex.{VpIndex}
use Rattle.vsm_core.specs.Entries.{step_of}
use Rattle.vsm_core.specs.Stand.{Stand, Serves}
use Rattle.vsm_core.specs.declared.event.Event.TheVariants as events
use Rattle.vsm_core.specs.declared.journal.Entry.{Entry}
use Rattle.vsm_core.specs.declared.journal.Entry.TheVariants as entries
use Rattle.flush_round.specs.declared.round.Stage.{Stage}
use Rattle.flush_round.specs.declared.round.Stage.TheVariants.{Asking, Clearing, Over}
use Rattle.flush_round.specs.declared.step.RoundStep.{RoundStep}
use Rattle.flush_round.specs.declared.step.RoundStep.TheVariants as steps
use Rattle.flush_round.specs.Steps.{RoundView, entries_left, AreWithin}
use Rattle.partition.specs.Turns.{ServesIf}
use Rattle.partition.specs.declared.block.Under.{Under}
use Rattle.partition.specs.declared.block.Next.{Next}
use Rattle.partition.specs.declared.block.Next.TheVariants as nexts

-- there is a first entry
abbrev pub IsMore : List Entry → Type 0
IsMore es = (e : Entry) × (rest : List Entry) × (es ≡ e ∷ rest)

-- what is left before and after one turn, which made one entry or found a processor busy
abbrev pub NextBy : List Entry → Stand → List Entry → Stand → Next → Type 0
NextBy old before new after (nexts.Entry e) = (old ≡ e ∷ new) × ServesIf before (step_of e) after × IsMore new
NextBy old before new after (nexts.Last e) = (old ≡ e ∷ []) × ServesIf before (step_of e) after
NextBy old before new after (nexts.Busy vp) = (rest : List Entry) × (old ≡ entries.Clear vp ∷ rest) × (new ≡ old) × Serves before (events.Clear vp true) after

-- the same of a round of this number
abbrev pub RoundNext : ℕ → VpIndex → RoundView → Stand → RoundView → Stand → Next → Type 0
RoundNext k by old before new after next =
    (old.stage ≡ Asking → before.turns + 1 ≡ k) → NextBy (entries_left old k by) before (entries_left new k by) after next

-- what a step of a round that this processor asked for is for its request
abbrev pub next_of : VpIndex → RoundStep → Next
next_of by (steps.Asked page mask) = nexts.Entry (entries.Ask page mask)
next_of by (steps.Turned k) = nexts.Entry (entries.Turn k by)
next_of by (steps.Cleared vp) = nexts.Entry (entries.Clear vp)
next_of by (steps.Busy vp) = nexts.Busy vp
next_of by (steps.Done k) = nexts.Last (entries.Report k)

-- the entries that are left of a first entry and of a round of this number
abbrev pub rest_in : ℕ → VpIndex → Option Entry → Option RoundView → List Entry
rest_in k by (Some e) None = e ∷ []
rest_in k by (Some e) (Some r) = e ∷ entries_left r k by
rest_in k by None (Some r) = entries_left r k by
rest_in k by None None = []

abbrev pub rest_of : ℕ → Under → List Entry
rest_of k u = rest_in k u.by u.first u.round

-- an entry that is no part of a round; a processor that starts is among so many
abbrev pub IsSingle : ℕ → Entry → Type 0
IsSingle vps (entries.Start by vp level) = vp.0 < vps
IsSingle vps (entries.Ask page mask) = ⊥
IsSingle vps (entries.Turn k by) = ⊥
IsSingle vps (entries.Clear vp) = ⊥
IsSingle vps (entries.Report k) = ⊥
IsSingle vps _ = Unit {0}

-- a round of this number, so far, stands where these turns and cleared processors do
abbrev pub StageFits : ℕ → ℕ → ℕ → ℕ → Stage → Type 0
StageFits vps k turns cleared Asking = (cleared ≡ vps) × (turns + 1 ≡ k)
StageFits vps k turns cleared (Clearing t c) = (turns ≡ t) × (cleared ≡ c) × (c ≤ vps) × (t ≡ k)
StageFits vps k turns cleared Over = ⊥

pub record RoundFits (vps pages k turns cleared : ℕ) (r : RoundView) : Type 0 where
  pub same : r.vps ≡ vps
  pub small : k < 2 ^ 64
  pub asks : AreWithin pages r.asks
  pub stage : StageFits vps k turns cleared r.stage

abbrev pub RestFits : ℕ → ℕ → ℕ → ℕ → ℕ → Option Entry → Option RoundView → Type 0
RestFits vps pages k turns cleared (Some e) None = IsSingle vps e × (cleared ≡ vps) × (turns ≡ k)
RestFits vps pages k turns cleared (Some e) (Some r) = IsSingle vps e × (r.stage ≡ Asking) × RoundFits vps pages k turns cleared r
RestFits vps pages k turns cleared None (Some r) = RoundFits vps pages k turns cleared r
RestFits vps pages k turns cleared None None = ⊥

-- the request under way stands where the steward does, and its round, if it has one, is of this number
abbrev pub UnderFits : ℕ → Stand → Under → Type 0
UnderFits k s u = RestFits s.limits.vps s.limits.pages k s.turns s.cleared u.first u.round

abbrev pub StillFits : ℕ → Next → Under → Stand → Type 0
StillFits k (nexts.Entry e) new after = UnderFits k after new
StillFits k (nexts.Busy vp) new after = UnderFits k after new
StillFits k (nexts.Last e) new after = (after.cleared ≡ after.limits.vps) × (after.turns ≡ k)

-- one turn of a request under way
abbrev pub UnderNext : ℕ → Under → Stand → Under → Stand → Next → Type 0
UnderNext k old before new after next =
    NextBy (rest_of k old) before (rest_of k new) after next × StillFits k next new after

-- a round alone: where it stands, and one step of it
abbrev pub RoundFitsAt : ℕ → Stand → RoundView → Type 0
RoundFitsAt k s r = RoundFits s.limits.vps s.limits.pages k s.turns s.cleared r

abbrev pub RoundStillFits : ℕ → Next → RoundView → Stand → Type 0
RoundStillFits k (nexts.Entry e) new after = RoundFitsAt k after new
RoundStillFits k (nexts.Busy vp) new after = RoundFitsAt k after new
RoundStillFits k (nexts.Last e) new after = (after.cleared ≡ after.limits.vps) × (after.turns ≡ k)

abbrev pub RoundMoves : ℕ → VpIndex → RoundView → Stand → RoundView → Stand → Next → Type 0
RoundMoves k by old before new after next =
    NextBy (entries_left old k by) before (entries_left new k by) after next × RoundStillFits k next new after
