-- What attempts leave as it was.
use Rattle.std.specs.Prelude.{◌≡◌, ◌≢◌, ℕ, ◌+◌, List, [], ◌∷◌, length, take}
use Rattle.vsm_base.specs.declared.name.Name.{Name}
use Rattle.vsm_base.specs.declared.name.Name.TheVariants as names
use Rattle.vsm_base.specs.declared.places.Vtl.{Vtl}
use Rattle.vsm_base.specs.declared.places.Vtl.TheVariants.{Zero, One}
use Rattle.vsm_core.specs.declared.operation.Program.{Program}
use Rattle.vsm_core.specs.declared.partition_state.PartitionState.{PartitionState}
use Rattle.vsm_core.specs.declared.request.Reply.{Reply}
use Rattle.vsm_core.specs.declared.request.Request.{Request}
use Rattle.vsm_core.specs.declared.request.PartCall.{PartCall}
use Rattle.vsm_core.specs.declared.request.PartCall.TheVariants.{Modify}
use Rattle.vsm_core.specs.declared.journal.Entry.TheVariants.{Refuse}
use Rattle.vsm_base.specs.declared.places.Page.{Page}
use Rattle.vsm_core.specs.Blocks.{round}
use Rattle.vsm_core.specs.Outcomes.{Origin, Outcome}
use Rattle.vsm_core.specs.Processor.{Vp, attempted}
use Rattle.vsm_core.specs.Protection.{asks_for, map_flags, page_refusals}
use Rattle.vsm_core.specs.Registers.{get}
use Rattle.vsm_core.specs.Reps.{acting}
use Rattle.vsm_core.specs.Served.{answer, after, block}
use Rattle.vsm_core.specs.Tree.{Tree, Ends, Asks, Wants}
use Rattle.vsm_core.specs.Whole.{Flat}

-- whatever is answered, this holds at each end
abbrev pub EndsIn : {A : Type 0} → (A → Type 0) → Tree A → Type 0
EndsIn Q (Ends a) = Q a
EndsIn Q (Asks s k) = (x : ℕ) → EndsIn Q (k x)
EndsIn Q (Wants q k) = (r : Reply) → EndsIn Q (k r)

abbrev pub other_level : Vtl → Vtl
other_level Zero = One
other_level One = Zero

-- all stays but RAX and the active level's Rip
pub record KeepsTheRest (from : Origin) (o : Outcome) : Type 0 where
  pub registers : (level : Vtl) (name : Name) → ¬ ((level ≡ from.state.active) × (name ≡ names.Rip)) → name ≢ names.Rax → get o.state.registers level name ≡ get from.state.registers level name
  pub active : o.state.active ≡ from.state.active
  pub enabled : o.state.enabled ≡ from.state.enabled
  pub controllers : o.controllers ≡ from.controllers

-- a processor after attempts one after the other, over partitions, masks, generations and words of whatever kind
abbrev pub after_attempts : Program → Vp → List (PartitionState × Flat) → Vp
after_attempts program v [] = v
after_attempts program v (e ∷ es) = after_attempts program (attempted program v e.0 e.1).vp es

-- a refused request changes nothing, and the journal says why
pub record RefusesAll (s : PartitionState) (r : Request) : Type 0 where
  pub after : after s r ≡ s
  pub block : block s r ≡ Refuse r.by (answer s r).status ∷ []

-- the asks of a call for masks: those of its pages before the first that isn't there
abbrev pub asks_of : PartitionState → PartCall → List (Page × ℕ)
asks_of s (Modify header pages start total) = asks_for (map_flags header) (take (acting (page_refusals s.pages pages.items)) pages.items)
asks_of s _ = []

-- or it is refused at a page, and those before it got their masks by a round
pub record RefusesRest (s : PartitionState) (r : Request) : Type 0 where
  pub some : asks_of s r.call ≢ []
  pub after : after s r ≡ record s { rounds = s.rounds + 1 }
  pub block : block s r ≡ round (length s.vps) (asks_of s r.call) (s.rounds + 1) r.by
