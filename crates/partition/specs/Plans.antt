-- What a request comes to, as the code has it.
use Rattle.std.specs.Prelude.{◌≡◌, ℕ, ◌+◌, Option, Some, None, length}
use Rattle.vsm_core.specs.Served.{Service}
use Rattle.vsm_core.specs.declared.journal.Entry.{Entry}
use Rattle.vsm_core.specs.declared.partition_state.PartitionState.{PartitionState}
use Rattle.flush_round.specs.declared.round.Stage.TheVariants.{Asking}
use Rattle.flush_round.specs.Steps.{RoundView, AreWithin}
use Rattle.partition.specs.Blocks.{IsSingle, rest_of}
use Rattle.partition.specs.PartView.{Doing}
use Rattle.partition.specs.declared.block.Under.{Under}

-- the entries that are left and the reply, as contracts see them; the round under way, if there is one, is of this number
abbrev pub doing : ℕ → Option Under → Option Doing
doing k None = None
doing k (Some under) = Some (record { rest = rest_of k under; reply = under.reply })

-- a round that has not begun, over so many processors, asks for some of so many pages
pub record IsFresh (vps pages : ℕ) (r : RoundView) : Type 0 where
  pub same : r.vps ≡ vps
  pub asks : AreWithin pages r.asks
  pub stage : r.stage ≡ Asking

-- what is left of a request that has not begun, after so many rounds before it; it adds a round, or none
abbrev pub IsNew : ℕ → ℕ → ℕ → ℕ → Option Entry → Option RoundView → Type 0
IsNew vps pages rounds now (Some e) None = IsSingle vps e × (now ≡ rounds)
IsNew vps pages rounds now (Some e) (Some r) = IsSingle vps e × IsFresh vps pages r × (now ≡ rounds + 1)
IsNew vps pages rounds now None (Some r) = IsFresh vps pages r × (now ≡ rounds + 1)
IsNew vps pages rounds now None None = ⊥

-- the request under way and the state that it leaves are those of the service
pub record Plans (old new : PartitionState) (under : Under) (service : Service) : Type 0 where
  pub after : new ≡ service.after
  pub block : rest_of new.rounds under ≡ service.block
  pub reply : under.reply ≡ service.reply
  pub fresh : IsNew (length old.vps) old.pages old.rounds new.rounds under.first under.round
  pub vps : length new.vps ≡ length old.vps
  pub pages : new.pages ≡ old.pages
