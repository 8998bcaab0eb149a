-- What always holds of a partition.
use Rattle.std.specs.Prelude.{◌≡◌, ℕ, ◌+◌, ◌-◌, ◌<◌, ◌≤◌, ◌^◌, Bool, Option, Some, None, List, [], length}
use Rattle.vsm_core.specs.Entries.{pace}
use Rattle.vsm_core.specs.declared.journal.Entry.{Entry}
use Rattle.vsm_core.specs.declared.partition_state.PartitionState.{PartitionState}
use Rattle.protection_map.specs.JournalView.{JournalView}
use Rattle.partition.specs.Blocks.{RestFits, rest_of}
use Rattle.partition.specs.declared.block.Under.{Under}

-- the entries that are left of the request under way, if there is one
abbrev pub rest_now : ℕ → Option Under → List Entry
rest_now k None = []
rest_now k (Some under) = rest_of k under

-- the request under way stands where these turns and cleared processors do; where there is none all rounds are over
abbrev pub FitsNow : ℕ → ℕ → ℕ → ℕ → ℕ → Option Under → Type 0
FitsNow vps pages k turns cleared None = (cleared ≡ vps) × (turns ≡ k)
FitsNow vps pages k turns cleared (Some under) = RestFits vps pages k turns cleared under.first under.round

-- the journal is over the partition's pages, has room for what is left, and stands where the request under way does; no
-- round is counted that has no entry; of each processor it is known whether it counts as ended
pub record IsSound (state : PartitionState) (journal : JournalView) (under : Option Under) (ended : List Bool) : Type 0 where
  pub few : length state.vps ≤ 8
  pub pages : length journal.opening ≡ state.pages
  pub fits : FitsNow (length state.vps) state.pages state.rounds (pace (length state.vps) journal.entries).turns (pace (length state.vps) journal.entries).cleared under
  pub rounds : state.rounds ≤ length journal.entries + length (rest_now state.rounds under)
  pub room : length journal.entries + length (rest_now state.rounds under) ≤ journal.room
  pub small : journal.room < 2 ^ 64 - 1
  pub told : length ended ≡ length state.vps
