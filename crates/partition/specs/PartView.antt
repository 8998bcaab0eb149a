-- What contracts see of a partition.
use Rattle.std.specs.Prelude.{ℕ, ◌&&◌, Bool, true, false, not, Option, Some, None, List, length, map, slice_set}
use Rattle.std.specs.List.{count_by, range_with_len}
use Rattle.std.proofs.Common.{get_or}
use Rattle.vsm_base.specs.declared.places.Limits.{Limits}
use Rattle.vsm_core.specs.Partition.{standing, is_called, opening_partition}
use Rattle.vsm_core.specs.Served.{block, answer, after}
use Rattle.vsm_core.specs.declared.journal.Entry.{Entry}
use Rattle.vsm_core.specs.declared.partition_state.PartitionState.{PartitionState}
use Rattle.vsm_core.specs.declared.request.Reply.{Reply}
use Rattle.vsm_core.specs.declared.request.Request.{Request}
use Rattle.protection_map.specs.JournalView.{JournalView, empty_journal}

-- a request under way: the entries that it still adds, and its reply
pub record Doing : Type 0 where
  pub rest : List Entry
  pub reply : Reply

-- the state that all requests begun so far leave, the journal, the request under way, and of each processor whether it counts as ended
pub record PartView : Type 0 where
  pub state : PartitionState
  pub journal : JournalView
  pub under : Option Doing
  pub ended : List Bool

-- no processor counts as ended
abbrev pub not_ended : ℕ → Bool
not_ended vp = false

-- before the first request
abbrev pub opening_view : Limits → List ℕ → ℕ → PartView
opening_view limits masks started = record {
  state = opening_partition limits started;
  journal = empty_journal limits masks;
  under = None;
  ended = map not_ended (range_with_len 0 limits.vps);
}

-- once a request is begun
abbrev pub begun : PartView → Request → PartView
begun v r = record {
  state = after v.state r;
  journal = v.journal;
  under = Some (record { rest = block v.state r; reply = answer v.state r });
  ended = v.ended;
}

-- from now on a processor counts as ended
abbrev pub with_ended : PartView → ℕ → PartView
with_ended v vp = record v { ended = slice_set v.ended vp true }

abbrev pub has_ended : List Bool → ℕ → Bool
has_ended ended vp = get_or ended vp false

-- a processor is started, or its start was accepted, and it doesn't count as ended
abbrev pub is_running : PartitionState → List Bool → ℕ → Bool
is_running s ended vp = is_called (standing s vp) && not (has_ended ended vp)

-- how many processors do so
abbrev pub running_of : PartitionState → List Bool → ℕ
running_of s ended = count_by (is_running s ended) (range_with_len 0 (length s.vps))
