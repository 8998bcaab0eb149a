-- How the partition serves a request: the entries that it adds to the journal, its reply, and what it knows then.
use Rattle.std.specs.Prelude.{◌≡◌, ℕ, ◌+◌, ◌==◌, ◌&&◌, Bool, true, not, if◌then◌else◌, Option, Some, None, List, [], ◌∷◌, ◌++◌, length, drop, take, slice_set}
use Rattle.vsm_base.specs.declared.places.Page.{Page}
use Rattle.vsm_base.specs.declared.places.VpIndex.{VpIndex}
use Rattle.vsm_base.specs.declared.places.Vtl.{Vtl}
use Rattle.vsm_base.specs.declared.places.Vtl.TheVariants.{One}
use Rattle.vsm_base.specs.declared.status.HvStatus.{HvStatus}
use Rattle.vsm_base.specs.declared.status.TheConstants.HvStatus as statuses
use Rattle.vsm_core.specs.Blocks.{round}
use Rattle.vsm_core.specs.Calls.{first_failed}
use Rattle.vsm_core.specs.Partition.{standing, named, index_of, target_of, enable_partition_checks, enable_vp_checks, start_checks}
use Rattle.vsm_core.specs.Protection.{map_flags, modify_checks, page_refusals, config_checks, asks_for, asks_for_all}
use Rattle.vsm_core.specs.Reps.{acting, refusing}
use Rattle.vsm_core.specs.Status.{partition_status, protects, default_mask}
use Rattle.vsm_core.specs.Targets.{level_of}
use Rattle.vsm_core.specs.declared.journal.Entry.{Entry}
use Rattle.vsm_core.specs.declared.journal.Entry.TheVariants as entries
use Rattle.vsm_core.specs.declared.partition_state.Accepted.{Accepted}
use Rattle.vsm_core.specs.declared.partition_state.PartitionState.{PartitionState}
use Rattle.vsm_core.specs.declared.partition_state.Standing.{Standing}
use Rattle.vsm_core.specs.declared.request.PartCall.{PartCall}
use Rattle.vsm_core.specs.declared.request.PartCall.TheVariants.{EnablePartition, EnableVp, Start, Modify, Flush, ReadStatus, ReadConfig, WriteConfig, Fetch}
use Rattle.vsm_core.specs.declared.request.Reply.{Reply}
use Rattle.vsm_core.specs.declared.request.Request.{Request}

-- what a request comes to
pub record Service : Type 0 where
  pub block : List Entry
  pub reply : Reply
  pub after : PartitionState

-- it is refused at the element of this index: nothing changes, and the journal says why
abbrev pub refused : PartitionState → VpIndex → (done : ℕ) → HvStatus → Service
refused s by done status = record {
  block = entries.Refuse by status ∷ [];
  reply = record { status = status; done = done; value = 0; context = None };
  after = s;
}

-- the first check that fails refuses it
abbrev pub judged : PartitionState → VpIndex → (done : ℕ) → Option HvStatus → Service → Service
judged s by done None fine = fine
judged s by done (Some status) fine = refused s by done status

abbrev pub enable_partition : PartitionState → VpIndex → Service
enable_partition s by = record {
  block = entries.Enable by ∷ [];
  reply = record { status = statuses.SUCCESS; done = 0; value = 0; context = None };
  after = record s { enabled = true };
}

-- level 1's context goes to the caller by the reply, and waits for the start of any other processor
abbrev pub leveled : Bool → Standing → List ℕ → Standing
leveled own p context = record p { one = true; waiting = if own then p.waiting else Some context }

abbrev pub enable_vp : PartitionState → VpIndex → ℕ → List ℕ → Service
enable_vp s by vp context = record {
  block = entries.Level by (record { 0 = vp }) ∷ [];
  reply = record { status = statuses.SUCCESS; done = 0; value = 0; context = if vp == by.0 then Some (One, context, None) else None };
  after = record s { vps = slice_set s.vps vp (leveled (vp == by.0) (standing s vp) context) };
}

-- a start is accepted: its level and its context wait for the processor, whose start word is posted to with the entry
abbrev pub accepted : Standing → Vtl → List ℕ → Standing
accepted p level context = record p { start = Some (record { level = level; context = context }) }

abbrev pub start_vp : PartitionState → VpIndex → ℕ → Vtl → List ℕ → Service
start_vp s by vp level context = record {
  block = entries.Start by (record { 0 = vp }) level ∷ [];
  reply = record { status = statuses.SUCCESS; done = 0; value = 0; context = None };
  after = record s { vps = slice_set s.vps vp (accepted (standing s vp) level context) };
}

-- a starting processor fetches the level and the context of its start, and level 1's context that has waited, if one has; it is started then
abbrev pub fetched : Standing → Standing
fetched p = record p { started = true; start = None; waiting = None }

abbrev pub fetch : PartitionState → VpIndex → Accepted → Service
fetch s by start = record {
  block = entries.Fetch by ∷ [];
  reply = record { status = statuses.SUCCESS; done = 0; value = 0; context = Some (start.level, start.context, (standing s by.0).waiting) };
  after = record s { vps = slice_set s.vps by.0 (fetched (standing s by.0)) };
}

-- there is nothing to fetch where no start was accepted
abbrev pub fetch_of : PartitionState → VpIndex → Option Accepted → Service
fetch_of s by None = refused s by 0 statuses.INVALID_VP_STATE
fetch_of s by (Some start) = fetch s by start

-- a register of the partition that has this value is read, and nothing changes
abbrev pub look : PartitionState → VpIndex → ℕ → Service
look s by value = record {
  block = entries.Look by ∷ [];
  reply = record { status = statuses.SUCCESS; done = 1; value = value; context = None };
  after = s;
}

-- a round with these asks follows these entries, and then comes the reply
abbrev pub with_round : PartitionState → VpIndex → List Entry → List (Page × ℕ) → HvStatus → (done : ℕ) → Service
with_round s by before asks status done = record {
  block = before ++ round (length s.vps) asks (s.rounds + 1) by;
  reply = record { status = status; done = done; value = 0; context = None };
  after = record s { rounds = s.rounds + 1 };
}

-- a slice of pages from this element on, of which so many are there, and what refuses the one behind them, if there is one: the pages before it get their mask by a round, and where there are none the slice is refused
abbrev pub modify_some : PartitionState → VpIndex → (mask : ℕ) → List ℕ → (start acted : ℕ) → Option HvStatus → Service
modify_some s by mask pages start acted None = with_round s by [] (asks_for mask (take acted pages)) statuses.SUCCESS (start + acted)
modify_some s by mask pages start acted (Some status) =
    if acted == 0 then refused s by start status
    else with_round s by [] (asks_for mask (take acted pages)) status (start + acted)

abbrev pub modify : PartitionState → VpIndex → (mask : ℕ) → List ℕ → (start : ℕ) → Service
modify s by mask pages start = modify_some s by mask pages start (acting (page_refusals s.pages pages)) (refusing (page_refusals s.pages pages))

-- the configuration is written; where that turns protection on, a round gives every page its mask
abbrev pub write_config : PartitionState → VpIndex → ℕ → Service
write_config s by value =
    if not (protects s.config) && protects value
    then with_round (record s { config = value }) by (entries.Config by value ∷ []) (asks_for_all (default_mask value) s.pages) statuses.SUCCESS 1
    else record {
      block = entries.Config by value ∷ [];
      reply = record { status = statuses.SUCCESS; done = 1; value = 0; context = None };
      after = record s { config = value };
    }

abbrev pub serve_call : PartitionState → VpIndex → Vtl → PartCall → Service
serve_call s by level (EnablePartition words) = judged s by 0 (first_failed (enable_partition_checks s words)) (enable_partition s by)
serve_call s by level (EnableVp words) =
    judged s by 0 (first_failed (enable_vp_checks s by.0 level (named by.0 (index_of words)) words (drop 2 words))) (enable_vp s by (named by.0 (index_of words)) (drop 2 words))
serve_call s by level (Start words) =
    judged s by 0 (first_failed (start_checks s level (named by.0 (index_of words)) words (drop 2 words))) (start_vp s by (named by.0 (index_of words)) (level_of (target_of words)) (drop 2 words))
serve_call s by level (Modify header pages start total) = judged s by start (first_failed (modify_checks s level header)) (modify s by (map_flags header) pages.items start)
serve_call s by level (Flush total) = with_round s by [] [] statuses.SUCCESS total
serve_call s by level ReadStatus = look s by (partition_status s.enabled)
serve_call s by level ReadConfig = look s by s.config
serve_call s by level (WriteConfig value) = judged s by 0 (first_failed (config_checks s.config value)) (write_config s by value)
serve_call s by level Fetch = fetch_of s by (standing s by.0).start

abbrev pub serve : PartitionState → Request → Service
serve s r = serve_call s r.by r.level r.call

-- the entries that a request adds, its reply, and the state that it leaves
abbrev pub block : PartitionState → Request → List Entry
block s r = (serve s r).block

abbrev pub answer : PartitionState → Request → Reply
answer s r = (serve s r).reply

abbrev pub after : PartitionState → Request → PartitionState
after s r = (serve s r).after

-- requests that were served one after the other, each with the entries that it added: the state that they leave
abbrev pub state_after : PartitionState → List (Request × List Entry) → PartitionState
state_after s [] = s
state_after s (v ∷ served) = state_after (after s v.0) served

-- each added what it adds to the state that those before it leave
abbrev pub AreServed : PartitionState → List (Request × List Entry) → Type 0
AreServed s [] = Unit {0}
AreServed s (v ∷ served) = (v.1 ≡ block s v.0) × AreServed (after s v.0) served

-- the journal of them
abbrev pub joined : List (Request × List Entry) → List Entry
joined [] = []
joined (v ∷ served) = v.1 ++ joined served
