-- How many entries a request adds to the journal.
use Rattle.std.proofs.Common.{◌≡◌, ◌≤◌, ◌+◌, ◌==◌, ◌&&◌, ℕ, Bool, true, false, not, cond, Option, Some, None, List, [], ◌∷◌, ◌++◌, map, length, drop, take, refl, arith, length-append, length-take}
use Rattle.std.proofs.lemmas.List.{length-map}
use Rattle.std.proofs.lemmas.List.FromFn.{length-map-range_with_len, length-range_with_len}
use Rattle.std.specs.List.{range_with_len}
use Rattle.vsm_base.specs.declared.places.Page.{Page}
use Rattle.vsm_base.specs.declared.places.VpIndex.{VpIndex}
use Rattle.vsm_base.specs.declared.places.Vtl.{Vtl}
use Rattle.vsm_base.specs.declared.status.HvStatus.{HvStatus}
use Rattle.vsm_base.specs.declared.status.TheConstants.HvStatus as statuses
use Rattle.vsm_core.specs.Blocks.{ask, clear, round}
use Rattle.vsm_core.specs.Calls.{first_failed}
use Rattle.vsm_core.specs.Partition.{standing, named, index_of, target_of, enable_partition_checks, enable_vp_checks, start_checks}
use Rattle.vsm_core.specs.Protection.{IsSlice, owed, map_flags, modify_checks, page_refusals, config_checks, ask_of, asks_for, asks_for_all}
use Rattle.vsm_core.specs.Reps.{acting, refusing}
use Rattle.vsm_core.specs.Served.{Service, refused, judged, enable_partition, enable_vp, start_vp, fetch_of, with_round, modify, modify_some, write_config, serve_call, serve}
use Rattle.vsm_core.specs.Status.{protects, default_mask}
use Rattle.vsm_core.specs.Targets.{level_of}
use Rattle.vsm_core.specs.declared.journal.Entry.TheVariants as entries
use Rattle.vsm_core.specs.declared.partition_state.Accepted.{Accepted}
use Rattle.vsm_core.specs.declared.partition_state.PartitionState.{PartitionState}
use Rattle.vsm_core.specs.declared.request.PartCall.{PartCall}
use Rattle.vsm_core.specs.declared.request.PartCall.TheVariants.{EnablePartition, EnableVp, Start, Modify, Flush, ReadStatus, ReadConfig, WriteConfig, Fetch}
use Rattle.vsm_core.specs.declared.request.Request.{Request}
use Rattle.vsm_core.proofs.ServedBlocks.{config-keeps}

pub length-round : (vps : ℕ) (asks : List (Page × ℕ)) (k : ℕ) (by : VpIndex) → length (round vps asks k by) ≡ length asks + vps + 2
length-round vps asks k by =
    let clears = map clear (range_with_len 0 vps) ++ entries.Report k ∷ [] in
    omega (arith, length-append (map ask asks) (entries.Turn k by ∷ clears), length-map asks ask, length-append (map clear (range_with_len 0 vps)) (entries.Report k ∷ []), length-map-range_with_len clear 0 vps)

pub length-asks : (mask : ℕ) (pages : List ℕ) → length (asks_for mask pages) ≡ length pages
length-asks mask pages = length-map pages (ask_of mask)

-- the masks that protection still owes are paid by the entries that turn it on
abbrev pub IsFew : PartitionState → Service → Type 0
IsFew s o = length o.block + owed o.after ≤ length s.vps + 11 + owed s

refused-few : (s : PartitionState) (by : VpIndex) (done : ℕ) (status : HvStatus) → IsFew s (refused s by done status)
refused-few s by done status = omega arith

judged-few : (s : PartitionState) (by : VpIndex) (done : ℕ) (refusal : Option HvStatus) (fine : Service) → IsFew s fine → IsFew s (judged s by done refusal fine)
judged-few s by done None fine h = h
judged-few s by done (Some status) fine h = refused-few s by done status

round-few : (s : PartitionState) (by : VpIndex) (asks : List (Page × ℕ)) (status : HvStatus) (done : ℕ) → length asks ≤ 8 → IsFew s (with_round s by [] asks status done)
round-few s by asks status done h = omega (arith, length-round (length s.vps) asks (s.rounds + 1) by)

few-asks : (mask acted : ℕ) (pages : List ℕ) → length pages ≤ 8 → length (asks_for mask (take acted pages)) ≤ 8
few-asks mask acted pages h = omega (arith, length-asks mask (take acted pages), length-take acted pages)

either-few : (none : Bool) (s : PartitionState) (by : VpIndex) (asks : List (Page × ℕ)) (start done : ℕ) (status : HvStatus) → length asks ≤ 8 → IsFew s (cond none (refused s by start status) (with_round s by [] asks status done))
either-few true s by asks start done status h = refused-few s by start status
either-few false s by asks start done status h = round-few s by asks status done h

some-few : (s : PartitionState) (by : VpIndex) (mask : ℕ) (pages : List ℕ) (start acted : ℕ) (refusal : Option HvStatus) → length pages ≤ 8 → IsFew s (modify_some s by mask pages start acted refusal)
some-few s by mask pages start acted None h = round-few s by (asks_for mask (take acted pages)) statuses.SUCCESS (start + acted) (few-asks mask acted pages h)
some-few s by mask pages start acted (Some status) h = either-few (acted == 0) s by (asks_for mask (take acted pages)) start (start + acted) status (few-asks mask acted pages h)

-- what is owed before and after a configuration
owed-first : (on new : Bool) (pages : ℕ) → (not on && new) ≡ true → cond new 0 pages + pages ≤ cond on 0 pages
owed-first true new pages h = cc
owed-first false true pages h = omega arith
owed-first false false pages h = cc

owed-same : (on new : Bool) (pages : ℕ) → (not on && new) ≡ false → (on && not new) ≡ false → cond new 0 pages ≤ cond on 0 pages
owed-same true true pages h g = omega arith
owed-same true false pages h g = cc
owed-same false true pages h g = cc
owed-same false false pages h g = omega arith

config-few : (first : Bool) (s : PartitionState) (by : VpIndex) (value : ℕ)
    → (not (protects s.config) && protects value) ≡ first → (protects s.config && not (protects value)) ≡ false
    → IsFew s (cond first (with_round (record s { config = value }) by (entries.Config by value ∷ []) (asks_for_all (default_mask value) s.pages) statuses.SUCCESS 1)
    (record { block = entries.Config by value ∷ []; reply = record { status = statuses.SUCCESS; done = 1; value = 0; context = None }; after = record s { config = value } }))
config-few true s by value is keeps =
    let asks : List (Page × ℕ) = asks_for_all (default_mask value) s.pages in
    omega (arith, length-round (length s.vps) asks (s.rounds + 1) by, length-asks (default_mask value) (range_with_len 0 s.pages), length-range_with_len 0 s.pages, owed-first (protects s.config) (protects value) s.pages is)
config-few false s by value is keeps = omega (arith, owed-same (protects s.config) (protects value) s.pages is keeps)

write-few : (s : PartitionState) (by : VpIndex) (value : ℕ) (refusal : Option HvStatus) → first_failed (config_checks s.config value) ≡ refusal → IsFew s (judged s by 0 refusal (write_config s by value))
write-few s by value None is = config-few (not (protects s.config) && protects value) s by value refl (config-keeps s.config value is)
write-few s by value (Some status) is = refused-few s by 0 status

start-few : (s : PartitionState) (by : VpIndex) (vp : ℕ) (level : Vtl) (context : List ℕ) → IsFew s (start_vp s by vp level context)
start-few s by vp level context = omega arith

fetch-few : (s : PartitionState) (by : VpIndex) (start : Option Accepted) → IsFew s (fetch_of s by start)
fetch-few s by None = refused-few s by 0 statuses.INVALID_VP_STATE
fetch-few s by (Some start) = omega arith

call-few : (s : PartitionState) (by : VpIndex) (level : Vtl) (call : PartCall) → IsSlice call → IsFew s (serve_call s by level call)
call-few s by level (EnablePartition words) slice = judged-few s by 0 (first_failed (enable_partition_checks s words)) (enable_partition s by) (omega arith)
call-few s by level (EnableVp words) slice =
    let vp = named by.0 (index_of words) in
    judged-few s by 0 (first_failed (enable_vp_checks s by.0 level vp words (drop 2 words))) (enable_vp s by vp (drop 2 words)) (omega arith)
call-few s by level (Start words) slice =
    let vp = named by.0 (index_of words) in
    judged-few s by 0 (first_failed (start_checks s level vp words (drop 2 words))) (start_vp s by vp (level_of (target_of words)) (drop 2 words)) (start-few s by vp (level_of (target_of words)) (drop 2 words))
call-few s by level (Modify header pages start total) slice =
    let refusals = page_refusals s.pages pages.items in
    judged-few s by start (first_failed (modify_checks s level header)) (modify s by (map_flags header) pages.items start)
    (some-few s by (map_flags header) pages.items start (acting refusals) (refusing refusals) slice.0)
call-few s by level (Flush total) slice = round-few s by [] statuses.SUCCESS total (omega arith)
call-few s by level ReadStatus slice = omega arith
call-few s by level ReadConfig slice = omega arith
call-few s by level (WriteConfig value) slice = write-few s by value (first_failed (config_checks s.config value)) refl
call-few s by level Fetch slice = fetch-few s by (standing s by.0).start

pub few-entries : (s : PartitionState) (r : Request) → IsSlice r.call → IsFew s (serve s r)
few-entries s r slice = call-few s r.by r.level r.call slice
