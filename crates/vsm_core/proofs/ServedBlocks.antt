-- The journal of requests that were served one after the other is whole.
use Rattle.std.proofs.Common.{◌≡◌, ◌∙◌, ◌+◌, ◌==◌, ◌&&◌, ◌||◌, ℕ, zero, suc, Bool, true, false, not, cond, Option, Some, None, List, [], ◌∷◌, ◌++◌, map, length, drop, take, refl, sym, ap}
use Rattle.std.proofs.Math.ListN.{length-set}
use Rattle.std.specs.List.{range_with_len, fold}
use Rattle.vsm_base.specs.declared.places.Page.{Page}
use Rattle.vsm_base.specs.declared.places.VpIndex.{VpIndex}
use Rattle.vsm_base.specs.declared.places.Vtl.{Vtl}
use Rattle.vsm_base.specs.declared.status.HvStatus.{HvStatus}
use Rattle.vsm_base.specs.declared.status.TheConstants.HvStatus as statuses
use Rattle.vsm_core.specs.Blocks.{IsBlock, AreBlocks, IsWhole, ask, clear, round, join, rounds_after, on_after}
use Rattle.vsm_core.specs.Calls.{first_failed}
use Rattle.vsm_core.specs.Partition.{standing, named, index_of, target_of, enable_partition_checks, enable_vp_checks, start_checks}
use Rattle.vsm_core.specs.Protection.{map_flags, modify_checks, page_refusals, config_checks, asks_for, asks_for_all}
use Rattle.vsm_core.specs.Reps.{acting, refusing}
use Rattle.vsm_core.specs.Served.{Service, refused, judged, enable_partition, enable_vp, start_vp, fetch_of, with_round, modify, modify_some, write_config, serve_call, serve, after, AreServed, joined}
use Rattle.vsm_core.specs.Status.{protects, default_mask}
use Rattle.vsm_core.specs.Targets.{level_of}
use Rattle.vsm_core.specs.declared.journal.Entry.{Entry}
use Rattle.vsm_core.specs.declared.journal.Entry.TheVariants as entries
use Rattle.vsm_core.specs.declared.partition_state.Accepted.{Accepted}
use Rattle.vsm_core.specs.declared.partition_state.PartitionState.{PartitionState}
use Rattle.vsm_core.specs.declared.request.PartCall.{PartCall}
use Rattle.vsm_core.specs.declared.request.PartCall.TheVariants.{EnablePartition, EnableVp, Start, Modify, Flush, ReadStatus, ReadConfig, WriteConfig, Fetch}
use Rattle.vsm_core.specs.declared.request.Request.{Request}
use Rattle.vsm_core.proofs.Checks.{none-fails}

-- what a request leaves: its entries are a block, after which the partition counts the rounds and knows of the protection
pub record IsLawful (s : PartitionState) (o : Service) : Type 0 where
  pub block : IsBlock (length s.vps) (protects s.config) s.rounds o.block
  pub rounds : fold rounds_after s.rounds o.block ≡ o.after.rounds
  pub on : fold on_after (protects s.config) o.block ≡ protects o.after.config
  pub vps : length o.after.vps ≡ length s.vps
  pub pages : o.after.pages ≡ s.pages

-- a round counts as one, and protection stays
pub rounds-asks : (n : ℕ) (asks : List (Page × ℕ)) (es : List Entry) → fold rounds_after n (map ask asks ++ es) ≡ fold rounds_after n es
rounds-asks n [] es = refl
rounds-asks n (a ∷ asks) es = rounds-asks n asks es

pub rounds-clears : (n at count : ℕ) (es : List Entry) → fold rounds_after n (map clear (range_with_len at count) ++ es) ≡ fold rounds_after n es
rounds-clears n at zero es = refl
rounds-clears n at (suc count) es = rounds-clears n (at + 1) count es

pub rounds-round : (n vps : ℕ) (asks : List (Page × ℕ)) (k : ℕ) (by : VpIndex) → fold rounds_after n (round vps asks k by) ≡ n + 1
rounds-round n vps asks k by = rounds-asks n asks _ ∙ rounds-clears n 0 vps (entries.Report k ∷ [])

pub on-asks : (on : Bool) (asks : List (Page × ℕ)) (es : List Entry) → fold on_after on (map ask asks ++ es) ≡ fold on_after on es
on-asks on [] es = refl
on-asks on (a ∷ asks) es = on-asks on asks es

pub on-clears : (on : Bool) (at count : ℕ) (es : List Entry) → fold on_after on (map clear (range_with_len at count) ++ es) ≡ fold on_after on es
on-clears on at zero es = refl
on-clears on at (suc count) es = on-clears on (at + 1) count es

pub on-round : (on : Bool) (vps : ℕ) (asks : List (Page × ℕ)) (k : ℕ) (by : VpIndex) → fold on_after on (round vps asks k by) ≡ on
on-round on vps asks k by = on-asks on asks _ ∙ on-clears on 0 vps (entries.Report k ∷ [])

round-block : (vps : ℕ) (on : Bool) (rounds : ℕ) (asks : List (Page × ℕ)) (by : VpIndex) → IsBlock vps on rounds (round vps asks (rounds + 1) by)
round-block vps on rounds [] by = ([], by, refl)
round-block vps on rounds (a ∷ asks) by = (a ∷ asks, by, refl)

round-lawful : (s : PartitionState) (by : VpIndex) (asks : List (Page × ℕ)) (status : HvStatus) (done : ℕ) → IsLawful s (with_round s by [] asks status done)
round-lawful s by asks status done = record {
  block = round-block (length s.vps) (protects s.config) s.rounds asks by;
  rounds = rounds-round s.rounds (length s.vps) asks (s.rounds + 1) by;
  on = on-round (protects s.config) (length s.vps) asks (s.rounds + 1) by;
  vps = refl;
  pages = refl;
}

refused-lawful : (s : PartitionState) (by : VpIndex) (done : ℕ) (status : HvStatus) → IsLawful s (refused s by done status)
refused-lawful s by done status = record { block = refl; rounds = refl; on = refl; vps = refl; pages = refl }

judged-lawful : (s : PartitionState) (by : VpIndex) (done : ℕ) (refusal : Option HvStatus) (fine : Service) → IsLawful s fine → IsLawful s (judged s by done refusal fine)
judged-lawful s by done None fine h = h
judged-lawful s by done (Some status) fine h = refused-lawful s by done status

-- a slice of pages
either-lawful : (none : Bool) (s : PartitionState) (by : VpIndex) (asks : List (Page × ℕ)) (start done : ℕ) (status : HvStatus) → IsLawful s (cond none (refused s by start status) (with_round s by [] asks status done))
either-lawful true s by asks start done status = refused-lawful s by start status
either-lawful false s by asks start done status = round-lawful s by asks status done

some-lawful : (s : PartitionState) (by : VpIndex) (mask : ℕ) (pages : List ℕ) (start acted : ℕ) (refusal : Option HvStatus) → IsLawful s (modify_some s by mask pages start acted refusal)
some-lawful s by mask pages start acted None = round-lawful s by (asks_for mask (take acted pages)) statuses.SUCCESS (start + acted)
some-lawful s by mask pages start acted (Some status) = either-lawful (acted == 0) s by (asks_for mask (take acted pages)) start (start + acted) status

-- a configuration that isn't refused keeps protection
still-on : (on new : Bool) → (on && not new) ≡ false → (on || new) ≡ new
still-on true true h = refl
still-on true false h = cc
still-on false new h = refl

config-lawful : (first : Bool) (s : PartitionState) (by : VpIndex) (value : ℕ)
    → (not (protects s.config) && protects value) ≡ first → (protects s.config && not (protects value)) ≡ false
    → IsLawful s (cond first (with_round (record s { config = value }) by (entries.Config by value ∷ []) (asks_for_all (default_mask value) s.pages) statuses.SUCCESS 1)
    (record { block = entries.Config by value ∷ []; reply = record { status = statuses.SUCCESS; done = 1; value = 0; context = None }; after = record s { config = value } }))
config-lawful true s by value is keeps =
    let asks : List (Page × ℕ) = asks_for_all (default_mask value) s.pages in
    record {
      block = rw is (asks, by, refl);
      rounds = rounds-round s.rounds (length s.vps) asks (s.rounds + 1) by;
      on = on-round _ (length s.vps) asks (s.rounds + 1) by ∙ still-on (protects s.config) (protects value) keeps;
      vps = refl;
      pages = refl;
    }
config-lawful false s by value is keeps = record {
  block = rw is refl;
  rounds = refl;
  on = still-on (protects s.config) (protects value) keeps;
  vps = refl;
  pages = refl;
}

-- protection isn't turned off by a configuration that no check refuses
pub config-keeps : (config value : ℕ) → first_failed (config_checks config value) ≡ None → (protects config && not (protects value)) ≡ false
config-keeps config value none = (none-fails (config_checks config value) none).1.1.0

write-lawful : (s : PartitionState) (by : VpIndex) (value : ℕ) (refusal : Option HvStatus) → first_failed (config_checks s.config value) ≡ refusal → IsLawful s (judged s by 0 refusal (write_config s by value))
write-lawful s by value None is = config-lawful (not (protects s.config) && protects value) s by value refl (config-keeps s.config value is)
write-lawful s by value (Some status) is = refused-lawful s by 0 status

fetch-lawful : (s : PartitionState) (by : VpIndex) (start : Option Accepted) → IsLawful s (fetch_of s by start)
fetch-lawful s by None = refused-lawful s by 0 statuses.INVALID_VP_STATE
fetch-lawful s by (Some start) = record { block = refl; rounds = refl; on = refl; vps = length-set s.vps by.0 _; pages = refl }

call-lawful : (s : PartitionState) (by : VpIndex) (level : Vtl) (call : PartCall) → IsLawful s (serve_call s by level call)
call-lawful s by level (EnablePartition words) =
    judged-lawful s by 0 (first_failed (enable_partition_checks s words)) (enable_partition s by) (record { block = refl; rounds = refl; on = refl; vps = refl; pages = refl })
call-lawful s by level (EnableVp words) =
    let vp = named by.0 (index_of words) in
    judged-lawful s by 0 (first_failed (enable_vp_checks s by.0 level vp words (drop 2 words))) (enable_vp s by vp (drop 2 words)) (record { block = refl; rounds = refl; on = refl; vps = length-set s.vps vp _; pages = refl })
call-lawful s by level (Start words) =
    let vp = named by.0 (index_of words) in
    judged-lawful s by 0 (first_failed (start_checks s level vp words (drop 2 words))) (start_vp s by vp (level_of (target_of words)) (drop 2 words)) (record { block = refl; rounds = refl; on = refl; vps = length-set s.vps vp _; pages = refl })
call-lawful s by level (Modify header pages start total) =
    let refusals = page_refusals s.pages pages.items in
    judged-lawful s by start (first_failed (modify_checks s level header)) (modify s by (map_flags header) pages.items start)
    (some-lawful s by (map_flags header) pages.items start (acting refusals) (refusing refusals))
call-lawful s by level (Flush total) = round-lawful s by [] statuses.SUCCESS total
call-lawful s by level ReadStatus = record { block = refl; rounds = refl; on = refl; vps = refl; pages = refl }
call-lawful s by level ReadConfig = record { block = refl; rounds = refl; on = refl; vps = refl; pages = refl }
call-lawful s by level (WriteConfig value) = write-lawful s by value (first_failed (config_checks s.config value)) refl
call-lawful s by level Fetch = fetch-lawful s by (standing s by.0).start

pub lawful : (s : PartitionState) (r : Request) → IsLawful s (serve s r)
lawful s r = call-lawful s r.by r.level r.call

join-served : (served : List (Request × List Entry)) → join (map (λ (v : Request × List Entry). v.1) served) ≡ joined served
join-served [] = refl
join-served (v ∷ served) = ap (λ es. v.1 ++ es) (join-served served)

blocks-along : (n m : ℕ) (on was : Bool) (rounds before : ℕ) (bs : List (List Entry)) → m ≡ n → on ≡ was → rounds ≡ before → AreBlocks m was before bs → AreBlocks n on rounds bs
blocks-along n m on was rounds before bs p q r h = rw (← p, q, r) h

pub served-blocks : (s : PartitionState) (served : List (Request × List Entry)) → AreServed s served → AreBlocks (length s.vps) (protects s.config) s.rounds (map (λ (v : Request × List Entry). v.1) served)
served-blocks s [] h = tt
served-blocks s (v ∷ served) h =
    let w = lawful s v.0 in
    rw h.0 (w.block, blocks-along _ _ _ _ _ _ _ w.vps w.on w.rounds (served-blocks (after s v.0) served h.1))

pub served-whole : (s : PartitionState) (served : List (Request × List Entry)) → protects s.config ≡ false → s.rounds ≡ 0 → AreServed s served → IsWhole (length s.vps) (joined served)
served-whole s served off none h =
    (map (λ (v : Request × List Entry). v.1) served, blocks-along _ _ _ _ _ _ _ refl (sym off) (sym none) (served-blocks s served h), join-served served)
