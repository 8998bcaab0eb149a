-- What a request comes to: entries, of which there is one at least, that ask and clear no more than there is, and few elements done.
use Rattle.std.proofs.Common.{◌≡◌, ◌<◌, ◌≤◌, ◌+◌, ◌==◌, ◌&&◌, ℕ, zero, suc, Bool, true, false, not, cond, nat_le, Option, Some, None, List, [], ◌∷◌, ◌++◌, map, length, take, drop, refl, length-append, arith}
use Rattle.std.specs.List.{range_with_len}
use Rattle.std.proofs.lemmas.Bool.Decides.{nat_tests}
use Rattle.std.proofs.lemmas.List.{length-map}
use Rattle.vsm_base.specs.declared.places.Page.{Page}
use Rattle.vsm_base.specs.declared.places.VpIndex.{VpIndex}
use Rattle.vsm_base.specs.declared.places.Vtl.{Vtl}
use Rattle.vsm_base.specs.declared.status.HvStatus.{HvStatus}
use Rattle.vsm_base.specs.declared.status.TheConstants.HvStatus as statuses
use Rattle.vsm_core.specs.declared.journal.Entry.{Entry}
use Rattle.vsm_core.specs.declared.journal.Entry.TheVariants as entries
use Rattle.vsm_core.specs.declared.partition_state.Accepted.{Accepted}
use Rattle.vsm_core.specs.declared.partition_state.PartitionState.{PartitionState}
use Rattle.vsm_core.specs.declared.request.PartCall.{PartCall}
use Rattle.vsm_core.specs.declared.request.PartCall.TheVariants.{EnablePartition, EnableVp, Start, Modify, Flush, ReadStatus, ReadConfig, WriteConfig, Fetch}
use Rattle.vsm_core.specs.declared.request.Request.{Request}
use Rattle.vsm_core.specs.Blocks.{ask, clear, round}
use Rattle.vsm_core.specs.Calls.{first_failed}
use Rattle.vsm_core.specs.Partition.{standing, named, index_of, target_of, enable_partition_checks, enable_vp_checks, start_checks}
use Rattle.vsm_core.specs.Protection.{IsSlice, map_flags, modify_checks, page_refusal, page_refusals, config_checks, asks_for, asks_for_all}
use Rattle.vsm_core.specs.Reps.{acting, refusing}
use Rattle.vsm_core.specs.Served.{Service, refused, judged, enable_partition, enable_vp, start_vp, fetch_of, with_round, modify_some, modify, write_config, serve_call, serve}
use Rattle.vsm_core.specs.Status.{protects, default_mask}
use Rattle.vsm_core.specs.Targets.{level_of}

-- a page that an entry asks for, and a processor that it clears, are among so many
abbrev pub Reaches : (vps pages : ℕ) → Entry → Type 0
Reaches vps pages (entries.Ask page mask) = page.0 < pages
Reaches vps pages (entries.Clear vp) = vp.0 < vps
Reaches vps pages _ = Unit {0}

abbrev pub AllReach : (vps pages : ℕ) → List Entry → Type 0
AllReach vps pages [] = Unit {0}
AllReach vps pages (e ∷ es) = Reaches vps pages e × AllReach vps pages es

pub record IsServable (s : PartitionState) (o : Service) : Type 0 where
  pub some : 1 ≤ length o.block
  pub reach : AllReach (length s.vps) s.pages o.block
  pub done : o.reply.done < 4096

module _ (vps pages : ℕ) where
  reach-append : (xs ys : List Entry) → AllReach vps pages xs → AllReach vps pages ys → AllReach vps pages (xs ++ ys)
  reach-append [] ys h g = g
  reach-append (x ∷ xs) ys h g = (h.0, reach-append xs ys h.1 g)

  clears-reach : (at n : ℕ) → at + n ≤ vps → AllReach vps pages (map clear (range_with_len at n))
  clears-reach at zero le = tt
  clears-reach at (suc n) le = (omega arith, clears-reach (at + 1) n (omega arith))

  round-reach : (asks : List (Page × ℕ)) (k : ℕ) (by : VpIndex) → AllReach vps pages (map ask asks) → AllReach vps pages (round vps asks k by)
  round-reach asks k by h =
      reach-append (map ask asks) _ h (tt, reach-append (map clear (range_with_len 0 vps)) (entries.Report k ∷ []) (clears-reach 0 vps (omega arith)) (tt, tt))

  run-reach : (mask at n : ℕ) → at + n ≤ pages → AllReach vps pages (map ask (asks_for mask (range_with_len at n)))
  run-reach mask at zero le = tt
  run-reach mask at (suc n) le = (omega arith, run-reach mask (at + 1) n (omega arith))

  page-reach : (page : ℕ) → page_refusal pages page ≡ None → page < pages
  page-reach page e = go (nat_le pages page) refl e where
    go : (b : Bool) → nat_le pages page ≡ b → first_failed (record { fails = b; status = statuses.INVALID_PARAMETER } ∷ []) ≡ None → page < pages
    go true is e = cc
    go false is e = grind (arith, nat_tests)

  acting-reach : (mask : ℕ) (elements : List ℕ) → AllReach vps pages (map ask (asks_for mask (take (acting (page_refusals pages elements)) elements)))
  acting-reach mask [] = tt
  acting-reach mask (page ∷ elements) = go (page_refusal pages page) refl (acting-reach mask elements) where
    go : (refusal : Option HvStatus) → page_refusal pages page ≡ refusal → AllReach vps pages (map ask (asks_for mask (take (acting (page_refusals pages elements)) elements))) → AllReach vps pages (map ask (asks_for mask (take (acting (refusal ∷ page_refusals pages elements)) (page ∷ elements))))
    go None e more = (page-reach page e, more)
    go (Some status) e more = tt

acting-few : (refusals : List (Option HvStatus)) → acting refusals ≤ length refusals
acting-few [] = omega arith
acting-few (None ∷ refusals) = let le = acting-few refusals in omega arith
acting-few (Some status ∷ refusals) = omega arith

some-round : (vps : ℕ) (asks : List (Page × ℕ)) (k : ℕ) (by : VpIndex) → 1 ≤ length (round vps asks k by)
some-round vps asks k by = omega (arith, length-append (map ask asks) (entries.Turn k by ∷ (map clear (range_with_len 0 vps) ++ entries.Report k ∷ [])))

refused-fine : (s : PartitionState) (by : VpIndex) (done : ℕ) (status : HvStatus) → done < 4096 → IsServable s (refused s by done status)
refused-fine s by done status few = record { some = omega arith; reach = (tt, tt); done = few }

judged-fine : (s : PartitionState) (by : VpIndex) (done : ℕ) (refusal : Option HvStatus) (fine : Service) → done < 4096 → IsServable s fine → IsServable s (judged s by done refusal fine)
judged-fine s by done None fine few h = h
judged-fine s by done (Some status) fine few h = refused-fine s by done status few

round-fine : (s : PartitionState) (by : VpIndex) (asks : List (Page × ℕ)) (status : HvStatus) (done : ℕ) → AllReach (length s.vps) s.pages (map ask asks) → done < 4096 → IsServable s (with_round s by [] asks status done)
round-fine s by asks status done reach few =
    record { some = some-round (length s.vps) asks (s.rounds + 1) by; reach = round-reach (length s.vps) s.pages asks (s.rounds + 1) by reach; done = few }

modify_some-fine : (s : PartitionState) (by : VpIndex) (mask : ℕ) (pages : List ℕ) (start acted : ℕ) (refusal : Option HvStatus) → AllReach (length s.vps) s.pages (map ask (asks_for mask (take acted pages))) → start + acted < 4096 → IsServable s (modify_some s by mask pages start acted refusal)
modify_some-fine s by mask pages start acted None reach few = round-fine s by (asks_for mask (take acted pages)) statuses.SUCCESS (start + acted) reach few
modify_some-fine s by mask pages start acted (Some status) reach few = either (acted == 0) where
  either : (b : Bool) → IsServable s (cond b (refused s by start status) (with_round s by [] (asks_for mask (take acted pages)) status (start + acted)))
  either true = refused-fine s by start status (omega arith)
  either false = round-fine s by (asks_for mask (take acted pages)) status (start + acted) reach few

modify-fine : (s : PartitionState) (by : VpIndex) (mask : ℕ) (pages : List ℕ) (start : ℕ) → start + length pages < 4096 → IsServable s (modify s by mask pages start)
modify-fine s by mask pages start few =
    let acted = acting (page_refusals s.pages pages) in
    let le = acting-few (page_refusals s.pages pages) in
    let many = length-map pages (page_refusal s.pages) in
    modify_some-fine s by mask pages start acted (refusing (page_refusals s.pages pages)) (acting-reach (length s.vps) s.pages mask pages) (omega arith)

write_config-fine : (s : PartitionState) (by : VpIndex) (value : ℕ) → IsServable s (write_config s by value)
write_config-fine s by value = either (not (protects s.config) && protects value) where
  asks : List (Page × ℕ)
  asks = asks_for_all (default_mask value) s.pages

  alone : Service
  alone = record { block = entries.Config by value ∷ []; reply = record { status = statuses.SUCCESS; done = 1; value = 0; context = None }; after = record s { config = value } }

  either : (b : Bool) → IsServable s (cond b (with_round (record s { config = value }) by (entries.Config by value ∷ []) asks statuses.SUCCESS 1) alone)
  either true = record { some = omega arith; reach = (tt, round-reach (length s.vps) s.pages asks (s.rounds + 1) by (run-reach (length s.vps) s.pages (default_mask value) 0 s.pages (omega arith))); done = omega arith }
  either false = record { some = omega arith; reach = (tt, tt); done = omega arith }

fetch-fine : (s : PartitionState) (by : VpIndex) (start : Option Accepted) → IsServable s (fetch_of s by start)
fetch-fine s by None = refused-fine s by 0 statuses.INVALID_VP_STATE (omega arith)
fetch-fine s by (Some start) = record { some = omega arith; reach = (tt, tt); done = omega arith }

call-fine : (s : PartitionState) (by : VpIndex) (level : Vtl) (call : PartCall) → IsSlice call → IsServable s (serve_call s by level call)
call-fine s by level (EnablePartition words) slice =
    judged-fine s by 0 (first_failed (enable_partition_checks s words)) (enable_partition s by) (omega arith) (record { some = omega arith; reach = (tt, tt); done = omega arith })
call-fine s by level (EnableVp words) slice =
    let vp = named by.0 (index_of words) in
    judged-fine s by 0 (first_failed (enable_vp_checks s by.0 level vp words (drop 2 words))) (enable_vp s by vp (drop 2 words)) (omega arith) (record { some = omega arith; reach = (tt, tt); done = omega arith })
call-fine s by level (Modify header pages start total) slice =
    let within = slice.1 in let few = slice.2 in
    judged-fine s by start (first_failed (modify_checks s level header)) (modify s by (map_flags header) pages.items start) (omega arith) (modify-fine s by (map_flags header) pages.items start (omega arith))
call-fine s by level (Flush total) slice = round-fine s by [] statuses.SUCCESS total tt slice
call-fine s by level ReadStatus slice = record { some = omega arith; reach = (tt, tt); done = omega arith }
call-fine s by level ReadConfig slice = record { some = omega arith; reach = (tt, tt); done = omega arith }
call-fine s by level (WriteConfig value) slice = judged-fine s by 0 (first_failed (config_checks s.config value)) (write_config s by value) (omega arith) (write_config-fine s by value)
call-fine s by level (Start words) slice =
    let vp = named by.0 (index_of words) in
    judged-fine s by 0 (first_failed (start_checks s level vp words (drop 2 words))) (start_vp s by vp (level_of (target_of words)) (drop 2 words)) (omega arith) (record { some = omega arith; reach = (tt, tt); done = omega arith })
call-fine s by level Fetch slice = fetch-fine s by (standing s by.0).start

pub servable : (s : PartitionState) (r : Request) → IsSlice r.call → IsServable s (serve s r)
servable s r slice = call-fine s r.by r.level r.call slice
