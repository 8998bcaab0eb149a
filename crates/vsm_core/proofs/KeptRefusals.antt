-- What a refused hypercall keeps.
use Rattle.std.proofs.Common.{◌≡◌, ◌≢◌, ◌⊎◌, inl, inr, ◌∙◌, ◌+◌, ◌==◌, ◌&&◌, ℕ, zero, suc, Bool, true, false, not, cond, Option, Some, None, List, [], ◌∷◌, length, take, drop, refl, arith}
use Rattle.std.proofs.lemmas.Bool.Decides.{nat_tests}
use Rattle.vsm_base.specs.declared.name.Name.TheVariants as names
use Rattle.vsm_base.specs.declared.places.Page.{Page}
use Rattle.vsm_base.specs.declared.places.VpIndex.{VpIndex}
use Rattle.vsm_base.specs.declared.places.Vtl.{Vtl}
use Rattle.vsm_base.specs.declared.status.HvStatus.{HvStatus}
use Rattle.vsm_base.specs.declared.status.TheConstants.HvStatus as statuses
use Rattle.vsm_core.specs.declared.journal.Entry.TheVariants as entries
use Rattle.vsm_core.specs.declared.partition_state.Accepted.{Accepted}
use Rattle.vsm_core.specs.declared.partition_state.PartitionState.{PartitionState}
use Rattle.vsm_core.specs.declared.request.PartCall.{PartCall}
use Rattle.vsm_core.specs.declared.request.PartCall.TheVariants.{EnablePartition, EnableVp, Start, Modify, Flush, ReadStatus, ReadConfig, WriteConfig, Fetch}
use Rattle.vsm_core.specs.declared.request.Reply.{Reply}
use Rattle.vsm_core.specs.declared.request.Request.{Request}
use Rattle.vsm_core.specs.Attempt.{served}
use Rattle.vsm_core.specs.Blocks.{round}
use Rattle.vsm_core.specs.Calls.{first_failed, result_value}
use Rattle.vsm_core.specs.Fills.{Cached}
use Rattle.vsm_core.specs.Hypercalls.{refused_call, replied, result_with}
use Rattle.vsm_core.specs.Keeps.{KeepsTheRest, RefusesAll, RefusesRest, asks_of}
use Rattle.vsm_core.specs.Outcomes.{Origin}
use Rattle.vsm_core.specs.Partition.{standing, named, index_of, target_of, enable_partition_checks, enable_vp_checks, start_checks}
use Rattle.vsm_core.specs.Protection.{map_flags, modify_checks, page_refusal, page_refusals, config_checks, asks_for}
use Rattle.vsm_core.specs.RegisterCalls.{count_of, slice_outcome}
use Rattle.vsm_core.specs.Reps.{Refused, acting, refusing, unrefused_end, replied_end}
use Rattle.vsm_core.specs.Served.{Service, refused, judged, enable_partition, enable_vp, start_vp, fetch_of, with_round, modify, modify_some, write_config, serve_call, serve}
use Rattle.vsm_core.specs.State.{State, put_legal}
use Rattle.vsm_core.specs.Status.{protects}
use Rattle.vsm_core.specs.Targets.{level_of}
use Rattle.vsm_core.proofs.KeptLevels.{stays-then, put_legal-stays, gone_on-stays}
use Rattle.vsm_core.proofs.KeptRegisters.{gone_on-keeps, put_legal-rax}

-- a call's result keeps the rest of the state that it is given in
pub result-keeps : (from : Origin) (state : State) (does : List Cached) (status : HvStatus) (done : ℕ) → KeepsTheRest (record from { state = state }) (result_with from state does status done)
result-keeps from state does status done =
    let value = result_value status done in
    let given : State = put_legal state names.Rax value in
    let stays = stays-then state given _ (put_legal-stays state names.Rax value) (gone_on-stays given) in
    let at = (put_legal-stays state names.Rax value).active in
    record {
      registers = λ level name not_rip not_rax. gone_on-keeps given level name (λ e. not_rip (e.0 ∙ at, e.1)) ∙ put_legal-rax state value level name not_rax;
      active = stays.active;
      enabled = stays.enabled;
      controllers = refl;
    }

pub refused-call-keeps : (from : Origin) (status : HvStatus) → KeepsTheRest from (refused_call from status)
refused-call-keeps from status = result-keeps from from.state [] status 0

-- a request that is refused, and nothing of it is done
pub record IsRefusal (s : PartitionState) (by : VpIndex) (o : Service) : Type 0 where
  pub after : o.after ≡ s
  pub block : o.block ≡ entries.Refuse by o.reply.status ∷ []
  pub context : o.reply.context ≡ None

-- one whose first pages got their masks by a round of these asks
pub record IsRest (s : PartitionState) (by : VpIndex) (asks : List (Page × ℕ)) (o : Service) : Type 0 where
  pub some : asks ≢ []
  pub after : o.after ≡ record s { rounds = s.rounds + 1 }
  pub block : o.block ≡ round (length s.vps) asks (s.rounds + 1) by
  pub context : o.reply.context ≡ None

abbrev Refuses : PartitionState → VpIndex → List (Page × ℕ) → Service → Type 0
Refuses s by asks o = IsRefusal s by o ⊎ IsRest s by asks o

refused-is : (s : PartitionState) (by : VpIndex) (done : ℕ) (status : HvStatus) → IsRefusal s by (refused s by done status)
refused-is s by done status = record { after = refl; block = refl; context = refl }

judged-is : (s : PartitionState) (by : VpIndex) (done : ℕ) (asks : List (Page × ℕ)) (refusal : Option HvStatus) (fine : Service)
    → (fine.reply.status ≢ statuses.SUCCESS → Refuses s by asks fine) → (judged s by done refusal fine).reply.status ≢ statuses.SUCCESS → Refuses s by asks (judged s by done refusal fine)
judged-is s by done asks None fine is other = is other
judged-is s by done asks (Some status) fine is other = inl (refused-is s by done status)

-- pages before the first that is refused are asked for
some-by : (mask : ℕ) (refusal : Option HvStatus) (refusals : List (Option HvStatus)) (page : ℕ) (pages : List ℕ)
    → (acting (refusal ∷ refusals) == 0) ≡ false → asks_for mask (take (acting (refusal ∷ refusals)) (page ∷ pages)) ≢ []
some-by mask None refusals page pages acts = λ e. cc
some-by mask (Some status) refusals page pages acts = cc

some-asks : (mask count : ℕ) (pages : List ℕ) → (acting (page_refusals count pages) == 0) ≡ false → asks_for mask (take (acting (page_refusals count pages)) pages) ≢ []
some-asks mask count [] acts = cc
some-asks mask count (page ∷ pages) acts = some-by mask (page_refusal count page) (page_refusals count pages) page pages acts

either-is : (none : Bool) (s : PartitionState) (by : VpIndex) (asks : List (Page × ℕ)) (start done : ℕ) (status : HvStatus)
    → (none ≡ false → asks ≢ []) → Refuses s by asks (cond none (refused s by start status) (with_round s by [] asks status done))
either-is true s by asks start done status some = inl (refused-is s by start status)
either-is false s by asks start done status some = inr (record { some = some refl; after = refl; block = refl; context = refl })

some-is : (s : PartitionState) (by : VpIndex) (mask : ℕ) (pages : List ℕ) (start acted : ℕ) (refusal : Option HvStatus)
    → ((acted == 0) ≡ false → asks_for mask (take acted pages) ≢ [])
    → (modify_some s by mask pages start acted refusal).reply.status ≢ statuses.SUCCESS → Refuses s by (asks_for mask (take acted pages)) (modify_some s by mask pages start acted refusal)
some-is s by mask pages start acted None some other = absurd (other refl)
some-is s by mask pages start acted (Some status) some other = either-is (acted == 0) s by (asks_for mask (take acted pages)) start (start + acted) status some

-- a configuration that is written isn't refused
written : (first : Bool) (x y : Service) → x.reply.status ≡ statuses.SUCCESS → y.reply.status ≡ statuses.SUCCESS → (cond first x y).reply.status ≡ statuses.SUCCESS
written true x y h g = h
written false x y h g = g

write-well : (s : PartitionState) (by : VpIndex) (value : ℕ) → (write_config s by value).reply.status ≡ statuses.SUCCESS
write-well s by value = written (not (protects s.config) && protects value) _ _ refl refl

fetch-is : (s : PartitionState) (by : VpIndex) (start : Option Accepted) → (fetch_of s by start).reply.status ≢ statuses.SUCCESS → Refuses s by [] (fetch_of s by start)
fetch-is s by None other = inl (refused-is s by 0 statuses.INVALID_VP_STATE)
fetch-is s by (Some start) other = absurd (other refl)

call-is : (s : PartitionState) (by : VpIndex) (level : Vtl) (call : PartCall) → (serve_call s by level call).reply.status ≢ statuses.SUCCESS → Refuses s by (asks_of s call) (serve_call s by level call)
call-is s by level (EnablePartition words) other =
    judged-is s by 0 [] (first_failed (enable_partition_checks s words)) (enable_partition s by) (λ no. absurd (no refl)) other
call-is s by level (EnableVp words) other =
    let vp = named by.0 (index_of words) in
    judged-is s by 0 [] (first_failed (enable_vp_checks s by.0 level vp words (drop 2 words))) (enable_vp s by vp (drop 2 words)) (λ no. absurd (no refl)) other
call-is s by level (Modify header pages start total) other =
    let mask = map_flags header in
    let refusals = page_refusals s.pages pages.items in
    judged-is s by start (asks_for mask (take (acting refusals) pages.items)) (first_failed (modify_checks s level header)) (modify s by mask pages.items start)
    (some-is s by mask pages.items start (acting refusals) (refusing refusals) (some-asks mask s.pages pages.items)) other
call-is s by level (Flush total) other = absurd (other refl)
call-is s by level ReadStatus other = absurd (other refl)
call-is s by level ReadConfig other = absurd (other refl)
call-is s by level (WriteConfig value) other =
    judged-is s by 0 [] (first_failed (config_checks s.config value)) (write_config s by value) (λ no. absurd (no (write-well s by value))) other
call-is s by level (Start words) other =
    let vp = named by.0 (index_of words) in
    judged-is s by 0 [] (first_failed (start_checks s level vp words (drop 2 words))) (start_vp s by vp (level_of (target_of words)) (drop 2 words)) (λ no. absurd (no refl)) other
call-is s by level Fetch other = fetch-is s by (standing s by.0).start other

pub refusal-is : (s : PartitionState) (r : Request) → (serve s r).reply.status ≢ statuses.SUCCESS → IsRefusal s r.by (serve s r) ⊎ IsRest s r.by (asks_of s r.call) (serve s r)
refusal-is s r other = call-is s r.by r.level r.call other

refuses-so : (s : PartitionState) (r : Request) → IsRefusal s r.by (serve s r) ⊎ IsRest s r.by (asks_of s r.call) (serve s r) → RefusesAll s r ⊎ RefusesRest s r
refuses-so s r (inl is) = inl (record { after = is.after; block = is.block })
refuses-so s r (inr is) = inr (record { some = is.some; after = is.after; block = is.block })

pub refused-so : (s : PartitionState) (r : Request) → (serve s r).reply.status ≢ statuses.SUCCESS → RefusesAll s r ⊎ RefusesRest s r
refused-so s r other = refuses-so s r (refusal-is s r other)

no-context : (s : PartitionState) (by : VpIndex) (asks : List (Page × ℕ)) (o : Service) → IsRefusal s by o ⊎ IsRest s by asks o → o.reply.context ≡ None
no-context s by asks o (inl is) = is.context
no-context s by asks o (inr is) = is.context

-- what a refusing reply comes to
pub replied-keeps : (from : Origin) (reply : Reply) → reply.context ≡ None → KeepsTheRest from (replied from reply)
replied-keeps from reply none = rw none (result-keeps from from.state [] reply.status reply.done)

ended-keeps : (good : Bool) (from : Origin) (status : HvStatus) (done count : ℕ) → good ≡ false → KeepsTheRest from (slice_outcome from from.state [] (cond good (unrefused_end done count) (Refused status done)))
ended-keeps true from status done count not_good = cc
ended-keeps false from status done count not_good = result-keeps from from.state [] status done

abbrev of_code : ℕ → HvStatus
of_code code = record { 0 = code }

not-zero : (code : ℕ) → of_code code ≢ statuses.SUCCESS → (code == 0) ≡ false
not-zero zero other = absurd (other refl)
not-zero (suc code) other = grind (arith, nat_tests)

not-success : (status : HvStatus) → status ≢ statuses.SUCCESS → (status.0 == 0) ≡ false
not-success status other = not-zero status.0 other

served-keeps : (slice : Bool) (from : Origin) (reply : Reply) → reply.context ≡ None → reply.status ≢ statuses.SUCCESS
    → KeepsTheRest from (cond slice (slice_outcome from from.state [] (replied_end reply.status reply.done (count_of from))) (replied from reply))
served-keeps true from reply none other = ended-keeps (reply.status.0 == 0) from reply.status reply.done (count_of from) (not-success reply.status other)
served-keeps false from reply none other = replied-keeps from reply none

pub refusal-keeps : (from : Origin) (s : PartitionState) (r : Request) (code : ℕ) → (serve s r).reply.status ≢ statuses.SUCCESS → KeepsTheRest from (served from code (serve s r).reply)
refusal-keeps from s r code other = served-keeps (code == 0x000C) from (serve s r).reply (no-context s r.by (asks_of s r.call) (serve s r) (refusal-is s r other)) other
