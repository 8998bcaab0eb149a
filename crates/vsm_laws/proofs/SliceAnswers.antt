-- What the end of a slice comes to, and what the partition answers where it is asked for one.
use Rattle.std.proofs.Common.{◌≡◌, ◌∙◌, ◌≤◌, ◌<◌, ◌+◌, ◌-◌, ◌==◌, ◌&&◌, ℕ, Bool, true, false, not, cond, nat_lt}
use Rattle.std.proofs.Common.{nat_le, Option, Some, None, List, [], ◌∷◌, length, take, refl, sym, ap, subst, arith}
use Rattle.std.proofs.lemmas.Bool.Decides.{nat_tests}
use Rattle.vsm_base.specs.declared.places.VpIndex.{VpIndex}
use Rattle.vsm_base.specs.declared.places.Vtl.{Vtl}
use Rattle.vsm_base.specs.declared.status.HvStatus.{HvStatus}
use Rattle.vsm_base.specs.declared.status.TheConstants.HvStatus as statuses
use Rattle.vsm_core.specs.declared.journal.Entry.TheVariants as entries
use Rattle.vsm_core.specs.declared.mark.What.TheVariants.{Part, Reply as Result}
use Rattle.vsm_core.specs.declared.partition_state.PartitionState.{PartitionState}
use Rattle.vsm_core.specs.declared.register.CallRegister.{CallRegister}
use Rattle.vsm_core.specs.declared.register.CallRegister.TheVariants.{PartitionStatus, PartitionConfig}
use Rattle.vsm_core.specs.declared.request.PartCall.{PartCall}
use Rattle.vsm_core.specs.declared.request.PartCall.TheVariants.{ReadStatus, ReadConfig, WriteConfig}
use Rattle.vsm_core.specs.declared.request.Reply.{Reply}
use Rattle.vsm_core.specs.Calls.{Check, check, count_in, first_failed, result_value}
use Rattle.vsm_core.specs.Fills.{Cached}
use Rattle.vsm_core.specs.Hypercalls.{input_value, replied}
use Rattle.vsm_core.specs.Outcomes.{Origin, Outcome}
use Rattle.vsm_core.specs.Protection.{asks_for, asks_for_all, config_checks, map_flags, modify_checks, page_refusal}
use Rattle.vsm_core.specs.Protection.{page_refusals}
use Rattle.vsm_core.specs.RegisterCalls.{Setting, count_of, get_refusal, is_partitions, look_in, name_checks}
use Rattle.vsm_core.specs.RegisterCalls.{names_one, past_of, read_call, register_of, set_refusal, setting_checks}
use Rattle.vsm_core.specs.RegisterCalls.{slice_end, slice_outcome, start_of, unless_refused, write_call, write_in}
use Rattle.vsm_core.specs.Reps.{RepEnd, Refused, GoesOn, Complete, acting, refusing, rep_end, replied_end}
use Rattle.vsm_core.specs.Reps.{unrefused_end}
use Rattle.vsm_core.specs.Served.{judged, modify, modify_some, refused, with_round, write_config}
use Rattle.vsm_core.specs.State.{State}
use Rattle.vsm_core.specs.Status.{default_mask, protects}
use Rattle.vsm_core.proofs.Checks.{none-fails}
use Rattle.vsm_laws.specs.Slices.{behind_header, partition_refusal, what_of}
use Rattle.vsm_laws.proofs.SliceStates.{GoesOnAt, StandsStill, part-goes}

-- an outcome at which a slice has ended whose elements are refused so
pub record IsSliceEnd (from : Origin) (refusals : List (Option HvStatus)) (o : Outcome) : Type 0 where
  pub what : o.what ≡ what_of (slice_end from refusals)
  pub few : length refusals ≤ 8
  pub full : refusing refusals ≡ None → length refusals ≡ past_of from - start_of from
  pub goes : (next : ℕ) → o.what ≡ Part next → GoesOnAt from next o.state

slice-what : (from : Origin) (state : State) (does : List Cached) (end : RepEnd)
    → (slice_outcome from state does end).what ≡ what_of end
slice-what from state does (Refused status done) = refl
slice-what from state does (GoesOn next) = refl
slice-what from state does (Complete done) = refl

-- a slice that goes on does so at an element of its call
abbrev IsBelow : RepEnd → Type 0
IsBelow (GoesOn next) = next < 4096
IsBelow _ = Unit {0}

unrefused-below : (b : Bool) (next count : ℕ) → nat_lt next count ≡ b → count < 4096
    → IsBelow (cond b (GoesOn next) (Complete next))
unrefused-below true next count e few = grind (arith, few)
unrefused-below false next count e few = tt

end-below : (start count acted : ℕ) (refusal : Option HvStatus) → count < 4096
    → IsBelow (rep_end start count acted refusal)
end-below start count acted None few = unrefused-below (nat_lt (start + acted) count) (start + acted) count refl few
end-below start count acted (Some status) few = tt

count-few : (value : ℕ) → count_in value < 4096
count-few value = grind arith

slice-goes : (from : Origin) (state : State) (does : List Cached) (end : RepEnd) → StandsStill from.state state
    → IsBelow end → (next : ℕ) → (slice_outcome from state does end).what ≡ Part next
    → GoesOnAt from next (slice_outcome from state does end).state
slice-goes from state does (Refused status done) still below next e = cc
slice-goes from state does (GoesOn at) still below next e =
    let same : at ≡ next = cc in
    subst (λ n. GoesOnAt from n (slice_outcome from state does (GoesOn at)).state) same
    (part-goes from state does at still below)
slice-goes from state does (Complete done) still below next e = cc

-- a slice whose elements were looked at
pub slice-ends : (from : Origin) (state : State) (does : List Cached) (refusals : List (Option HvStatus))
    → StandsStill from.state state → past_of from - start_of from ≤ 8
    → length refusals ≡ past_of from - start_of from
    → IsSliceEnd from refusals (slice_outcome from state does (slice_end from refusals))
slice-ends from state does refusals still few long = record {
  what = slice-what from state does (slice_end from refusals);
  few = rw long few;
  full = λ none. long;
  goes = slice-goes from state does (slice_end from refusals) still
      (end-below (start_of from) (count_of from) (acting refusals) (refusing refusals)
      (count-few (input_value from.state)));
}

-- a call that is refused at its header
first-done : (status : HvStatus) (start done : ℕ) → done ≡ start
    → Result (result_value status done) ≡ Result (result_value status (start + 0))
first-done status start done is = let same : done ≡ start + 0 =
    omega (arith, is) in ap (λ n. Result (result_value status n)) same

pub header-ends : (from : Origin) (status : HvStatus) (done : ℕ) (o : Outcome)
    → o.what ≡ Result (result_value status done) → done ≡ start_of from → IsSliceEnd from (Some status ∷ []) o
header-ends from status done o what is = record {
  what = what ∙ first-done status (start_of from) done is;
  few = omega arith;
  full = λ none. cc;
  goes = λ next e. cc;
}

-- the one element of a call for a register of the partition
one-end : (start count : ℕ) → start ≡ 0 → count ≡ 1
    → what_of (rep_end start count 1 None) ≡ Result (result_value statuses.SUCCESS 1)
one-end start count first only = rw (first, only) refl

one-long : (start count : ℕ) → start ≡ 0 → count ≡ 1 → 1 ≡ cond (nat_lt count (start + 8)) count (start + 8) - start
one-long start count first only = rw (first, only) refl

first-of : (start count : ℕ) → start < count → count ≡ 1 → start ≡ 0
first-of start count starts only = omega (arith, starts, only)

pub one-ends : (from : Origin) (o : Outcome) → o.what ≡ Result (result_value statuses.SUCCESS 1)
    → start_of from < count_of from → count_of from ≡ 1 → IsSliceEnd from (None ∷ []) o
one-ends from o what starts only =
    let first = first-of (start_of from) (count_of from) starts only in
    record {
      what = what ∙ sym (one-end (start_of from) (count_of from) first only);
      few = omega arith;
      full = λ none. one-long (start_of from) (count_of from) first only;
      goes = λ next e. cc;
    }

-- such a call that gets a register
pub data IsLook : PartCall → Type 0 where
  Status : IsLook ReadStatus
  Config : IsLook ReadConfig

only-one : (named : Bool) (count : ℕ) → (named && not (count == 1)) ≡ false → named ≡ true → count ≡ 1
only-one true count e is = grind (arith, nat_tests)
only-one false count e is = cc

look-by : (register : Option CallRegister) (count : ℕ) (call : PartCall)
    → (names_one is_partitions register && not (count == 1)) ≡ false → read_call register ≡ Some call
    → (count ≡ 1) × IsLook call
look-by (Some PartitionStatus) count call e is = let same : ReadStatus ≡ call =
    cc in (only-one true count e refl, subst IsLook same Status)
look-by (Some PartitionConfig) count call e is = let same : ReadConfig ≡ call =
    cc in (only-one true count e refl, subst IsLook same Config)
look-by _ count call e is = cc

look-unless : (caller target : Vtl) (count number : ℕ) (refusal : Option HvStatus) (call : PartCall)
    → get_refusal caller target count number ≡ refusal
    → unless_refused refusal (read_call (register_of number)) ≡ Some call → (count ≡ 1) × IsLook call
look-unless caller target count number None call none is = look-by (register_of number) count call
    (none-fails (name_checks caller target count (register_of number)) none).1.0 is
look-unless caller target count number (Some status) call some is = cc

pub look-one : (caller target : Vtl) (count : ℕ) (numbers : List ℕ) (call : PartCall)
    → look_in caller target count numbers ≡ Some call → (count ≡ 1) × IsLook call
look-one caller target count [] call is = cc
look-one caller target count (number ∷ numbers) call is = look-unless caller target count number
    (get_refusal caller target count number) call refl is

-- and one that sets it
pub record IsWrite (call : PartCall) : Type 0 where
  pub value : ℕ
  pub is : WriteConfig value ≡ call

write-by : (register : Option CallRegister) (count value : ℕ) (call : PartCall)
    → (names_one is_partitions register && not (count == 1)) ≡ false → write_call register value ≡ Some call
    → (count ≡ 1) × IsWrite call
write-by (Some PartitionConfig) count value call e is =
    (only-one true count e refl, record { value = value; is = cc })
write-by _ count value call e is = cc

write-unless : (caller target : Vtl) (count : ℕ) (x : Setting) (refusal : Option HvStatus) (call : PartCall)
    → set_refusal caller target count x ≡ refusal
    → unless_refused refusal (write_call (register_of x.number) x.value) ≡ Some call → (count ≡ 1) × IsWrite call
write-unless caller target count x None call none is = write-by (register_of x.number) count x.value call
    (none-fails (setting_checks caller target count x) none).1.0 is
write-unless caller target count x (Some status) call some is = cc

pub write-one : (caller target : Vtl) (count : ℕ) (elements : List Setting) (call : PartCall)
    → write_in caller target count elements ≡ Some call → (count ≡ 1) × IsWrite call
write-one caller target count [] call is = cc
write-one caller target count (x ∷ elements) call is = write-unless caller target count x
    (set_refusal caller target count x) call refl is

written : (b : Bool) (s t : PartitionState) (by : VpIndex) (value : ℕ)
    → (cond b (with_round t by (entries.Config by value ∷ [])
    (asks_for_all (default_mask value) s.pages) statuses.SUCCESS 1)
    (record {
      block = entries.Config by value ∷ [];
      reply = record
          { status = statuses.SUCCESS; done = 1; value = 0; context = None };
      after = t;
    })).reply
    ≡ record { status = statuses.SUCCESS; done = 1; value = 0; context = None }
written true s t by value = refl
written false s t by value = refl

config-by : (from : Origin) (s : PartitionState) (by : VpIndex) (value : ℕ) (refusal : Option HvStatus)
    → start_of from < count_of from → count_of from ≡ 1
    → IsSliceEnd from (refusal ∷ []) (replied from (judged s by 0 refusal (write_config s by value)).reply)
config-by from s by value None starts only =
    let done : (write_config s by value).reply ≡ record {
      status =
          statuses.SUCCESS;
      done = 1;
      value = 0;
      context = None;
    } = written
    (not (protects s.config) && protects value) s (record s { config = value }) by value in
    one-ends from (replied from (write_config s by value).reply)
    (ap (λ (reply : Reply). (replied from reply).what) done) starts only
config-by from s by value (Some status) starts only =
    header-ends from status 0 (replied from (refused s by 0 status).reply) refl
    (sym (first-of (start_of from) (count_of from) starts only))

pub config-ends : (from : Origin) (s : PartitionState) (by : VpIndex) (value : ℕ) → start_of from < count_of from
    → count_of from ≡ 1
    → IsSliceEnd from (partition_refusal s (WriteConfig value) ∷ [])
    (replied from (judged s by 0 (first_failed (config_checks s.config value)) (write_config s by value)).reply)
config-ends from s by value starts only = config-by from s by value
    (first_failed (config_checks s.config value)) starts only

-- a status that isn't success
abbrev AreErrors : List Check → Type 0
AreErrors [] = Unit {0}
AreErrors (c ∷ checks) = ((c.status.0 == 0) ≡ false) × AreErrors checks

error-by : (b : Bool) (first : HvStatus) (other : Option HvStatus) (status : HvStatus) → (first.0 == 0) ≡ false
    → (other ≡ Some status → (status.0 == 0) ≡ false) → cond b (Some first) other ≡ Some status
    → (status.0 == 0) ≡ false
error-by true first other status e h is = let same : first ≡ status = cc in rw (← same) e
error-by false first other status e h is = h is

an-error : (checks : List Check) (status : HvStatus) → AreErrors checks → first_failed checks ≡ Some status
    → (status.0 == 0) ≡ false
an-error [] status errors is = cc
an-error (c ∷ checks) status errors is = error-by c.fails c.status (first_failed checks) status errors.0
    (an-error checks status errors.1) is

-- a slice of pages
replied-refused : (error : Bool) (status : HvStatus) (done count : ℕ) → error ≡ false
    → cond error (unrefused_end done count) (Refused status done) ≡ Refused status done
replied-refused true status done count e = cc
replied-refused false status done count e = refl

page-error : (pages : ℕ) (refusal : Option HvStatus) (refusals : List (Option HvStatus)) (page : ℕ)
    (status : HvStatus) → page_refusal pages page ≡ refusal
    → (refusing refusals ≡ Some status → (status.0 == 0) ≡ false)
    → refusing (refusal ∷ refusals) ≡ Some status → (status.0 == 0) ≡ false
page-error pages None refusals page status e h is = h is
page-error pages (Some first) refusals page status e h is = let same : first ≡ status =
    cc in rw (← same) (an-error (check statuses.INVALID_PARAMETER (nat_le pages page) ∷ []) first
    (refl, tt) e)

pages-error : (pages : ℕ) (elements : List ℕ) (status : HvStatus)
    → refusing (page_refusals pages elements) ≡ Some status → (status.0 == 0) ≡ false
pages-error pages [] status is = cc
pages-error pages (page ∷ elements) status is = page-error pages (page_refusal pages page)
    (page_refusals pages elements) page status refl (pages-error pages elements status) is

some-end : (b : Bool) (s : PartitionState) (by : VpIndex) (mask : ℕ) (elements : List ℕ) (start acted count : ℕ)
    (status : HvStatus) → (acted == 0) ≡ b → (status.0 == 0) ≡ false
    → let reply : Reply = (cond b (refused s by start status)
    (with_round s by [] (asks_for mask (take acted elements)) status (start + acted))).reply in
    replied_end reply.status reply.done count ≡ Refused status (start + acted)
some-end true s by mask elements start acted count status zero error =
    let same : start ≡ start + acted = grind (arith, nat_tests) in
    replied-refused (status.0 == 0) status start count error ∙ ap (Refused status) same
some-end false s by mask elements start acted count status zero error = replied-refused (status.0 == 0) status
    (start + acted) count error

modify-end : (s : PartitionState) (by : VpIndex) (mask : ℕ) (elements : List ℕ) (start acted count : ℕ)
    (refusal : Option HvStatus) → ((status : HvStatus) → refusal ≡ Some status → (status.0 == 0) ≡ false)
    → let reply : Reply = (modify_some s by mask elements start acted refusal).reply in replied_end reply.status
    reply.done count ≡ rep_end start count acted refusal
modify-end s by mask elements start acted count None error = refl
modify-end s by mask elements start acted count (Some status) error = some-end
    (acted == 0) s by mask elements start acted count status refl (error status refl)

judged-end : (s : PartitionState) (by : VpIndex) (header elements : List ℕ) (start count : ℕ)
    (refusal : Option HvStatus) → ((status : HvStatus) → refusal ≡ Some status → (status.0 == 0) ≡ false)
    → let reply : Reply = (judged s by start refusal (modify s by (map_flags header) elements start)).reply in
    let refusals : List (Option HvStatus) = behind_header refusal (page_refusals s.pages elements) in
    replied_end reply.status reply.done count ≡ rep_end start count (acting refusals) (refusing refusals)
judged-end s by header elements start count None error =
    let refusals = page_refusals s.pages elements in
    modify-end s by (map_flags header) elements start (acting refusals) count (refusing refusals)
    (pages-error s.pages elements)
judged-end s by header elements start count (Some status) error =
    let same : start ≡ start + 0 = omega arith in
    replied-refused (status.0 == 0) status start count (error status refl) ∙ ap (Refused status) same

pub masks-end : (s : PartitionState) (by : VpIndex) (level : Vtl) (header elements : List ℕ) (start count : ℕ)
    → let refusal : Option HvStatus = first_failed (modify_checks s level header) in
    let reply : Reply = (judged s by start refusal (modify s by (map_flags header) elements start)).reply in
    let refusals : List (Option HvStatus) = behind_header refusal (page_refusals s.pages elements) in
    replied_end reply.status reply.done count ≡ rep_end start count (acting refusals) (refusing refusals)
masks-end s by level header elements start count =
    judged-end s by header elements start count (first_failed (modify_checks s level header))
    (λ status. an-error (modify_checks s level header) status (refl, (refl, (refl, (refl, (refl, tt))))))
