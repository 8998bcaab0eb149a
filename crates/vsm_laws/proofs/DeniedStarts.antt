-- Why level 0 starts no processor where the configuration denies it.
use Rattle.std.proofs.Common.{◌≡◌, ◌≢◌, ◌<◌, ◌↔◌, ◌==◌, ◌&&◌, ◌∙◌, ap, ℕ, Bool, true, false, not, cond, Option, Some, None, List, [], ◌∷◌, length, drop, refl, sym, arith, nat_le, nat_lt}
use Rattle.std.proofs.lemmas.Bool.Decides.{nat_tests}
use Rattle.vsm_base.specs.declared.places.VpIndex.{VpIndex}
use Rattle.vsm_base.specs.declared.places.Vtl.TheVariants.{Zero, One}
use Rattle.vsm_base.specs.declared.status.HvStatus.{HvStatus}
use Rattle.vsm_base.specs.declared.status.TheConstants.HvStatus as statuses
use Rattle.vsm_core.specs.declared.journal.Entry.TheVariants.{Refuse}
use Rattle.vsm_core.specs.declared.partition_state.PartitionState.{PartitionState}
use Rattle.vsm_core.specs.Calls.{first_failed}
use Rattle.vsm_core.specs.Contexts.{is_legal_context}
use Rattle.vsm_core.specs.Keeps.{RefusesAll}
use Rattle.vsm_core.specs.Partition.{standing, named, index_of, is_called, is_other_partition, padding_of, target_of, start_checks}
use Rattle.vsm_core.specs.Served.{Service, answer, judged, start_vp}
use Rattle.vsm_core.specs.Status.{denies_startup}
use Rattle.vsm_core.specs.Targets.{level_of}
use Rattle.vsm_laws.specs.Starts.{IsWellFormed, start_by}

-- it refuses, and success is no refusal
abbrev IsRefusal : Option HvStatus → Type 0
IsRefusal None = ⊥
IsRefusal (Some status) = status ≢ statuses.SUCCESS

codes-differ : (a b : HvStatus) → (a.0 == b.0) ≡ false → a ≢ b
codes-differ a b e same = let codes : a.0 ≡ b.0 = ap (λ (status : HvStatus). status.0) same in grind (arith, nat_tests)

check-refuses : (fails : Bool) (status : HvStatus) (rest : Option HvStatus) → status ≢ statuses.SUCCESS → IsRefusal rest → IsRefusal (cond fails (Some status) rest)
check-refuses true status rest other h = other
check-refuses false status rest other h = h

denial-refuses : (denies : Bool) (rest : Option HvStatus) → denies ≡ true → IsRefusal (cond denies (Some statuses.ACCESS_DENIED) rest)
denial-refuses true rest e = codes-differ statuses.ACCESS_DENIED statuses.SUCCESS refl
denial-refuses false rest e = cc

start-refused : (s : PartitionState) (vp : ℕ) (words context : List ℕ) → denies_startup s.config ≡ true → IsRefusal (first_failed (start_checks s Zero vp words context))
start-refused s vp words context denies =
    check-refuses (is_other_partition words) statuses.INVALID_PARTITION_ID _ (codes-differ statuses.INVALID_PARTITION_ID statuses.SUCCESS refl)
    (check-refuses (nat_le (length s.vps) vp) statuses.INVALID_VP_INDEX _ (codes-differ statuses.INVALID_VP_INDEX statuses.SUCCESS refl)
    (check-refuses (nat_lt 1 (target_of words)) statuses.INVALID_PARAMETER _ (codes-differ statuses.INVALID_PARAMETER statuses.SUCCESS refl)
    (check-refuses (not (padding_of words == 0)) statuses.INVALID_PARAMETER _ (codes-differ statuses.INVALID_PARAMETER statuses.SUCCESS refl)
    (check-refuses (target_of words == 1) statuses.ACCESS_DENIED _ (codes-differ statuses.ACCESS_DENIED statuses.SUCCESS refl)
    (denial-refuses (denies_startup s.config) _ denies)))))

judged-other : (s : PartitionState) (by : VpIndex) (refusal : Option HvStatus) (fine : Service) → IsRefusal refusal → (judged s by 0 refusal fine).reply.status ≢ statuses.SUCCESS
judged-other s by None fine h = absurd h
judged-other s by (Some status) fine h = h

abbrev Unchanged : PartitionState → VpIndex → Service → Type 0
Unchanged s by o = (o.after ≡ s) × (o.block ≡ Refuse by o.reply.status ∷ [])

judged-unchanged : (s : PartitionState) (by : VpIndex) (refusal : Option HvStatus) (fine : Service) → IsRefusal refusal → Unchanged s by (judged s by 0 refusal fine)
judged-unchanged s by None fine h = absurd h
judged-unchanged s by (Some status) fine h = (refl, refl)

abbrev started : PartitionState → VpIndex → List ℕ → Service
started s by words = start_vp s by (named by.0 (index_of words)) (level_of (target_of words)) (drop 2 words)

pub denied-refused : (s : PartitionState) (by : VpIndex) (words : List ℕ) → denies_startup s.config ≡ true → (answer s (start_by Zero by words)).status ≢ statuses.SUCCESS
denied-refused s by words denies =
    let vp = named by.0 (index_of words) in
    judged-other s by (first_failed (start_checks s Zero vp words (drop 2 words))) (started s by words) (start-refused s vp words (drop 2 words) denies)

pub denied-unchanged : (s : PartitionState) (by : VpIndex) (words : List ℕ) → denies_startup s.config ≡ true → RefusesAll s (start_by Zero by words)
denied-unchanged s by words denies =
    let vp = named by.0 (index_of words) in
    let h = judged-unchanged s by (first_failed (start_checks s Zero vp words (drop 2 words))) (started s by words) (start-refused s vp words (drop 2 words) denies) in
    record { after = h.0; block = h.1 }

-- the checks from that of the denial on, of a start to level 0
denial-alone : (s : PartitionState) (by : VpIndex) (fine : Service) (denies upper called illegal : Bool) → upper ≡ false → fine.reply.status ≡ statuses.SUCCESS
    → ((judged s by 0 (cond denies (Some statuses.ACCESS_DENIED) (cond upper (Some statuses.INVALID_VTL_STATE) (cond called (Some statuses.INVALID_VP_STATE) (cond illegal (Some statuses.INVALID_REGISTER_VALUE) None)))) fine).reply.status ≡ statuses.ACCESS_DENIED) ↔ (denies ≡ true)
denial-alone s by fine true upper called illegal low well = (λ e. refl, λ e. refl)
denial-alone s by fine false true called illegal low well = cc
denial-alone s by fine false false true illegal low well = (λ e. absurd (codes-differ statuses.INVALID_VP_STATE statuses.ACCESS_DENIED refl e), λ e. cc)
denial-alone s by fine false false false true low well = (λ e. absurd (codes-differ statuses.INVALID_REGISTER_VALUE statuses.ACCESS_DENIED refl e), λ e. cc)
denial-alone s by fine false false false false low well = (λ e. absurd (codes-differ statuses.SUCCESS statuses.ACCESS_DENIED refl (sym well ∙ e)), λ e. cc)

passed : (P : Option HvStatus → Type 0) (fails : Bool) (status : HvStatus) (rest : Option HvStatus) → fails ≡ false → P rest → P (cond fails (Some status) rest)
passed P true status rest e h = cc
passed P false status rest e h = h

is-there : (count vp : ℕ) → vp < count → nat_le count vp ≡ false
is-there count vp small = grind (arith, nat_tests, small)

pub denied-exactly : (s : PartitionState) (by : VpIndex) (words : List ℕ) → IsWellFormed s by words
    → ((answer s (start_by Zero by words)).status ≡ statuses.ACCESS_DENIED) ↔ (denies_startup s.config ≡ true)
denied-exactly s by words well =
    let vp = named by.0 (index_of words) in
    let fine = started s by words in
    let P : Option HvStatus → Type 0 = λ refusal. ((judged s by 0 refusal fine).reply.status ≡ statuses.ACCESS_DENIED) ↔ (denies_startup s.config ≡ true) in
    passed P (is_other_partition words) statuses.INVALID_PARTITION_ID _ well.own
    (passed P (nat_le (length s.vps) vp) statuses.INVALID_VP_INDEX _ (is-there (length s.vps) vp well.there)
    (passed P (nat_lt 1 (target_of words)) statuses.INVALID_PARAMETER _ (rw well.to_zero refl)
    (passed P (not (padding_of words == 0)) statuses.INVALID_PARAMETER _ (rw well.padded refl)
    (passed P (target_of words == 1) statuses.ACCESS_DENIED _ (rw well.to_zero refl)
    (denial-alone s by fine (denies_startup s.config) ((target_of words == 1) && not (standing s vp).one) (is_called (standing s vp)) (not (is_legal_context (drop 2 words))) (rw well.to_zero refl) refl)))))

-- the answer to a start
judged-alike : (s t : PartitionState) (by : VpIndex) (refusal : Option HvStatus) (fine other : Service) → fine.reply ≡ other.reply → (judged s by 0 refusal fine).reply ≡ (judged t by 0 refusal other).reply
judged-alike s t by None fine other e = e
judged-alike s t by (Some status) fine other e = refl

pub level-1-alike : (s : PartitionState) (by : VpIndex) (words : List ℕ) (config : ℕ) → answer (record s { config = config }) (start_by One by words) ≡ answer s (start_by One by words)
level-1-alike s by words config =
    let other : PartitionState = record s { config = config } in
    judged-alike other s by (first_failed (start_checks s One (named by.0 (index_of words)) words (drop 2 words))) (started other by words) (started s by words) refl
