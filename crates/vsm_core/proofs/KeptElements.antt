-- What a call keeps that gets or sets registers: one that is refused, and one after which elements are left.
use Rattle.std.proofs.Common.{◌≡◌, ◌≢◌, ◌<◌, ◌+◌, ◌^◌, ℕ, Bool, true, false, cond, Option, Some, None, List, [], take, length, refl, arith, lit<}
use Rattle.std.proofs.lemmas.Bool.Decides.{nat_tests}
use Rattle.std.proofs.lemmas.List.{get_or-set_same}
use Rattle.vsm_base.specs.declared.name.Name.{Name}
use Rattle.vsm_base.specs.declared.name.Name.TheVariants as names
use Rattle.vsm_base.specs.Names.{all_names}
use Rattle.vsm_base.specs.declared.places.Vtl.{Vtl}
use Rattle.vsm_base.specs.declared.status.HvStatus.{HvStatus}
use Rattle.vsm_core.specs.Attempt.{left_with}
use Rattle.vsm_core.specs.Calls.{start_in, count_in}
use Rattle.vsm_core.specs.Fills.{Cached}
use Rattle.vsm_core.specs.Hypercalls.{input_value, result_outcome}
use Rattle.vsm_core.specs.Keeps.{EndsIn, KeepsTheRest}
use Rattle.vsm_core.specs.Outcomes.{Origin}
use Rattle.vsm_core.specs.RegisterCalls.{Setting, all_set, all_emptied, count_of, start_of, set_refusals, get_refusals, set_slice, got_slice, part_outcome, slice_outcome}
use Rattle.vsm_core.specs.Registers.{IsWhole, bits_of, has_bits, is_legal, get as get_in, shared_place, shared_names}
use Rattle.vsm_core.specs.Reps.{acting, refusing, rep_end, with_start}
use Rattle.vsm_core.specs.State.{State, put, word_of}
use Rattle.vsm_core.proofs.KeptRefusals.{result-keeps}
use Rattle.vsm_core.proofs.KeptRegisters.{put_legal-rcx}

-- a slice that is refused at an element
refused-slice : (from : Origin) (state : State) (does : List Cached) (start count acted : ℕ) (refusal : Option HvStatus) → refusal ≢ None → KeepsTheRest (record from { state = state }) (slice_outcome from state does (rep_end start count acted refusal))
refused-slice from state does start count acted None some = absurd (some refl)
refused-slice from state does start count acted (Some status) some = result-keeps from state does status (start + acted)

-- a call that is refused at its header
pub header-keeps : (from : Origin) (status : HvStatus) → EndsIn (KeepsTheRest from) (left_with (result_outcome from from.state status (start_of from)))
header-keeps from status = λ left. result-keeps from from.state [] status (start_of from)

pub get-element-keeps : (from : Origin) (target : Vtl) (numbers : List ℕ) → refusing (get_refusals from target numbers) ≢ None → KeepsTheRest from (got_slice from target numbers)
get-element-keeps from target numbers some =
    let refusals = get_refusals from target numbers in
    refused-slice from from.state [] (start_of from) (count_of from) (acting refusals) (refusing refusals) some

pub set-element-keeps : (from : Origin) (target : Vtl) (settings : List Setting) → refusing (set_refusals from target settings) ≢ None
    → KeepsTheRest (record from { state = all_set target from.state (take (acting (set_refusals from target settings)) settings) }) (set_slice from target settings)
set-element-keeps from target settings some =
    let refusals = set_refusals from target settings in
    let acted = take (acting refusals) settings in
    refused-slice from (all_set target from.state acted) (all_emptied target acted) (start_of from) (count_of from) (acting refusals) (refusing refusals) some

-- an input value with another start index
with_start-small : (value next : ℕ) → next < 4096 → with_start value next < 2 ^ 64
with_start-small value next small = grind (arith, small)

with_start-start : (value next : ℕ) → next < 4096 → start_in (with_start value next) ≡ next
with_start-start value next small = grind (arith, small)

with_start-count : (value next : ℕ) → count_in (with_start value next) ≡ count_in value
with_start-count value next = grind arith

-- RCX takes it
legal-rcx : (value : ℕ) → value < 2 ^ 64 → is_legal names.Rcx value ≡ true
unfolding bits_of has_bits
legal-rcx value small = grind (arith, nat_tests)

rcx-place : shared_place names.Rcx < 24
unfolding shared_place shared_names all_names
rcx-place = lit< tt

-- and has it then
word-put : (state : State) (value : ℕ) → length state.registers.shared ≡ 24 → value < 2 ^ 64 → word_of (put state names.Rcx value) names.Rcx ≡ value
word-put state value whole small =
    rw (get_or-set_same state.registers.shared (shared_place names.Rcx) value 0 (rw whole rcx-place)) (grind (arith, small))

legal-word : (legal : Bool) (state : State) (value : ℕ) → legal ≡ true → length state.registers.shared ≡ 24 → value < 2 ^ 64 → word_of (cond legal (put state names.Rcx value) state) names.Rcx ≡ value
legal-word true state value legal whole small = word-put state value whole small
legal-word false state value legal whole small = cc

part-word : (from : Origin) (state : State) (does : List Cached) (next : ℕ) → IsWhole state.registers → next < 4096 → input_value (part_outcome from state does next).state ≡ with_start (input_value from.state) next
part-word from state does next whole small =
    let value = with_start (input_value from.state) next in
    let fits = with_start-small (input_value from.state) next small in
    legal-word (is_legal names.Rcx value) state value (legal-rcx value fits) whole.shared fits

pub part-registers : (from : Origin) (state : State) (does : List Cached) (next : ℕ) (level : Vtl) (name : Name) → name ≢ names.Rcx
    → get_in (part_outcome from state does next).state.registers level name ≡ get_in state.registers level name
part-registers from state does next level name other = put_legal-rcx state (with_start (input_value from.state) next) level name other

pub part-start : (from : Origin) (state : State) (does : List Cached) (next : ℕ) → IsWhole state.registers → next < 4096 → start_in (input_value (part_outcome from state does next).state) ≡ next
part-start from state does next whole small = rw (part-word from state does next whole small) (with_start-start (input_value from.state) next small)

pub part-count : (from : Origin) (state : State) (does : List Cached) (next : ℕ) → IsWhole state.registers → next < 4096 → count_in (input_value (part_outcome from state does next).state) ≡ count_in (input_value from.state)
part-count from state does next whole small = rw (part-word from state does next whole small) (with_start-count (input_value from.state) next)
