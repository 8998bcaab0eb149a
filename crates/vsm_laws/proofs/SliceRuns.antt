-- The attempts of a call that goes by slices, one after the other.
use Rattle.std.proofs.Common.{◌≡◌, ◌∙◌, ◌≤◌, ◌<◌, ◌+◌, ◌*◌, ◌-◌, ◌/◌, ◌%◌, ◌^◌, ◌++◌, ℕ, suc, Bool, true, false, cond}
use Rattle.std.proofs.Common.{nat_lt, Option, Some, None, List, [], ◌∷◌, length, refl, sym, ap, subst, arith}
use Rattle.std.proofs.Common.{slice_get}
use Rattle.std.proofs.lemmas.List.{append-nil}
use Rattle.vsm_base.specs.declared.name.Name.TheVariants as names
use Rattle.vsm_base.specs.declared.status.HvStatus.{HvStatus}
use Rattle.vsm_base.specs.declared.status.TheConstants.HvStatus as statuses
use Rattle.vsm_core.specs.declared.mark.What.{What}
use Rattle.vsm_core.specs.declared.mark.What.TheVariants.{Part, Reply as Result}
use Rattle.vsm_core.specs.declared.operation.Program.{Program}
use Rattle.vsm_core.specs.declared.partition_state.PartitionState.{PartitionState}
use Rattle.vsm_core.specs.Calls.{code_in, count_in, result_value, start_in}
use Rattle.vsm_core.specs.Hypercalls.{input_value}
use Rattle.vsm_core.specs.Processor.{Vp, attempted, operation_at, operations_of, origin_of, tree_of}
use Rattle.vsm_core.specs.RegisterCalls.{count_of, past_of, slice_end, start_of}
use Rattle.vsm_core.specs.Registers.{IsWhole, get}
use Rattle.vsm_core.specs.Reps.{GoesOn, Complete, acting, refusing, rep_end, slice_past, with_start}
use Rattle.vsm_core.specs.State.{State}
use Rattle.vsm_core.specs.Whole.{Flat}
use Rattle.vsm_laws.specs.ReadWords.{words_read}
use Rattle.vsm_laws.specs.Slices.{GoThrough, IsAdmitted, IsAtCall, goes_or_ends, is_part, is_sliced, refusals_of}
use Rattle.vsm_laws.specs.Slices.{slice_refusals, slices_from, slices_of, what_of, whats_left}
use Rattle.vsm_laws.proofs.ServedEnds.{CameTo, EndsServed, attempted-come, left-what, part-in, part-marked}
use Rattle.vsm_laws.proofs.SliceAnswers.{IsSliceEnd}
use Rattle.vsm_laws.proofs.SliceCalls.{HasEnded, IsCounted, counted-by, hypercall-ends}
use Rattle.vsm_laws.proofs.SliceRows.{IsGood, acting-all, acting-behind, acting-within, next-value, refusing-behind}
use Rattle.vsm_laws.proofs.SliceStates.{StandsStill}

-- a slice after which elements are left, and one after which there is a result
record IsPartEnd (start count acted next : ℕ) (refusal : Option HvStatus) : Type 0 where
  pub clear : refusal ≡ None
  pub at : start + acted ≡ next
  pub more : next < count

part-by : (b : Bool) (start count acted next : ℕ) → nat_lt (start + acted) count ≡ b
    → what_of (cond b (GoesOn (start + acted)) (Complete (start + acted))) ≡ Part next
    → IsPartEnd start count acted next None
part-by true start count acted next below e = let same : start + acted ≡ next =
    cc in record { clear = refl; at = same; more = rw (← same) (grind arith) }
part-by false start count acted next below e = cc

part-end : (start count acted next : ℕ) (refusal : Option HvStatus)
    → what_of (rep_end start count acted refusal) ≡ Part next → IsPartEnd start count acted next refusal
part-end start count acted next None e = part-by (nat_lt (start + acted) count) start count acted next refl e
part-end start count acted next (Some status) e = cc

record IsLastEnd (start count acted result : ℕ) (refusal : Option HvStatus) : Type 0 where
  pub complete : refusal ≡ None → (count ≤ start + acted) × (result ≡ result_value statuses.SUCCESS (start + acted))
  pub refused : (status : HvStatus) → refusal ≡ Some status → result ≡ result_value status (start + acted)

last-by : (b : Bool) (start count acted result : ℕ) → nat_lt (start + acted) count ≡ b
    → what_of (cond b (GoesOn (start + acted)) (Complete (start + acted))) ≡ Result result
    → IsLastEnd start count acted result None
last-by true start count acted result below e = cc
last-by false start count acted result below e = record
    { complete = λ none. (grind arith, cc); refused = λ status some. cc }

last-end : (start count acted result : ℕ) (refusal : Option HvStatus)
    → what_of (rep_end start count acted refusal) ≡ Result result → IsLastEnd start count acted result refusal
last-end start count acted result None e = last-by (nat_lt (start + acted) count) start count acted result refl e
last-end start count acted result (Some status) e = record {
  complete = λ none. cc;
  refused = λ other some. let same : status ≡ other =
      cc in subst (λ s. result ≡ result_value s (start + acted)) same (cc);
}

-- numbers of elements
eight-more : (start count acted long next : ℕ) → start < count → acted ≡ long → long ≡ slice_past start count - start
    → start + acted ≡ next → next < count → (long ≡ 8) × (next ≡ start + 8)
eight-more start count acted long next starts all whole at more =
    (grind (arith, starts, all, whole, at, more), grind (arith, starts, all, whole, at, more))

at-count : (start count acted : ℕ) → start < count → acted ≡ slice_past start count - start → count ≤ start + acted
    → start + acted ≡ count
at-count start count acted starts whole all = grind (arith, starts, whole, all)

one-slice : (start count acted : ℕ) → start < count → acted ≤ 8 → start + acted ≡ count → 1 ≡ (count - start + 7) / 8
one-slice start count acted starts few all = omega (arith, starts, few, all)

one-more-slice : (start count many : ℕ) → start + 8 < count → many ≡ (count - (start + 8) + 7) / 8
    → suc many ≡ (count - start + 7) / 8
one-more-slice start count many more is = omega (arith, more, is)

one-refused : (acted long : ℕ) → acted < long → long ≤ 8 → 1 ≡ acted / 8 + 1
one-refused acted long within few = omega (arith, within, few)

one-more-refused : (acted before many : ℕ) → before ≡ 8 → many ≡ acted / 8 + 1 → suc many ≡ (before + acted) / 8 + 1
one-more-refused acted before many eight is = omega (arith, eight, is)

-- the input value of the next slice
next-start : (value : ℕ) → start_in value + 8 < count_in value → start_in (value + 8 * 2 ^ 48) ≡ start_in value + 8
next-start value more = grind (arith, more)

next-count : (value : ℕ) → count_in (value + 8 * 2 ^ 48) ≡ count_in value
next-count value = grind arith

next-code : (value : ℕ) → code_in (value + 8 * 2 ^ 48) ≡ code_in value
next-code value = grind arith

-- the same operation stands there
same-operation : (program : Program) (old new : State) → StandsStill old new
    → operation_at program new ≡ operation_at program old
same-operation program old new still =
    let rip : get new.registers new.active names.Rip ≡ get old.registers old.active names.Rip =
    ap (λ level. get new.registers level names.Rip) still.active
    ∙ still.rip in
    ap (λ level. slice_get (operations_of program level) (get new.registers new.active names.Rip % 2 ^ 64))
    still.active ∙ ap (λ r. slice_get (operations_of program old.active) (r % 2 ^ 64)) rip

-- one attempt
came : (program : Program) (v : Vp) (s : PartitionState) (flat : Flat) → IsAtCall program v
    → CameTo (HasEnded s (origin_of v)) v (words_read program v s flat) (attempted program v s flat).vp
came program v s flat at =
    let from = origin_of v in
    attempted-come (HasEnded s from) program v s flat at.started
    (subst (λ op. EndsServed (HasEnded s from) s [] (tree_of from op)) (sym at.hypercall)
    (hypercall-ends s from at.whole at.sliced))

pub slice-by : (program : Program) (v : Vp) (s : PartitionState) (flat : Flat) (what : What) → IsAtCall program v
    → IsAdmitted (origin_of v)
    → whats_left v (attempted program v s flat).vp ≡ what ∷ [] → goes_or_ends what ≡ true
    → what ≡ what_of (slice_end (origin_of v) (slice_refusals s (origin_of v) (words_read program v s flat)))
slice-by program v s flat what at admitted left e =
    let from = origin_of v in
    let words = words_read program v s flat in
    let to = came program v s flat at in
    let is : to.outcome.what ≡ what = left-what (HasEnded s from) v words
    (attempted program v s flat).vp what to left in
    let held = to.holds (subst (IsCounted from) (sym is) (counted-by from what admitted e)) in
    let end : IsSliceEnd from (slice_refusals s from words) to.outcome = held.1 in
    sym is ∙ end.what

-- after which elements are left
record IsPartOf (program : Program) (v : Vp) (refusals : List (Option HvStatus)) (now : Vp) : Type 0 where
  pub clear : refusing refusals ≡ None
  pub eight : length refusals ≡ 8
  pub more : start_of (origin_of v) + 8 < count_of (origin_of v)
  pub value : input_value now.state ≡ input_value v.state + 8 * 2 ^ 48
  pub at : IsAtCall program now

value-small : (state : State) → input_value state < 2 ^ 64
value-small state = omega arith

now-at : (program : Program) (v now : Vp) (new : State) → IsAtCall program v → StandsStill v.state new
    → now.state ≡ new → now.started ≡ v.started → input_value now.state ≡ input_value v.state + 8 * 2 ^ 48
    → IsAtCall program now
now-at program v now new at still is started value = record {
  started = started ∙ at.started;
  hypercall = ap (operation_at program) is ∙ same-operation program v.state new still ∙ at.hypercall;
  sliced = ap (λ x. is_sliced (code_in x)) value ∙ ap is_sliced (next-code (input_value v.state)) ∙ at.sliced;
  whole = subst (λ (state : State). IsWhole state.registers) (sym is) still.whole;
}

part-of : (program : Program) (v : Vp) (s : PartitionState) (flat : Flat) → IsAtCall program v
    → is_part (whats_left v (attempted program v s flat).vp) ≡ true
    → IsPartOf program v (slice_refusals s (origin_of v) (words_read program v s flat))
    (attempted program v s flat).vp
part-of program v s flat at part =
    let from = origin_of v in
    let words = words_read program v s flat in
    let now = (attempted program v s flat).vp in
    let refusals = slice_refusals s from words in
    let to = came program v s flat at in
    let left = part-in (whats_left v now) part in
    let what : to.outcome.what ≡ Part left.next = left-what (HasEnded s from) v words now
    (Part left.next) to left.is in
    let counted : IsCounted from to.outcome.what = subst (IsCounted from) (sym what) tt in
    let held = to.holds counted in
    let good : IsGood (input_value v.state) = held.0 in
    let end : IsSliceEnd from refusals to.outcome = held.1 in
    let ended = part-end (start_of from) (count_of from) (acting refusals) left.next (refusing refusals)
    (sym end.what ∙ what) in
    let eight = eight-more (start_of from) (count_of from) (acting refusals) (length refusals) left.next good.starts
    (acting-all refusals ended.clear) (end.full ended.clear) ended.at ended.more in
    let more : start_of from + 8 < count_of from = rw (← eight.1) ended.more in
    let goes = end.goes left.next what in
    let marked = part-marked (HasEnded s from) v words now left.next to what in
    let value : input_value now.state ≡ input_value v.state + 8 * 2 ^ 48 =
    ap input_value marked.state ∙ goes.value ∙ ap (with_start (input_value v.state)) eight.1
    ∙ next-value (input_value v.state) good (value-small v.state) more in
    record {
      clear = ended.clear;
      eight = eight.0;
      more = more;
      value = value;
      at = now-at program v now
          to.outcome.state at goes.still marked.state marked.started value;
    }

pub part-goes-on : (program : Program) (v : Vp) (s : PartitionState) (flat : Flat) → IsAtCall program v
    → is_part (whats_left v (attempted program v s flat).vp) ≡ true
    → IsAtCall program (attempted program v s flat).vp
    × (input_value (attempted program v s flat).vp.state ≡ input_value v.state + 8 * 2 ^ 48)
part-goes-on program v s flat at part = let one = part-of program v s flat at part in (one.at, one.value)

-- after which there is a result
record IsLastOf (start count : ℕ) (refusals : List (Option HvStatus)) (result : ℕ) : Type 0 where
  pub starts : start < count
  pub few : length refusals ≤ 8
  pub full : refusing refusals ≡ None → length refusals ≡ slice_past start count - start
  pub end : IsLastEnd start count (acting refusals) result (refusing refusals)

last-of : (program : Program) (v : Vp) (s : PartitionState) (flat : Flat) (result : ℕ) → IsAtCall program v
    → IsAdmitted (origin_of v) → whats_left v (attempted program v s flat).vp ≡ Result result ∷ []
    → IsLastOf (start_of (origin_of v)) (count_of (origin_of v))
    (slice_refusals s (origin_of v) (words_read program v s flat)) result
last-of program v s flat result at admitted left =
    let from = origin_of v in
    let words = words_read program v s flat in
    let now = (attempted program v s flat).vp in
    let refusals = slice_refusals s from words in
    let to = came program v s flat at in
    let what : to.outcome.what ≡ Result result = left-what (HasEnded s from) v words now (Result result) to left in
    let counted : IsCounted from to.outcome.what = subst (IsCounted from) (sym what) admitted in
    let held = to.holds counted in
    let good : IsGood (input_value v.state) = held.0 in
    let end : IsSliceEnd from refusals to.outcome = held.1 in
    record {
      starts = good.starts;
      few = end.few;
      full = end.full;
      end = last-end (start_of from) (count_of from) (acting refusals) result (refusing refusals)
          (sym end.what ∙ what);
    }

-- all of them
pub slices-come : (program : Program) (v : Vp) (es : List (PartitionState × Flat)) (result : ℕ) → IsAtCall program v
    → GoThrough program v es result
    → slices_of program v es ≡ slices_from (length es) (start_of (origin_of v)) (count_of (origin_of v))
slices-come program v [] result at through = absurd through
slices-come program v (e ∷ []) result at through = refl
slices-come program v (e ∷ f ∷ es) result at through =
    let now = (attempted program v e.0 e.1).vp in
    let one = part-of program v e.0 e.1 at through.0 in
    let value = input_value v.state in
    let start : start_of (origin_of now) ≡ start_of (origin_of v) + 8 = ap start_in one.value
    ∙ next-start value one.more in
    let count : count_of (origin_of now) ≡ count_of (origin_of v) = ap count_in one.value ∙ next-count value in
    ap (λ l. (start_of (origin_of v), past_of (origin_of v)) ∷ l)
    (slices-come program now (f ∷ es) result one.at through.1
    ∙ ap (λ n. slices_from (length (f ∷ es)) n (count_of (origin_of now))) start
    ∙ ap (slices_from (length (f ∷ es)) (start_of (origin_of v) + 8)) count)

last-complete : (start count : ℕ) (refusals : List (Option HvStatus)) (result : ℕ)
    → IsLastOf start count refusals result → refusing refusals ≡ None
    → (result ≡ result_value statuses.SUCCESS count) × (1 ≡ (count - start + 7) / 8)
last-complete start count refusals result last none =
    let acted = acting-all refusals none in
    let end = last.end.complete none in
    let all : start + acting refusals ≡ count = at-count start count (acting refusals) last.starts
    (acted ∙ last.full none) end.0 in (
      end.1 ∙ ap (result_value statuses.SUCCESS) all,
      one-slice start count (acting refusals) last.starts
          (rw acted last.few) all,
    )

pub calls-complete : (program : Program) (v : Vp) (es : List (PartitionState × Flat)) (result : ℕ)
    → IsAtCall program v → GoThrough program v es result → refusing (refusals_of program v es) ≡ None
    → (result ≡ result_value statuses.SUCCESS (count_of (origin_of v)))
    × (length es ≡ (count_of (origin_of v) - start_of (origin_of v) + 7) / 8)
calls-complete program v [] result at through none = absurd through
calls-complete program v (e ∷ []) result at through none =
    let from = origin_of v in
    let refusals = slice_refusals e.0 from (words_read program v e.0 e.1) in
    last-complete (start_of from) (count_of from) refusals result
    (last-of program v e.0 e.1 result at through.0 through.1)
    (subst (λ l. refusing l ≡ None) (append-nil refusals) none)
calls-complete program v (e ∷ f ∷ es) result at through none =
    let from = origin_of v in
    let refusals = slice_refusals e.0 from (words_read program v e.0 e.1) in
    let now = (attempted program v e.0 e.1).vp in
    let one = part-of program v e.0 e.1 at through.0 in
    let value = input_value v.state in
    let start : start_of (origin_of now) ≡ start_of from + 8 = ap start_in one.value ∙ next-start value one.more in
    let count : count_of (origin_of now) ≡ count_of from = ap count_in one.value ∙ next-count value in
    let more = calls-complete program now (f ∷ es) result one.at through.1
    (sym (refusing-behind refusals (refusals_of program now (f ∷ es)) one.clear) ∙ none) in (
      more.0 ∙ ap (result_value statuses.SUCCESS) count,
      one-more-slice (start_of from) (count_of from) (length (f ∷ es)) one.more
          (more.1 ∙ ap (λ n. (n - start_of (origin_of now) + 7) / 8) count
          ∙ ap (λ n. (count_of from - n + 7) / 8) start),
    )

last-refused : (start count : ℕ) (refusals : List (Option HvStatus)) (result : ℕ) (status : HvStatus)
    → IsLastOf start count refusals result → refusing refusals ≡ Some status
    → (result ≡ result_value status (start + acting refusals)) × (1 ≡ acting refusals / 8 + 1)
last-refused start count refusals result status last some = (
  last.end.refused status some,
  one-refused (acting refusals) (length refusals)
      (acting-within refusals (λ none. let no : None ≡ Some status = sym none ∙ some in cc)) last.few,
)

pub calls-refused : (program : Program) (v : Vp) (es : List (PartitionState × Flat)) (result : ℕ) (status : HvStatus)
    → IsAtCall program v → GoThrough program v es result → refusing (refusals_of program v es) ≡ Some status
    → (result ≡ result_value status (start_of (origin_of v) + acting (refusals_of program v es)))
    × (length es ≡ acting (refusals_of program v es) / 8 + 1)
calls-refused program v [] result status at through some = absurd through
calls-refused program v (e ∷ []) result status at through some =
    let from = origin_of v in
    let refusals = slice_refusals e.0 from (words_read program v e.0 e.1) in
    subst (λ l. (result ≡ result_value status (start_of from + acting l)) × (1 ≡ acting l / 8 + 1))
    (sym (append-nil refusals))
    (last-refused (start_of from) (count_of from) refusals result status
    (last-of program v e.0 e.1 result at through.0 through.1)
    (subst (λ l. refusing l ≡ Some status) (append-nil refusals) some))
calls-refused program v (e ∷ f ∷ es) result status at through some =
    let from = origin_of v in
    let refusals = slice_refusals e.0 from (words_read program v e.0 e.1) in
    let now = (attempted program v e.0 e.1).vp in
    let rest = refusals_of program now (f ∷ es) in
    let one = part-of program v e.0 e.1 at through.0 in
    let start : start_of (origin_of now) ≡ start_of from + 8 = ap start_in one.value
    ∙ next-start (input_value v.state) one.more in
    let more = calls-refused program now (f ∷ es) result status one.at through.1
    (sym (refusing-behind refusals rest one.clear) ∙ some) in
    let acted : acting (refusals ++ rest) ≡ length refusals + acting rest = acting-behind refusals rest one.clear in
    let eight = one.eight in
    let at_index : start_of (origin_of now) + acting rest ≡ start_of from + acting (refusals ++ rest) =
    omega (arith, start, acted, eight) in (
      more.0 ∙ ap (result_value status) at_index,
      one-more-refused (acting rest) (length refusals) (length (f ∷ es)) eight more.1
          ∙ ap (λ n. n / 8 + 1) (sym acted),
    )
