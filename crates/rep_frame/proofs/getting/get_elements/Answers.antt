use Rattle.std.proofs.Common.{◌≡◌, ◌+◌, ◌-◌, ◌%◌, ◌<◌, None, Some, rules, arith, sym}
use Rattle.vsm_core.specs.RegisterCalls.{get_refusal, value_named, register_of}
use Rattle.rep_frame.specs.Frames.{past_of}
use Rattle.rep_frame.specs.Slices.{state_with, half_at}
use Rattle.rep_frame.proofs.Settings.{IsSlice}
use Rattle.rep_frame.proofs.Numbers.{got-none, got-more, got-refused, got-all}
use Rattle.rep_frame.proofs.getting.get_elements.Goals as goal

pub loop-index-init : goal.loop-index-init
loop-index-init c = got-none _ _ _ _ _ _ (search rules)

pub loop-index-preserved : goal.loop-index-preserved
loop-index-preserved c =
    let state = state_with c.args.bank.now c.args.status.active c.args.status.one_enabled in
    let number = half_at c.args.words.now (c.args.frame.now.next % 2 + c.loop-index.index) in
    let slice : IsSlice c.args.frame.now c.args.words.now = record { ordered = search rules; few = search rules; long = search rules } in
    let below : c.loop-index.index < past_of c.args.frame.now - c.args.frame.now.next = search rules in
    let none : get_refusal c.args.status.active c.args.target c.args.frame.now.count number ≡ None = search rules in
    let is : c.in-Ok.value ≡ value_named state c.args.target (register_of number) = search rules in
    got-more c.args.status.active c.args.target state c.args.frame.now c.args.words.now c.args.output.now c.loop-index.output c.put_value.new.output c.loop-index.index c.in-Ok.value slice below none is c.put_value.ensures c.loop-index.invariant c.put_value.array_long

pub returns-in-Err : goal.returns-in-Err
returns-in-Err c =
    let state = state_with c.args.bank.now c.args.status.active c.args.status.one_enabled in
    let number = half_at c.args.words.now (c.args.frame.now.next % 2 + c.loop-index.index) in
    let slice : IsSlice c.args.frame.now c.args.words.now = record { ordered = search rules; few = search rules; long = search rules } in
    let below : c.loop-index.index < past_of c.args.frame.now - c.args.frame.now.next = search rules in
    let some : get_refusal c.args.status.active c.args.target c.args.frame.now.count number ≡ Some c.in-Err.refusal = search rules in
    let has = got-refused c.args.status.active c.args.target state c.args.frame.now c.args.words.now c.args.output.now c.loop-index.output c.loop-index.index c.in-Err.refusal slice below some c.loop-index.invariant in
    record { done = has.done; within = omega (arith, below); refusal = has.refusal; output = has.output; rest = has.rest }

pub returns : goal.returns
returns c =
    let state = state_with c.args.bank.now c.args.status.active c.args.status.one_enabled in
    let slice : IsSlice c.args.frame.now c.args.words.now = record { ordered = search rules; few = search rules; long = search rules } in
    let length : c.slice-first.result.1 - c.slice-first.result.0 ≡ past_of c.args.frame.now - c.args.frame.now.next = search rules in
    let end : past_of c.args.frame.now - c.args.frame.now.next ≡ c.slice-first.result.1 - c.slice-first.result.0 = sym length in
    let at : c.loop-index.index ≡ c.slice-first.result.1 - c.slice-first.result.0 = omega (arith, length) in
    let so_far = rw at at c.loop-index.invariant in
    let has = got-all c.args.status.active c.args.target state c.args.frame.now c.args.words.now c.args.output.now c.loop-index.output (c.slice-first.result.1 - c.slice-first.result.0) slice end so_far in
    record { done = has.done; within = omega (arith, length); refusal = has.refusal; output = has.output; rest = has.rest }
