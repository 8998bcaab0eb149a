use Rattle.std.proofs.Common.{◌≡◌, ◌∙◌, ◌<◌, ◌-◌, None, Some, Bool, rules, arith, ap}
use Rattle.vsm_base.specs.declared.places.Vtl.{Vtl}
use Rattle.vsm_core.specs.RegisterCalls.{Setting, set_refusal, set_one}
use Rattle.vsm_core.specs.Registers.{Registers}
use Rattle.rep_frame.specs.Frames.{past_of}
use Rattle.rep_frame.specs.Slices.{state_with, setting_at}
use Rattle.rep_frame.proofs.Settings.{IsSlice, set-none, set-more, set-refused, set-all}
use Rattle.rep_frame.proofs.setting.set_elements.Goals as goal

pub loop-index-init : goal.loop-index-init
loop-index-init c = set-none _ _ _ _ _

pub loop-index-preserved : goal.loop-index-preserved
loop-index-preserved c =
    let slice : IsSlice c.args.frame.now c.args.words.now = record { ordered = search rules; few = search rules; long = search rules } in
    let below : c.loop-index.index < past_of c.args.frame.now - c.args.frame.now.next = search rules in
    let none : set_refusal c.args.caller c.args.target c.args.frame.now.count (setting_at c.args.words.now c.loop-index.index) ≡ None = search rules in
    let acts : (active : Vtl) (enabled : Bool) → state_with c.set_element.new.bank active enabled ≡ set_one c.args.target (state_with c.loop-index.bank active enabled) (setting_at c.args.words.now c.loop-index.index) =
    λ active enabled. c.set_element.ensures.acts c.in_default.is active enabled ∙ ap (λ (s : Setting). set_one c.args.target (state_with c.loop-index.bank active enabled) s) c.setting_at-setting.ensures in
    set-more c.args.caller c.args.target c.args.frame.now c.args.words.now c.args.bank.now c.loop-index.bank c.set_element.new.bank c.loop-index.index slice below none acts c.loop-index.invariant

pub returns-in-Some : goal.returns-in-Some
returns-in-Some c =
    let slice : IsSlice c.args.frame.now c.args.words.now = record { ordered = search rules; few = search rules; long = search rules } in
    let below : c.loop-index.index < past_of c.args.frame.now - c.args.frame.now.next = search rules in
    let some : set_refusal c.args.caller c.args.target c.args.frame.now.count (setting_at c.args.words.now c.loop-index.index) ≡ Some c.in-Some.status = search rules in
    let has = set-refused c.args.caller c.args.target c.args.frame.now c.args.words.now c.args.bank.now c.loop-index.bank c.loop-index.index c.in-Some.status slice below some c.loop-index.invariant in
    record {
      done = has.done;
      within = omega (arith, below);
      refusal = has.refusal;
      registers = λ active enabled. ap (λ (registers : Registers). state_with registers active enabled) c.in-Some.ensures.keeps ∙ has.registers active enabled;
    }

pub returns : goal.returns
returns c =
    let slice : IsSlice c.args.frame.now c.args.words.now = record { ordered = search rules; few = search rules; long = search rules } in
    let length : c.slice-first.result.1 - c.slice-first.result.0 ≡ past_of c.args.frame.now - c.args.frame.now.next = search rules in
    let end : past_of c.args.frame.now - c.args.frame.now.next ≡ c.loop-index.index = omega (arith, length) in
    let has = set-all c.args.caller c.args.target c.args.frame.now c.args.words.now c.args.bank.now c.loop-index.bank c.loop-index.index slice end c.loop-index.invariant in
    record {
      done = length ∙ end ∙ has.done;
      within = omega (arith, length);
      refusal = has.refusal;
      registers = has.registers;
    }
