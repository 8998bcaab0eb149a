use Rattle.std.proofs.Common.{◌≡◌, ◌<◌, ◌≤◌, rules, true, Some, is_some}
use Rattle.vsm_core.specs.RegisterCalls.{register_of, set_refusal}
use Rattle.rep_frame.specs.Frames.{past_of}
use Rattle.rep_frame.specs.Slices.{setting_at}
use Rattle.rep_frame.proofs.Settings.{IsSlice}
use Rattle.rep_frame.proofs.Writes.{empty-write, refused-write, other-write}
use Rattle.rep_frame.proofs.setting.write_in.Goals as goal

pub returns-then-first-past : goal.returns-then-first-past
returns-then-first-past c =
    let slice : IsSlice c.args.frame.now c.args.words.now = record { ordered = search rules; few = search rules; long = search rules } in
    let empty : past_of c.args.frame.now ≤ c.args.frame.now.next = search rules in
    empty-write c.args.caller c.args.target c.args.frame.now c.args.words.now slice empty

pub returns-then-is_some : goal.returns-then-is_some
returns-then-is_some c =
    let slice : IsSlice c.args.frame.now c.args.words.now = record { ordered = search rules; few = search rules; long = search rules } in
    let first : c.args.frame.now.next < past_of c.args.frame.now = search rules in
    let refused : is_some (set_refusal c.args.caller c.args.target c.args.frame.now.count (setting_at c.args.words.now 0)) ≡ true = search rules in
    refused-write c.args.caller c.args.target c.args.frame.now c.args.words.now slice first refused

pub returns-in_default : goal.returns-in_default
returns-in_default c =
    let slice : IsSlice c.args.frame.now c.args.words.now = record { ordered = search rules; few = search rules; long = search rules } in
    let first : c.args.frame.now.next < past_of c.args.frame.now = search rules in
    let is : register_of (setting_at c.args.words.now 0).number ≡ Some c.in_ok-register_of.field-0 = search rules in
    other-write c.args.caller c.args.target c.args.frame.now c.args.words.now c.in_ok-register_of.field-0 slice first is c.in_default.not-PartitionConfig
