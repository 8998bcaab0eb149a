-- What an attempt comes to, by how it was decided.
use Rattle.std.specs.Prelude.{ℕ, ◌==◌, Bool, true, false, if◌then◌else◌, List, take, Option, Some, None, []}
use Rattle.vsm_base.specs.declared.name.Name.TheVariants as names
use Rattle.vsm_base.specs.declared.places.Vtl.{Vtl}
use Rattle.vsm_core.specs.declared.mark.Grant.{Grant}
use Rattle.vsm_core.specs.declared.mark.GuestFault.TheVariants.{Undefined}
use Rattle.vsm_core.specs.declared.mark.Posted.TheVariants.{Held}
use Rattle.vsm_core.specs.declared.mark.What.{What}
use Rattle.vsm_core.specs.declared.mark.What.TheVariants as whats
use Rattle.vsm_core.specs.declared.note.Note.{Note}
use Rattle.vsm_core.specs.declared.operation.Op.{Op}
use Rattle.vsm_core.specs.declared.operation.Op.TheVariants.{Set, Get, Load, Spin, Jump, JumpNe, Ack, Eoi}
use Rattle.vsm_core.specs.Attempt.{is_wanted, wanted_outcome, unwanted_outcome}
use Rattle.vsm_core.specs.Contexts.{with_context}
use Rattle.vsm_core.specs.Controllers.{Controllers, with_taken}
use Rattle.vsm_core.specs.Fills.{Cached}
use Rattle.vsm_core.specs.Hypercalls.{with_result}
use Rattle.vsm_core.specs.Outcomes.{Origin, Outcome, Refusal as Refused, outcome_at, plain, set_outcome, get_outcome}
use Rattle.vsm_core.specs.Outcomes.{jumped, ack_outcome, eoi_outcome, register_note, hit_outcome, faulted, loaded}
use Rattle.vsm_core.specs.Outcomes.{passed, spun, note_of, held_outcome, denied_outcome, eom_outcome, fills}
use Rattle.vsm_core.specs.RegisterCalls.{all_emptied, count_of, part_outcome, slice_outcome, start_of}
use Rattle.vsm_core.specs.Reps.{acting}
use Rattle.vsm_core.specs.State.{State, gone_to}
use Rattle.vsm_core.specs.Switch.{may_enter, may_call, may_return, called, returned}
use Rattle.rep_frame.specs.Frames.{Frame, frame_of}
use Rattle.rep_frame.specs.Slices.{end_of, setting_refusals, slice_set, slice_settings}
use Rattle.attempt.specs.declared.stage.Decided.{Decided}
use Rattle.attempt.specs.declared.stage.Decided.TheVariants as by
use Rattle.attempt.specs.declared.stage.Refusal.{Refusal}
use Rattle.attempt.specs.declared.under.Under.{Under}
use Rattle.attempt.specs.Paths.{fill_of, filled_by, grant_of}

-- what an operation makes of a grant
abbrev pub granted_of : State → Op → Grant → What × State
granted_of state (Load name gva) grant = loaded state name grant
granted_of state (Spin gva value) grant = spun state value grant
granted_of state _ grant = passed state grant

abbrev pub refusal_of : Refusal → Refused
refusal_of r = record { page = r.page.0; mask = r.mask; generation = r.generation; access = r.access; gpa = r.gpa }

-- what a denied access does to the cached translations
abbrev pub done_by : Origin → Under → List Cached
done_by from u = fills from.state.active (filled_by u.path u.refusal.filled)

-- a denied access of this note where the message slot has this first word: level 1 is entered, where it may be
abbrev pub denied_or_held : Origin → Refusal → List Cached → Option ℕ → Outcome
denied_or_held from r does slot =
    if may_enter from.state then denied_outcome from (refusal_of r) (note_of from r.gva (refusal_of r)) slot does
    else held_outcome from (refusal_of r) does

-- a poll after which the controllers hold this
abbrev pub polled_outcome : State → Controllers → Outcome
polled_outcome state controllers = if is_wanted state controllers then wanted_outcome state controllers else
    unwanted_outcome state controllers

-- what an operation comes to that makes no step
abbrev pub local_outcome : Origin → Op → Outcome
local_outcome from (Set name value) = set_outcome from name value
local_outcome from (Get name) = get_outcome from name
local_outcome from (Jump rip) = plain from (gone_to from.state rip)
local_outcome from (JumpNe name value rip) = plain from (jumped from.state name value rip)
local_outcome from (Ack name) = ack_outcome from name
local_outcome from Eoi = eoi_outcome from
local_outcome from _ = faulted from Undefined

-- a switch to another state; it is undefined where it isn't lawful
abbrev pub switched : Bool → Origin → State → Outcome
switched lawful from after = if lawful then plain from after else faulted from Undefined

-- what level 1 is told of an operation whose register it intercepts
abbrev pub hit_note : Origin → Op → Note
hit_note from (Set name value) = register_note from true name value
hit_note from (Get name) = register_note from false name 0
hit_note from _ = register_note from false names.Rax 0

-- an intercepted register where the message slot has this first word: level 1 is entered, where it may be
abbrev pub hit_or_held : Origin → Op → Option ℕ → Outcome
hit_or_held from op slot =
    if may_enter from.state then hit_outcome from (hit_note from op) slot else outcome_at from
    (whats.Hit Held) from.state []

-- a slice of a call that sets registers of a level, whose elements these words hold
abbrev pub set_outcome_of : Origin → Vtl → Frame → List ℕ → Outcome
set_outcome_of from target frame words =
    slice_outcome from (slice_set from.state.active target frame words from.state)
    (all_emptied target (take (acting (setting_refusals from.state.active target frame words))
    (slice_settings frame words)))
    (end_of frame (setting_refusals from.state.active target frame words))

-- a call has this result, in this state
abbrev pub reply_outcome : Origin → State → ℕ → Outcome
reply_outcome from state value = outcome_at from (whats.Reply value) (with_result state value) []

abbrev pub access_outcome : Origin → Under → What × State → Outcome
access_outcome from u came = outcome_at from came.0 came.1 (fills from.state.active (Some (fill_of u.path.fill)))

-- what an attempt comes to that was decided so
abbrev pub outcome_of : Origin → Under → Decided → Outcome
outcome_of from u by.Local = local_outcome from u.op
outcome_of from u (by.Hit slot) = hit_or_held from u.op slot
outcome_of from u by.Called = switched (may_call from.state) from (called from.state)
outcome_of from u (by.Returned pair) = switched (may_return from.state) from (returned from.state pair)
outcome_of from u (by.Granted value) = access_outcome from u (granted_of from.state u.op (grant_of u.path.fill value))
outcome_of from u (by.Denied slot) = denied_or_held from u.refusal (done_by from u) slot
outcome_of from u (by.Fault fault) = faulted from fault
outcome_of from u by.Polled = polled_outcome from.state (with_taken from.controllers u.taken)
outcome_of from u (by.Replied value) = reply_outcome from from.state value
outcome_of from u (by.Enabled level value) =
    reply_outcome from (with_context from.state (Some (level, take 28 u.header))) value
outcome_of from u (by.Part next) = part_outcome from from.state [] next
outcome_of from u (by.Set target) = set_outcome_of from target (frame_of (count_of from) (start_of from)) u.slice
outcome_of from u (by.Eom slot) = eom_outcome from slot

abbrev pub result_of : Origin → Under → Outcome
result_of from u = outcome_of from u u.decided

-- the grant of a spin that found another value
abbrev pub again_by : Under → Op → Decided → Option Grant
again_by u (Spin gva value) (by.Granted found) = if found == value then None else Some (grant_of u.path.fill found)
again_by u op decided = None
