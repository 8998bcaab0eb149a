-- Whatever is answered, an attempt keeps the registers that are the other level's own, unless it enables level 1 or is a hypercall of level 1.
use Rattle.std.proofs.Common.{◌≡◌, ◌≢◌, ◌∙◌, ◌==◌, ◌&&◌, ◌++◌, ℕ, Bool, true, false, not, cond, Option, Some, None, List, [], ◌∷◌, take, refl, sym, subst, slice_set}
use Rattle.vsm_base.specs.Names.{is_shared}
use Rattle.vsm_base.specs.declared.name.Name.{Name}
use Rattle.vsm_base.specs.declared.name.Name.TheVariants as names
use Rattle.vsm_base.specs.declared.places.Access.TheVariants.{Read, Write, Execute}
use Rattle.vsm_base.specs.declared.places.Vtl.{Vtl}
use Rattle.vsm_base.specs.declared.places.Vtl.TheVariants.{Zero, One}
use Rattle.vsm_base.specs.declared.status.HvStatus.{HvStatus}
use Rattle.vsm_core.specs.declared.mark.EomWord.TheVariants as eoms
use Rattle.vsm_core.specs.declared.mark.Grant.{Grant}
use Rattle.vsm_core.specs.declared.mark.GuestFault.{GuestFault}
use Rattle.vsm_core.specs.declared.mark.GuestFault.TheVariants.{Undefined, Gp}
use Rattle.vsm_core.specs.declared.mark.What.{What}
use Rattle.vsm_core.specs.declared.mark.What.TheVariants as whats
use Rattle.vsm_core.specs.declared.mark.What.TheVariants.{Again, Value, Plain}
use Rattle.vsm_core.specs.declared.note.Note.{Note}
use Rattle.vsm_core.specs.declared.operation.Op.{Op}
use Rattle.vsm_core.specs.declared.operation.Op.TheVariants.{Set, Get, Load, Store, Exec, Spin, Jump, JumpNe, Hypercall, VtlCall, VtlReturn, Poll, Ack, Eoi}
use Rattle.vsm_core.specs.declared.operation.Op.TheVariants as ops
use Rattle.vsm_core.specs.declared.register.CallRegister.{CallRegister}
use Rattle.vsm_core.specs.declared.register.CallRegister.TheVariants.{Kept}
use Rattle.vsm_core.specs.declared.request.Reply.{Reply}
use Rattle.vsm_core.specs.Access.{Goal, Decision, Grants, Denies, Faults, access, start_fault}
use Rattle.vsm_core.specs.Attempt.{attempt, begun, leaves, left_with, in_own_access, told_on, posting, refused, hit_tells, hits_on, intercepted, is_write_hit, is_read_hit, set_tree, get_tree, goal_of, returns, is_wanted, wanted_outcome, unwanted_outcome, polled_on, sending, sends, eom_on}
use Rattle.vsm_core.specs.Calls.{result_value}
use Rattle.vsm_core.specs.Contexts.{enabled_by, has_level, is_legal_context, values_of, with_context}
use Rattle.vsm_core.specs.Controllers.{Controllers, message_page, eom_by, waiting_then}
use Rattle.vsm_core.specs.Fills.{Cached}
use Rattle.vsm_core.specs.Hypercalls.{input_value, own_context, replied, result_outcome, with_result}
use Rattle.vsm_core.specs.Keeps.{EndsIn, other_level}
use Rattle.vsm_core.specs.Outcomes.{Origin, Outcome, Refusal, faulted, plain, outcome_at, fills, loaded, passed, spun, set_outcome, get_outcome, empties, register_note, hit_outcome, next_vector, vector_or_zero, eom_outcome}
use Rattle.vsm_core.specs.RegisterCalls.{Setting, all_emptied, all_set, header_refusal, put_at, register_checks, register_of, set_named, set_one, set_refusals, set_slice, settings, slice_end, slice_outcome}
use Rattle.vsm_core.specs.Registers.{Registers, is_legal, private_of, private_place, put as put_in, shared_place, with_private}
use Rattle.vsm_core.specs.Reps.{RepEnd, Refused, GoesOn, Complete, acting, with_start}
use Rattle.vsm_core.specs.State.{State, get, put, put_legal, gone_to, gone_on, may_name, operand, word_of}
use Rattle.vsm_core.specs.Switch.{assist_page, by_call, by_interrupt, called, entered, is_zero, may_call, may_return, restored_from, returned, with_active, with_pair}
use Rattle.vsm_core.specs.Targets.{is_above, target_level}
use Rattle.vsm_core.specs.Tree.{Ends}
use Rattle.vsm_core.proofs.Checks.{NoneFails, none-fails}
use Rattle.vsm_core.proofs.KeptLevels.{EndsIn-then_, EndsIn-cond, EndsIn-asks_all, Q-cond, Stays, same-stays, stays-then, put-stays, put_legal-stays, gone_to-stays, gone_on-stays, put-then-on, legal-then-on}
use Rattle.vsm_laws.specs.ReadWords.{EndsReading}
use Rattle.vsm_laws.proofs.Reading.{reading-any, refused-ends}
use Rattle.vsm_laws.proofs.SetCalls.{hypercall-so}

-- unless level 1 was enabled, the registers stay that are the other level's own
abbrev pub KeepsOther : State → State → Type 0
KeepsOther old new = new.enabled ≡ old.enabled → private_of new.registers (other_level old.active) ≡ private_of old.registers (other_level old.active)

keeps-so : (old new : State) → Stays old new → KeepsOther old new
keeps-so old new h = λ e. h.private

keeps-same : (s : State) → KeepsOther s s
keeps-same s = λ e. refl

abbrev Keeps : State → Outcome → Type 0
Keeps s o = KeepsOther s o.state

at-so : (from : Origin) (what : What) (state : State) (does : List Cached) → Stays from.state state → Keeps from.state (outcome_at from what state does)
at-so from what state does h = keeps-so from.state state h

faulted-so : (from : Origin) (fault : GuestFault) → Keeps from.state (faulted from fault)
faulted-so from fault = keeps-same from.state

-- level 1 is entered
entered-so : (s new : State) → Stays s new → KeepsOther s (entered new)
entered-so s new h = λ e. h.private

-- an access is denied
refused-so : (from : Origin) (gva : Option ℕ) (r : Refusal) (does : List Cached) → EndsIn (Keeps from.state) (refused from gva r does)
refused-so from gva r does = refused-ends from (Keeps from.state) gva r does (keeps-same from.state) (λ note slot e. refl)

leaves-so : (from : Origin) (gva : ℕ) (granted : Grant → What × State) → ((grant : Grant) → Stays from.state (granted grant).1) → (d : Decision) → EndsIn (Keeps from.state) (leaves from gva granted d)
leaves-so from gva granted h (Grants grant fill) = λ x. at-so from (granted grant).0 (granted grant).1 (fills from.state.active fill) (h grant)
leaves-so from gva granted h (Denies page mask generation kind gpa fill) = refused-so from (Some gva) _ _
leaves-so from gva granted h (Faults fault) = λ x. faulted-so from fault

begun-so : (from : Origin) (granted : Grant → What × State) (goal : Goal) (fault : Option GuestFault) → ((grant : Grant) → Stays from.state (granted grant).1) → EndsIn (Keeps from.state) (begun from granted goal fault)
begun-so from granted goal (Some fault) h = faulted-so from fault
begun-so from granted goal None h = EndsIn-then_ (Keeps from.state) (access goal) (leaves from goal.gva granted) (leaves-so from goal.gva granted h)

abbrev spin_end : Bool → State → State → Grant → What × State
spin_end b s now grant = cond b (whats.Granted grant, now) (Again grant, s)

spun-stays : (b : Bool) (s now : State) (grant : Grant) → Stays s now → Stays s (spin_end b s now grant).1
spun-stays true s now grant h = h
spun-stays false s now grant h = same-stays s

own-so : (page : Option ℕ) (reason : ℕ) (o : Outcome) (s : State) → Keeps s o → EndsIn (Keeps s) (in_own_access (told_on page reason) o)
own-so None reason o s h = h
own-so (Some page) reason o s h = λ a. λ b. λ c. λ d. h

-- level 0 is returned to
private-shared : (b : Bool) (shared registers other : Registers) (level : Vtl) → b ≡ true → private_of shared level ≡ private_of registers level → private_of (cond b shared other) level ≡ private_of registers level
private-shared true shared registers other level e h = h
private-shared false shared registers other level e h = cc

put-shared : (registers : Registers) (at level : Vtl) (name : Name) (value : ℕ) → is_shared name ≡ true → private_of (put_in registers at name value) level ≡ private_of registers level
put-shared registers at Zero name value e = private-shared (is_shared name) (record registers { shared = slice_set registers.shared (shared_place name) value }) registers (with_private registers at (slice_set (private_of registers at) (private_place name) value)) Zero e refl
put-shared registers at One name value e = private-shared (is_shared name) (record registers { shared = slice_set registers.shared (shared_place name) value }) registers (with_private registers at (slice_set (private_of registers at) (private_place name) value)) One e refl

legal-shared : (s : State) (level : Vtl) (name : Name) (value : ℕ) → is_shared name ≡ true → private_of (put_legal s name value).registers level ≡ private_of s.registers level
legal-shared s level name value e =
    Q-cond (λ (t : State). private_of t.registers level ≡ private_of s.registers level) (is_legal name value) (put s name value) s (put-shared s.registers s.active level name value e) refl

with_pair-so : (s : State) (level : Vtl) (pair : Option (ℕ × ℕ)) → private_of (with_pair s pair).registers level ≡ private_of s.registers level
with_pair-so s level None = refl
with_pair-so s level (Some pair) = legal-shared (put_legal s names.Rax pair.0) level names.Rcx pair.1 refl ∙ legal-shared s level names.Rax pair.0 refl

returned-so : (s : State) (pair : Option (ℕ × ℕ)) → KeepsOther s (returned s pair)
returned-so s pair = λ e. with_pair-so (with_active (gone_on s) Zero) (other_level s.active) pair ∙ (gone_on-stays s).private

returns-so : (from : Origin) (page : Option ℕ) → EndsIn (Keeps from.state) (returns from page)
returns-so from None = returned-so from.state None
returns-so from (Some page) = λ a. λ b. λ rax. λ rcx. λ d. returned-so from.state (Some (rax, rcx))

polled_on-so : (from : Origin) (controllers : Controllers) → EndsIn (Keeps from.state) (polled_on from controllers)
polled_on-so from controllers =
    EndsIn-cond (Keeps from.state) (is_wanted from.state controllers) (in_own_access (told_on (assist_page from.pages from.state) by_interrupt) (wanted_outcome from.state controllers)) (Ends (unwanted_outcome from.state controllers))
    (own-so (assist_page from.pages from.state) by_interrupt (wanted_outcome from.state controllers) from.state (entered-so from.state (gone_on from.state) (gone_on-stays from.state))) (keeps-so from.state _ (gone_on-stays from.state))

eom-so : (from : Origin) (slot : Option ℕ) → Keeps from.state (eom_outcome from slot)
eom-so from slot =
    Q-cond (Keeps from.state) (is_zero from.state.active) (outcome_at from (whats.Eom eoms.Nothing) (gone_on from.state) []) (record {
      what = whats.Eom (eom_by slot from.controllers.waiting);
      state = gone_on from.state;
      controllers = record from.controllers { waiting = waiting_then slot from.controllers.waiting };
      does = [];
    }) (keeps-so from.state _ (gone_on-stays from.state)) (keeps-so from.state _ (gone_on-stays from.state))

sends-so : (from : Origin) (word : ℕ) → EndsIn (Keeps from.state) (sends from word)
sends-so from word = EndsIn-asks_all (Keeps from.state) (sending from (message_page from.pages from.state) from.controllers.waiting word) (left_with (eom_outcome from (Some word))) (λ x. eom-so from (Some word))

eom_on-so : (from : Origin) (page : Option ℕ) (waiting : List Note) → EndsIn (Keeps from.state) (eom_on from page waiting)
eom_on-so from None waiting = eom-so from None
eom_on-so from (Some page) [] = eom-so from None
eom_on-so from (Some page) (note ∷ more) = λ a. λ b. λ word. sends-so from word

-- a call's result
result-so : (from : Origin) (status : HvStatus) (done : ℕ) → Keeps from.state (result_outcome from from.state status done)
result-so from status done = keeps-so from.state _ (legal-then-on from.state names.Rax (result_value status done))

-- a context changes nothing where no level is enabled by it
enabled-then : (s t : State) → t.enabled ≡ true → (u : State) → Stays t u → s.enabled ≡ false → KeepsOther s u
enabled-then s t on u h off = λ e. let no : true ≡ false = sym on ∙ sym h.enabled ∙ e ∙ off in cc

context-by : (has legal : Bool) (s after : State) (f : State → State) → ((t : State) → Stays t (f t)) → (has ≡ false → s.enabled ≡ false) → after.enabled ≡ true → KeepsOther s (f (cond (not has && legal) after s))
context-by true legal s after f stays off on = keeps-so s (f s) (stays s)
context-by false true s after f stays off on = enabled-then s after on (f after) (stays after) (off refl)
context-by false false s after f stays off on = keeps-so s (f s) (stays s)

level-off : (s : State) (level : Vtl) → has_level s level ≡ false → s.enabled ≡ false
level-off s Zero e = cc
level-off s One e = e

with_result-stays : (value : ℕ) (s : State) → Stays s (with_result s value)
with_result-stays value s = legal-then-on s names.Rax value

context-so : (s : State) (context : Option (Vtl × List ℕ)) (value : ℕ) → KeepsOther s (with_result (with_context s context) value)
context-so s None value = keeps-so s _ (with_result-stays value s)
context-so s (Some context) value =
    context-by (has_level s context.0) (is_legal_context context.1) s (enabled_by s context.0 (values_of context.1)) (λ t. with_result t value) (with_result-stays value) (level-off s context.0) refl

-- what a slice comes to
slice-so : (from : Origin) (state : State) (does : List Cached) (end : RepEnd) → Stays from.state state → Keeps from.state (slice_outcome from state does end)
slice-so from state does (Refused status done) h = keeps-so from.state _ (stays-then from.state state _ h (with_result-stays (result_value status done) state))
slice-so from state does (GoesOn next) h = keeps-so from.state _ (stays-then from.state state _ h (put_legal-stays state names.Rcx (with_start (input_value from.state) next)))
slice-so from state does (Complete done) h = keeps-so from.state _ (stays-then from.state state _ h (with_result-stays (result_value _ done) state))

-- what the reply to a call comes to
replied-so : (from : Origin) (reply : Reply) → Keeps from.state (replied from reply)
replied-so from reply = context-so from.state (own_context reply.context) (result_value reply.status reply.done)

-- a call that sets registers of its own level
named-stays : (s : State) (target : Vtl) (register : Option CallRegister) (value : ℕ) → s.active ≡ target → Stays s (set_named s target register value)
named-stays s target (Some (Kept name)) value own = subst (λ l. Stays s (put_at s l name value)) own (put-stays s name value)
named-stays s target _ value own = same-stays s

one-stays : (s : State) (target : Vtl) (setting : Setting) → s.active ≡ target → Stays s (set_one target s setting)
one-stays s target setting own = named-stays s target (register_of setting.number) setting.value own

all-stays : (s : State) (target : Vtl) (settings : List Setting) → s.active ≡ target → Stays s (all_set target s settings)
all-stays s target [] own = same-stays s
all-stays s target (setting ∷ settings) own =
    let h = one-stays s target setting own in
    stays-then s (set_one target s setting) _ h (all-stays (set_one target s setting) target settings (h.active ∙ own))

-- a call of level 0 names no level above it
below-zero : (level : Vtl) → is_above level Zero ≡ false → Zero ≡ level
below-zero Zero e = refl
below-zero One e = cc

zero-own : (vps by : ℕ) (header : List ℕ) → NoneFails (register_checks vps by Zero header) → Zero ≡ target_level Zero header
zero-own vps by header none = below-zero (target_level Zero header) none.1.1.1.1.0

header-own : (from : Origin) (level : Vtl) (header : List ℕ) → level ≡ Zero → NoneFails (register_checks from.vps from.number level header) → level ≡ target_level level header
header-own from Zero header zero none = zero-own from.vps from.number header none
header-own from One header zero none = cc

set-so : (from : Origin) (header words : List ℕ) → from.state.active ≡ Zero → header_refusal from header ≡ None → Keeps from.state (set_slice from (target_level from.state.active header) (settings words))
set-so from header words zero good =
    let target = target_level from.state.active header in
    let refusals = set_refusals from target (settings words) in
    let acted = take (acting refusals) (settings words) in
    let own = header-own from from.state.active header zero (none-fails (register_checks from.vps from.number from.state.active header) good) in
    slice-so from (all_set target from.state acted) (all_emptied target acted) (slice_end from refusals) (all-stays from.state target acted own)

-- so a hypercall of level 0 keeps the registers of level 1's own
pub call-keeps : (from : Origin) → from.state.active ≡ Zero → EndsReading (λ words o. KeepsOther from.state o.state) [] (attempt from Hypercall)
call-keeps from zero =
    hypercall-so from (λ words. Keeps from.state)
    (λ words. faulted-so from Undefined)
    (λ words r. reading-any (Keeps from.state) words (refused from None r []) (refused-so from None r []))
    (λ words status done. result-so from status done)
    (λ words reply. replied-so from reply)
    (λ words end. slice-so from from.state [] end (same-stays from.state))
    (λ header words code long good. set-so from header words zero good)

-- level 1 is told of a register that it intercepts
hit_tells-so : (from : Origin) (note : Note) (slot : Option ℕ) → EndsIn (Keeps from.state) (hit_tells from note slot)
hit_tells-so from note slot =
    EndsIn-asks_all (Keeps from.state) (posting from (message_page from.pages from.state) note slot ++ told_on (assist_page from.pages from.state) by_interrupt) (left_with (hit_outcome from note slot)) (λ x. λ e. refl)

hits_on-so : (from : Origin) (note : Note) (page : Option ℕ) → EndsIn (Keeps from.state) (hits_on from note page)
hits_on-so from note None = own-so (assist_page from.pages from.state) by_interrupt (hit_outcome from note None) from.state (λ e. refl)
hits_on-so from note (Some page) = λ a. λ b. λ word. hit_tells-so from note (Some word)

set_outcome-so : (b : Bool) (from : Origin) (name : Name) (value : ℕ) (does : List Cached) → Keeps from.state (cond b (outcome_at from Plain (gone_on (put from.state name value)) does) (faulted from Gp))
set_outcome-so b from name value does =
    Q-cond (Keeps from.state) b (outcome_at from Plain (gone_on (put from.state name value)) does) (faulted from Gp) (at-so from Plain _ does (put-then-on from.state name value)) (faulted-so from Gp)

set_named-so : (from : Origin) (name : Name) (value : ℕ) → EndsIn (Keeps from.state) (set_tree from name value)
set_named-so from name value =
    let note = register_note from true name value in
    EndsIn-cond (Keeps from.state) (is_write_hit from name value) (intercepted from note) (Ends (set_outcome from name value)) (hits_on-so from note (message_page from.pages from.state))
    (set_outcome-so (may_name from.state name && is_legal name value) from name value (empties from.state.active name))

get_outcome-so : (b : Bool) (from : Origin) (value : ℕ) → Keeps from.state (cond b (outcome_at from (Value value) (gone_on from.state) []) (faulted from Gp))
get_outcome-so b from value =
    Q-cond (Keeps from.state) b (outcome_at from (Value value) (gone_on from.state) []) (faulted from Gp) (at-so from (Value value) _ [] (gone_on-stays from.state)) (faulted-so from Gp)

get-so : (from : Origin) (name : Name) → EndsIn (Keeps from.state) (get_tree from name)
get-so from name =
    let note = register_note from false name 0 in
    EndsIn-cond (Keeps from.state) (is_read_hit from name) (intercepted from note) (Ends (get_outcome from name)) (hits_on-so from note (message_page from.pages from.state))
    (get_outcome-so (may_name from.state name) from (get from.state name))

jumped-stays : (b : Bool) (s : State) (rip : ℕ) → Stays s (cond b (gone_on s) (gone_to s rip))
jumped-stays b s rip = Q-cond (Stays s) b (gone_on s) (gone_to s rip) (gone_on-stays s) (gone_to-stays s rip)

-- and so does each other operation
pub attempt-keeps : (from : Origin) (op : Op) → op ≢ Hypercall → EndsIn (λ (o : Outcome). KeepsOther from.state o.state) (attempt from op)
attempt-keeps from (Set name value) other = set_named-so from name value
attempt-keeps from (Get name) other = get-so from name
attempt-keeps from (Load name gva) other = let goal = goal_of from.pages from.state Read true gva.0 0 in begun-so from (loaded from.state name) goal (start_fault goal) (λ grant. legal-then-on from.state name grant.value)
attempt-keeps from (Store gva what) other = let goal = goal_of from.pages from.state Write true gva.0 (operand from.state what) in begun-so from (passed from.state) goal (start_fault goal) (λ grant. gone_on-stays from.state)
attempt-keeps from (Exec gva) other = let goal = goal_of from.pages from.state Execute false gva.0 0 in begun-so from (passed from.state) goal (start_fault goal) (λ grant. gone_on-stays from.state)
attempt-keeps from (Spin gva value) other = let goal = goal_of from.pages from.state Read true gva.0 0 in begun-so from (spun from.state value) goal (start_fault goal) (λ grant. spun-stays (grant.value == value) from.state (gone_on from.state) grant (gone_on-stays from.state))
attempt-keeps from (Jump rip) other = keeps-so from.state _ (gone_to-stays from.state rip)
attempt-keeps from (JumpNe name value rip) other = keeps-so from.state _ (jumped-stays (word_of from.state name == value) from.state rip)
attempt-keeps from Hypercall other = absurd (other refl)
attempt-keeps from VtlCall other =
    EndsIn-cond (Keeps from.state) (may_call from.state) (in_own_access (told_on (assist_page from.pages from.state) by_call) (plain from (called from.state))) (Ends (faulted from Undefined)) (own-so (assist_page from.pages from.state) by_call (plain from (called from.state)) from.state (entered-so from.state (gone_on from.state) (gone_on-stays from.state))) (faulted-so from Undefined)
attempt-keeps from VtlReturn other =
    EndsIn-cond (Keeps from.state) (may_return from.state) (returns from (restored_from from.pages from.state)) (Ends (faulted from Undefined)) (returns-so from (restored_from from.pages from.state)) (faulted-so from Undefined)
attempt-keeps from Poll other = λ a. λ b. λ c. λ d. λ e. λ f. λ g. λ h. polled_on-so from _
attempt-keeps from (Ack name) other = keeps-so from.state _ (legal-then-on from.state name (vector_or_zero (next_vector from)))
attempt-keeps from Eoi other = keeps-so from.state _ (gone_on-stays from.state)
attempt-keeps from ops.Eom other =
    EndsIn-cond (Keeps from.state) (is_zero from.state.active) (Ends (eom_outcome from None)) (eom_on from (message_page from.pages from.state) from.controllers.waiting) (eom-so from None) (eom_on-so from (message_page from.pages from.state) from.controllers.waiting)
attempt-keeps from _ other = faulted-so from Undefined
