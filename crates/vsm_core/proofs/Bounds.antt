-- How many steps an attempt has.
use Rattle.std.proofs.Common.{◌≤◌, ◌+◌, ◌-◌, ◌*◌, ◌/◌, ◌%◌, ◌^◌, ◌==◌, ◌&&◌, ℕ, zero, suc, Bool, true, false, not, cond, nat_lt, Option, Some, None, List, [], ◌∷◌, ◌++◌, length, take, drop, IfSome, ◌≡◌, refl, ap, ◌∙◌, subst, arith}
use Rattle.std.specs.List.{filter, range_with_len}
use Rattle.std.proofs.lemmas.Bool.Decides.{nat_tests}
use Rattle.std.proofs.lemmas.List.{length-append, length-map, take-append-le, drop-append-le}
use Rattle.std.proofs.lemmas.List.FromFn.{length-range_with_len}
use Rattle.vsm_base.specs.declared.name.Name.{Name}
use Rattle.vsm_base.specs.declared.name.Name.TheVariants as names
use Rattle.vsm_base.specs.Masks.{allows}
use Rattle.vsm_base.specs.declared.places.Access.{Access}
use Rattle.vsm_base.specs.declared.places.Access.TheVariants.{Read, Write, Execute}
use Rattle.vsm_base.specs.declared.places.Vtl.{Vtl}
use Rattle.vsm_base.specs.declared.places.Vtl.TheVariants.{Zero, One}
use Rattle.vsm_base.specs.declared.status.HvStatus.{HvStatus}
use Rattle.vsm_base.specs.declared.status.TheConstants.HvStatus as statuses
use Rattle.vsm_core.specs.declared.mark.Grant.{Grant}
use Rattle.vsm_core.specs.declared.mark.GuestFault.{GuestFault}
use Rattle.vsm_core.specs.declared.mark.GuestFault.TheVariants.{Unmapped, Page, Undefined, Gp}
use Rattle.vsm_core.specs.declared.mark.What.{What}
use Rattle.vsm_core.specs.declared.mark.What.TheVariants.{Granted, Again, Denied, Value, Plain, Eom}
use Rattle.vsm_core.specs.declared.mark.EomWord.{EomWord}
use Rattle.vsm_core.specs.declared.mark.EomWord.TheVariants as eoms
use Rattle.vsm_core.specs.declared.mark.Posted.{Posted}
use Rattle.vsm_core.specs.declared.mark.Posted.TheVariants.{Slot, Waiting, Held}
use Rattle.vsm_core.specs.declared.note.Note.{Note}
use Rattle.vsm_core.specs.declared.operation.Op.{Op}
use Rattle.vsm_core.specs.declared.operation.Op.TheVariants.{Set, Get, Load, Store, Exec, Spin, Hypercall, VtlCall, VtlReturn, Poll}
use Rattle.vsm_core.specs.declared.operation.Op.TheVariants as ops
use Rattle.vsm_core.specs.declared.register.CallRegister.{CallRegister}
use Rattle.vsm_core.specs.declared.register.CallRegister.TheVariants.{Kept, EndOfMessage, CodePageOffsets, VpStatus, PartitionStatus, Capabilities, PartitionConfig}
use Rattle.vsm_core.specs.declared.request.Heard.{Heard}
use Rattle.vsm_core.specs.declared.request.PartCall.{PartCall}
use Rattle.vsm_core.specs.declared.request.Reply.{Reply}
use Rattle.vsm_core.specs.Tree.{Tree, Ends, Asks, Wants, WordStep, Leaving, then_, asks_all, reads, after, follow, by_reply, followed, Counts}
use Rattle.vsm_core.specs.Calls.{Row, row_of, rows, code_in, is_fast, first_failed}
use Rattle.vsm_core.specs.Hypercalls.{input_value, input_address, output_address, has_output, fast_words, input_refusal, asked_of, replied, result_outcome}
use Rattle.vsm_core.specs.Interrupts.{vector_in, processors_in, interrupted_level, interrupt_checks, is_in, those_in, interrupt_step, interrupt_steps}
use Rattle.vsm_core.specs.Starts.{start_tree}
use Rattle.vsm_core.specs.RegisterCalls.{Setting, settings, halves, value_words, got_words, register_of, is_partitions, names_one, name_checks, get_refusal, read_call, unless_refused, look_in, write_in, all_set, all_emptied, slice_outcome, count_of, start_of, past_of, header_refusal, set_refusals, get_refusals, slice_end, slice_numbers, slice_output, got_slice}
use Rattle.vsm_core.specs.Reps.{RepEnd, Refused as ByElement, GoesOn, Complete, slice_past, first_word, words_between, acting, replied_end}
use Rattle.vsm_core.specs.Targets.{target_level}
use Rattle.vsm_core.specs.State.{State, gone_on, may_name, operand, privilege_of}
use Rattle.vsm_core.specs.Fills.{Cached, Fill, Translation}
use Rattle.vsm_core.specs.Walk.{Walked, Need, Mapped, Refused, walk}
use Rattle.vsm_core.specs.Access.{Goal, Decision, Grants, Denies, Faults, data_step, covers, behind_mask, reaches, by_mask, at_page, entry_step, by_table_mask, at_table, tables, access, query_of, start_fault}
use Rattle.vsm_core.specs.Switch.{may_call, may_return, may_enter, called, is_zero, assist_page, restored_from, by_call, by_interrupt}
use Rattle.vsm_core.specs.Controllers.{Controllers, writes, rings, sint0_vector, message_steps, pending_steps, post_steps, eom_steps, message_page, has_none, is_open, eom_by}
use Rattle.vsm_core.specs.Messages.{message_words, flagged, is_free}
use Rattle.vsm_core.specs.Outcomes.{Origin, Outcome, Refusal, faulted, plain, outcome_at, loaded, passed, spun, note_of, held_outcome, denied_outcome, hit_outcome, register_note, set_outcome, get_outcome, eom_outcome}
use Rattle.vsm_core.specs.Registers.{is_legal, get as get_in}
use Rattle.vsm_core.proofs.Checks.{none-fails}
use Rattle.vsm_core.specs.Attempt.{attempt, by_access, begun, leaves, left_with, in_own_access, told_on, by_slot, posting, tells, refused, most_denied, most_steps, most_steps_of, goal_of, returns, is_wanted, wanted_outcome, unwanted_outcome, polled_on, sending, sends, eom_on, requests, left_for, hit_tells, hits_on, intercepted, is_write_hit, is_read_hit, set_tree, get_tree, by_page_mask, behind_page_mask, puts_out, looked_by, served, gets_or_asks, gets_by, sets_or_asks, sets_by, interrupts_by, interrupts, by_input, reads_slice, reads_input, behind_output, by_memory, by_registers, admitted, by_refusal, hypercall_tree}

pub Counts-then_ : {A B : Type 0} (most : A → ℕ) (most_then : B → ℕ) (n : ℕ) (t : Tree A) (f : A → Tree B) → Counts most n t → ((m : ℕ) (a : A) → m ≤ most a → Counts most_then m (f a)) → Counts most_then n (then_ t f)
Counts-then_ most most_then n (Ends a) f h g = g n a h
Counts-then_ most most_then n (Asks s k) f h g = λ x. Counts-then_ most most_then (suc n) (k x) f (h x) g
Counts-then_ most most_then n (Wants q k) f h g = λ r. Counts-then_ most most_then n (k r) f (h r) g

pub Counts-cond : {A : Type 0} (most : A → ℕ) (n : ℕ) (b : Bool) (t u : Tree A) → Counts most n t → Counts most n u → Counts most n (cond b t u)
Counts-cond most n true t u h g = h
Counts-cond most n false t u h g = g

-- how many steps an access may have that came to this
abbrev pub most_of : Decision → ℕ
most_of (Grants grant fill) = 12
most_of (Denies page mask generation kind gpa fill) = 11
most_of (Faults fault) = 12

data_step-counts : (kind : Access) (n : ℕ) (goal : Goal) (page : ℕ) (mask : Option ℕ) (generation : ℕ) (fill : Option Fill) → n ≤ 11 → Counts most_of n (data_step kind goal page mask generation fill)
data_step-counts Read n goal page mask generation fill le = λ x. omega arith
data_step-counts Write n goal page mask generation fill le = λ x. omega arith
data_step-counts Execute n goal page mask generation fill le = λ x. omega arith

behind-counts : (level : Vtl) (n page : ℕ) (by : ℕ → Tree Decision) (unbound : Tree Decision) → ((mask : ℕ) → Counts most_of (suc n) (by mask)) → Counts most_of n unbound → Counts most_of n (behind_mask level page by unbound)
behind-counts Zero n page by unbound h g = h
behind-counts One n page by unbound h g = g

by_mask-counts : (n : ℕ) (goal : Goal) (to : Translation) (generation mask : ℕ) → n ≤ 11 → Counts most_of n (by_mask goal to generation mask)
by_mask-counts n goal to generation mask le =
    Counts-cond most_of n (covers mask goal.need) (reaches goal to generation (Some mask)) (Ends (Denies to.page mask generation goal.access _ _)) (data_step-counts goal.access n goal to.page (Some mask) generation _ le) le

at_page-counts : (n : ℕ) (goal : Goal) (to : Translation) (generation : ℕ) → n ≤ 10 → Counts most_of n (at_page goal to generation)
at_page-counts n goal to generation le =
    Counts-cond most_of n (nat_lt to.page goal.pages) (behind_mask goal.level to.page (by_mask goal to generation) (reaches goal to generation None)) (Ends (Faults Unmapped))
    (behind-counts goal.level n to.page (by_mask goal to generation) (reaches goal to generation None) (λ mask. by_mask-counts (suc n) goal to generation mask (omega arith)) (data_step-counts goal.access n goal to.page None generation _ (omega arith)))
    (omega arith)

by_table_mask-counts : (n : ℕ) (more : List ℕ → Tree Decision) (entries : List ℕ) (generation page index mask : ℕ) → n ≤ 11 → ((es : List ℕ) → Counts most_of (suc n) (more es)) → Counts most_of n (by_table_mask more entries generation page index mask)
by_table_mask-counts n more entries generation page index mask le h =
    Counts-cond most_of n (allows mask Read) (entry_step more entries page index) (Ends (Denies page mask generation Read _ None)) (λ x. h (entries ++ x ∷ [])) le

at_table-counts : (n : ℕ) (more : List ℕ → Tree Decision) (goal : Goal) (entries : List ℕ) (generation : ℕ) (w : Walked) → n ≤ 10 → ((es : List ℕ) → Counts most_of (suc (suc n)) (more es)) → ((es : List ℕ) → Counts most_of (suc n) (more es)) → Counts most_of n (at_table more goal entries generation w)
at_table-counts n more goal entries generation (Need page index) le h g =
    Counts-cond most_of n (nat_lt page goal.pages) (behind_mask goal.level page (by_table_mask more entries generation page index) (entry_step more entries page index)) (Ends (Faults Unmapped))
    (behind-counts goal.level n page (by_table_mask more entries generation page index) (entry_step more entries page index) (λ mask. by_table_mask-counts (suc n) more entries generation page index mask (omega arith) h) (λ x. g (entries ++ x ∷ [])))
    (omega arith)
at_table-counts n more goal entries generation (Mapped to) le h g = at_page-counts n goal to generation le
at_table-counts n more goal entries generation (Refused fault) le h g = omega arith

tables-counts : (more n : ℕ) (goal : Goal) (generation : ℕ) (entries : List ℕ) → n + 2 * more ≤ 10 → Counts most_of n (tables more goal generation entries)
tables-counts zero n goal generation entries le = at_table-counts n (λ _. Ends (Faults Page)) goal entries generation (walk (query_of goal) entries) (omega arith) (λ es. omega arith) (λ es. omega arith)
tables-counts (suc more) n goal generation entries le =
    at_table-counts n (tables more goal generation) goal entries generation (walk (query_of goal) entries) (omega arith) (λ es. tables-counts more (suc (suc n)) goal generation es (omega arith)) (λ es. tables-counts more (suc n) goal generation es (omega arith))

pub access-counts : (goal : Goal) → Counts most_of 0 (access goal)
access-counts goal = λ x. λ generation. tables-counts 4 2 goal generation [] (omega arith)

-- what a granted access comes to is no denial
abbrev IsNoDenial : (Grant → What × State) → Type 0
IsNoDenial granted = (grant : Grant) → 13 ≤ most_steps_of (granted grant).0

-- so many steps, and then the rest
asks_all-counts : {A : Type 0} (most : A → ℕ) (n : ℕ) (steps : List WordStep) (rest : Tree A) → Counts most (n + length steps) rest → Counts most n (asks_all steps rest)
asks_all-counts most n [] rest h = subst (λ m. Counts most m rest) (omega arith) h
asks_all-counts most n (s ∷ steps) rest h = λ x. asks_all-counts most (suc n) steps rest (subst (λ m. Counts most m rest) (omega arith) h)

writes-length : (page index : ℕ) (words : List ℕ) → length (writes page index words) ≡ length words
writes-length page index [] = refl
writes-length page index (word ∷ words) = ap suc (writes-length page (suc index) words)

rings-few : (number : ℕ) (vector : Option ℕ) → length (rings number vector) ≤ 1
rings-few number None = omega arith
rings-few number (Some vector) = omega arith

told_on-few : (page : Option ℕ) (reason : ℕ) → length (told_on page reason) ≤ 1
told_on-few None reason = omega arith
told_on-few (Some page) reason = omega arith

pub words-twelve : (note : Note) → length (message_words note) ≡ 12
unfolding message_words
words-twelve note = refl

pub flagged-length : (more : Bool) (words : List ℕ) → length (flagged more words) ≡ length words
flagged-length false words = refl
flagged-length true [] = refl
flagged-length true (word ∷ words) = refl

message_steps-few : (number : ℕ) (state : State) (page : ℕ) (words : List ℕ) → length words ≡ 12 → length (message_steps number state page words) ≤ 13
message_steps-few number state page words e =
    let vector = sint0_vector (get_in state.registers One names.Sint0 % 2 ^ 64) in
    let l = length-append (writes page 0 words) (rings number vector) in
    let w = writes-length page 0 words in
    let r = rings-few number vector in
    omega (arith, l, w, r, e)

few-cond : (b : Bool) (n : ℕ) (steps others : List WordStep) → length steps ≤ n → length others ≤ n → length (cond b steps others) ≤ n
few-cond true n steps others h g = h
few-cond false n steps others h g = g

post_steps-few : (number : ℕ) (state : State) (page word : ℕ) (waiting : List Note) (note : Note) → length (post_steps number state page word waiting note) ≤ 13
post_steps-few number state page word waiting note =
    few-cond (is_free word) 13 _ (pending_steps page word) (few-cond (has_none waiting) 13 (message_steps number state page (message_words note)) [] (message_steps-few number state page (message_words note) (words-twelve note)) (omega arith)) (omega arith)

posting-few : (from : Origin) (page : Option ℕ) (note : Note) (slot : Option ℕ) → length (posting from page note slot) ≤ 13
posting-few from None note slot = omega arith
posting-few from (Some page) note None = omega arith
posting-few from (Some page) note (Some word) = post_steps-few from.number from.state page word from.controllers.waiting note

told-most : (b : Bool) → most_denied (cond b Slot Waiting) ≡ 27
told-most true = refl
told-most false = refl

tells-counts : (from : Origin) (r : Refusal) (note : Note) (does : List Cached) (slot : Option ℕ) (n : ℕ) → n ≤ 12 → Counts most_steps n (tells from r note does slot)
tells-counts from r note does slot n le =
    let steps = posting from (message_page from.pages from.state) note slot in
    let told = told_on (assist_page from.pages from.state) by_interrupt in
    let a = posting-few from (message_page from.pages from.state) note slot in
    let b = told_on-few (assist_page from.pages from.state) by_interrupt in
    let l = length-append steps told in
    let most = told-most (is_open slot && has_none from.controllers.waiting) in
    asks_all-counts most_steps n (steps ++ told) (left_with (denied_outcome from r note slot does)) (λ x. omega (arith, a, b, l, most, le))

by_slot-counts : (page : Option ℕ) (n : ℕ) (more : Option ℕ → Tree Outcome) → ((slot : Option ℕ) (m : ℕ) → m ≤ suc n → Counts most_steps m (more slot)) → Counts most_steps n (by_slot page more)
by_slot-counts None n more h = h None n (omega arith)
by_slot-counts (Some page) n more h = λ word. h (Some word) (suc n) (omega arith)

refused-counts : (from : Origin) (gva : Option ℕ) (r : Refusal) (does : List Cached) (n : ℕ) → n ≤ 11 → Counts most_steps n (refused from gva r does)
refused-counts from gva r does n le =
    Counts-cond most_steps n (may_enter from.state) (by_slot (message_page from.pages from.state) (tells from r (note_of from gva r) does)) (left_with (held_outcome from r does))
    (by_slot-counts (message_page from.pages from.state) n (tells from r (note_of from gva r) does) (λ slot m few. tells-counts from r (note_of from gva r) does slot m (omega (arith, few, le)))) (λ x. omega arith)

leaves-counts : (from : Origin) (gva : ℕ) (granted : Grant → What × State) → IsNoDenial granted → (n : ℕ) (d : Decision) → n ≤ most_of d → Counts most_steps n (leaves from gva granted d)
leaves-counts from gva granted never n (Grants grant fill) le = let h = never grant in λ x. omega arith
leaves-counts from gva granted never n (Denies page mask generation kind gpa fill) le = refused-counts from (Some gva) _ _ n le
leaves-counts from gva granted never n (Faults fault) le = λ x. omega arith

begun-counts : (from : Origin) (granted : Grant → What × State) (goal : Goal) (fault : Option GuestFault) → IsNoDenial granted → Counts most_steps 0 (begun from granted goal fault)
begun-counts from granted goal (Some fault) never = omega arith
begun-counts from granted goal None never = Counts-then_ most_of most_steps 0 (access goal) (leaves from goal.gva granted) (access-counts goal) (leaves-counts from goal.gva granted never)

abbrev spin_end : Bool → State → State → Grant → What × State
spin_end b state now grant = cond b (Granted grant, now) (Again grant, state)

spun-no : (b : Bool) (state now : State) (grant : Grant) → 13 ≤ most_steps_of (spin_end b state now grant).0
spun-no true state now grant = omega arith
spun-no false state now grant = omega arith

by_access-counts : (from : Origin) (granted : Grant → What × State) (goal : Goal) → IsNoDenial granted → Counts most_steps 0 (by_access from granted goal)
by_access-counts from granted goal never = begun-counts from granted goal (start_fault goal) never

-- at most one word in an access of its own
told-counts : (page : Option ℕ) (reason n : ℕ) (o : Outcome) → n + 4 ≤ most_steps o → Counts most_steps n (in_own_access (told_on page reason) o)
told-counts None reason n o le = omega arith
told-counts (Some page) reason n o le = λ a. λ b. λ c. λ d. omega arith

returns-counts : (from : Origin) (page : Option ℕ) → Counts most_steps 0 (returns from page)
returns-counts from None = omega arith
returns-counts from (Some page) = λ a. λ b. λ c. λ d. λ e. omega arith

polled_on-counts : (from : Origin) (controllers : Controllers) → Counts most_steps 8 (polled_on from controllers)
polled_on-counts from controllers =
    Counts-cond most_steps 8 (is_wanted from.state controllers) (in_own_access (told_on (assist_page from.pages from.state) by_interrupt) (wanted_outcome from.state controllers)) (Ends (unwanted_outcome from.state controllers))
    (told-counts (assist_page from.pages from.state) by_interrupt 8 (wanted_outcome from.state controllers) (omega arith)) (omega arith)

eom_steps-few : (number : ℕ) (state : State) (page word : ℕ) (note : Note) (more : List Note) → length (eom_steps number state page word note more) ≤ 13
eom_steps-few number state page word note more =
    let words = flagged (cond (has_none more) false true) (message_words note) in
    few-cond (is_free word) 13 (message_steps number state page words) (pending_steps page word) (message_steps-few number state page words (flagged-length (cond (has_none more) false true) (message_words note) ∙ words-twelve note)) (omega arith)

most_steps-eom : (b : Bool) (from : Origin) (word : EomWord) (state : State) (o : Outcome) → o.what ≡ Eom word → most_steps (cond b (outcome_at from (Eom eoms.Nothing) state []) o) ≡ 17
most_steps-eom true from word state o e = refl
most_steps-eom false from word state o e = ap most_steps_of e

eom_outcome-most : (from : Origin) (slot : Option ℕ) → most_steps (eom_outcome from slot) ≡ 17
eom_outcome-most from slot = most_steps-eom (is_zero from.state.active) from (eom_by slot from.controllers.waiting) (gone_on from.state) _ refl

sending-few : (from : Origin) (page : Option ℕ) (waiting : List Note) (word : ℕ) → length (sending from page waiting word) ≤ 13
sending-few from None waiting word = omega arith
sending-few from (Some page) [] word = omega arith
sending-few from (Some page) (note ∷ more) word = eom_steps-few from.number from.state page word note more

sends-counts : (from : Origin) (word : ℕ) → Counts most_steps 3 (sends from word)
sends-counts from word =
    let steps = sending from (message_page from.pages from.state) from.controllers.waiting word in
    let few = sending-few from (message_page from.pages from.state) from.controllers.waiting word in
    let most = eom_outcome-most from (Some word) in
    asks_all-counts most_steps 3 steps (left_with (eom_outcome from (Some word))) (λ x. omega (arith, few, most))

eom_on-counts : (from : Origin) (page : Option ℕ) (waiting : List Note) → Counts most_steps 0 (eom_on from page waiting)
eom_on-counts from None waiting = omega arith
eom_on-counts from (Some page) [] = omega arith
eom_on-counts from (Some page) (note ∷ more) = λ a. λ b. λ word. sends-counts from word

-- level 1 is told of a register: the slot is looked at, its message and its entry are written
hit_tells-counts : (from : Origin) (note : Note) (slot : Option ℕ) → Counts most_steps 3 (hit_tells from note slot)
hit_tells-counts from note slot =
    let steps = posting from (message_page from.pages from.state) note slot in
    let told = told_on (assist_page from.pages from.state) by_interrupt in
    let a = posting-few from (message_page from.pages from.state) note slot in
    let b = told_on-few (assist_page from.pages from.state) by_interrupt in
    let l = length-append steps told in
    asks_all-counts most_steps 3 (steps ++ told) (left_with (hit_outcome from note slot)) (λ x. omega (arith, a, b, l))

hits_on-counts : (from : Origin) (note : Note) (page : Option ℕ) → Counts most_steps 0 (hits_on from note page)
hits_on-counts from note None = told-counts (assist_page from.pages from.state) by_interrupt 0 (hit_outcome from note None) (omega arith)
hits_on-counts from note (Some page) = λ a. λ b. λ word. hit_tells-counts from note (Some word)

-- registers are set and got with no step at all, where level 1 doesn't intercept them
set-counts : (b : Bool) (from : Origin) (state : State) (does : List Cached) → Counts most_steps 0 (Ends (cond b (outcome_at from Plain state does) (faulted from Gp)))
set-counts b from state does = omega arith

get-counts : (b : Bool) (from : Origin) (value : ℕ) (state : State) → Counts most_steps 0 (Ends (cond b (outcome_at from (Value value) state []) (faulted from Gp)))
get-counts b from value state = omega arith

set_tree-counts : (from : Origin) (name : Name) (value : ℕ) → Counts most_steps 0 (set_tree from name value)
set_tree-counts from name value =
    Counts-cond most_steps 0 (is_write_hit from name value) (intercepted from (register_note from true name value)) (Ends (set_outcome from name value))
    (hits_on-counts from (register_note from true name value) (message_page from.pages from.state)) (set-counts (may_name from.state name && is_legal name value) from _ _)

get_tree-counts : (from : Origin) (name : Name) → Counts most_steps 0 (get_tree from name)
get_tree-counts from name =
    Counts-cond most_steps 0 (is_read_hit from name) (intercepted from (register_note from false name 0)) (Ends (get_outcome from name))
    (hits_on-counts from (register_note from false name 0) (message_page from.pages from.state)) (get-counts (may_name from.state name) from _ _)

-- the calls that there are
abbrev pub flush_row : Row
flush_row = record { code = 0x0002; is_rep = false; may_be_fast = false; header = 24; element = 0; read = 0; output = 0 }

abbrev pub flush_list_row : Row
flush_list_row = record { code = 0x0003; is_rep = true; may_be_fast = false; header = 24; element = 8; read = 0; output = 0 }

abbrev pub interrupt_row : Row
interrupt_row = record { code = 0x000B; is_rep = false; may_be_fast = true; header = 16; element = 0; read = 0; output = 0 }

abbrev pub modify_row : Row
modify_row = record { code = 0x000C; is_rep = true; may_be_fast = false; header = 16; element = 8; read = 8; output = 0 }

abbrev pub partition_row : Row
partition_row = record { code = 0x000D; is_rep = false; may_be_fast = true; header = 16; element = 0; read = 0; output = 0 }

abbrev pub level_row : Row
level_row = record { code = 0x000F; is_rep = false; may_be_fast = false; header = 240; element = 0; read = 0; output = 0 }

abbrev pub get_row : Row
get_row = record { code = 0x0050; is_rep = true; may_be_fast = false; header = 16; element = 4; read = 4; output = 16 }

abbrev pub set_row : Row
set_row = record { code = 0x0051; is_rep = true; may_be_fast = false; header = 16; element = 32; read = 32; output = 0 }

abbrev pub start_row : Row
start_row = record { code = 0x0099; is_rep = false; may_be_fast = false; header = 240; element = 0; read = 0; output = 0 }

one-row : (P : Row → Type 0) (b : Bool) (row : Row) (other : Option Row) → P row → IfSome other P → IfSome (cond b (Some row) other) P
one-row P true row other h g = h
one-row P false row other h g = g

-- what holds of each of these holds of the call of any code
pub each-row : (P : Row → Type 0) (code : ℕ) → P flush_row → P flush_list_row → P interrupt_row → P modify_row → P partition_row → P level_row → P get_row → P set_row → P start_row → IfSome (row_of code) P
unfolding row_of rows
each-row P code flush flush_list interrupt modify partition level gets sets start =
    let ninth : Option Row = cond (0x0099 == code) (Some start_row) None in
    let eighth : Option Row = cond (0x0051 == code) (Some set_row) ninth in
    let seventh : Option Row = cond (0x0050 == code) (Some get_row) eighth in
    let sixth : Option Row = cond (0x000F == code) (Some level_row) seventh in
    let fifth : Option Row = cond (0x000D == code) (Some partition_row) sixth in
    let fourth : Option Row = cond (0x000C == code) (Some modify_row) fifth in
    let third : Option Row = cond (0x000B == code) (Some interrupt_row) fourth in
    let second : Option Row = cond (0x0003 == code) (Some flush_list_row) third in
    one-row P (0x0002 == code) flush_row second flush (one-row P (0x0003 == code) flush_list_row third flush_list (one-row P (0x000B == code) interrupt_row fourth interrupt
    (one-row P (0x000C == code) modify_row fifth modify (one-row P (0x000D == code) partition_row sixth partition (one-row P (0x000F == code) level_row seventh level
    (one-row P (0x0050 == code) get_row eighth gets (one-row P (0x0051 == code) set_row ninth sets (one-row P (0x0099 == code) start_row None start tt))))))))

-- a slice has at most eight elements, and none behind the last of the call
pub past-few : (start count : ℕ) → slice_past start count ≤ start + 8
past-few start count = few (nat_lt count (start + 8)) refl where
  few : (b : Bool) → nat_lt count (start + 8) ≡ b → cond b count (start + 8) ≤ start + 8
  few true e = grind (arith, nat_tests)
  few false e = omega arith

pub past-inside : (start count : ℕ) → slice_past start count ≤ count
past-inside start count = few (nat_lt count (start + 8)) refl where
  few : (b : Bool) → nat_lt count (start + 8) ≡ b → cond b count (start + 8) ≤ count
  few true e = omega arith
  few false e = grind (arith, nat_tests)

-- what a call puts out for so many registers
pub got-length : (state : State) (target : Vtl) (numbers : List ℕ) → length (got_words state target numbers) ≡ 2 * length numbers
got-length state target [] = refl
got-length state target (number ∷ numbers) = let e = got-length state target numbers in omega (arith, e)

take-few : {A : Type 0} (n : ℕ) (xs : List A) → length (take n xs) ≤ n
take-few zero xs = omega arith
take-few (suc n) [] = omega arith
take-few (suc n) (x ∷ xs) = let few = take-few n xs in omega (arith, few)

take-within : {A : Type 0} (n : ℕ) (xs : List A) → length (take n xs) ≤ length xs
take-within zero xs = omega arith
take-within (suc n) [] = omega arith
take-within (suc n) (x ∷ xs) = let few = take-within n xs in omega (arith, few)

pub output-length : (from : Origin) (target : Vtl) (words : List ℕ) → length (slice_output from target (slice_numbers from words)) ≤ 2 * (past_of from - start_of from)
output-length from target words =
    let found : List ℕ = slice_numbers from words in
    let count : ℕ = acting (get_refusals from target found) in
    let a = got-length from.state target (take count found) in
    let b = take-within count found in
    let c = take-few (past_of from - start_of from) (drop (start_of from % 2) (halves words)) in
    omega (arith, a, b, c)

-- so many words are read, and then it goes on
reads-counts : {A : Type 0} (most : A → ℕ) (n page index count : ℕ) (found : List ℕ) (rest : List ℕ → Tree A) → ((words : List ℕ) → Counts most (n + count) (rest words)) → Counts most n (reads page index count found rest)
reads-counts most n page index zero found rest h = subst (λ m. Counts most m (rest found)) (omega arith) (h found)
reads-counts most n page index (suc count) found rest h =
    λ x. reads-counts most (suc n) page (suc index) count (found ++ x ∷ []) rest (λ words. subst (λ m. Counts most m (rest words)) (omega arith) (h words))

-- a slice's end is the result of its call or a part of it
slice-most : (from : Origin) (state : State) (does : List Cached) (end : RepEnd) → most_steps (slice_outcome from state does end) ≡ 38
slice-most from state does (ByElement status done) = refl
slice-most from state does (GoesOn next) = refl
slice-most from state does (Complete done) = refl

served-by : (b : Bool) (from : Origin) (end : RepEnd) (reply : Reply) → most_steps (cond b (slice_outcome from from.state [] end) (replied from reply)) ≡ 38
served-by true from end reply = slice-most from from.state [] end
served-by false from end reply = refl

served-most : (from : Origin) (code : ℕ) (reply : Reply) → most_steps (served from code reply) ≡ 38
served-most from code reply = served-by (code == 0x000C) from (replied_end reply.status reply.done (count_of from)) reply

requests-counts : (from : Origin) (code n : ℕ) (header elements : List ℕ) → n ≤ 38 → Counts most_steps n (requests from code header elements)
requests-counts from code n header elements le = λ reply. let most = served-most from code reply in omega (arith, most, le)

left_for-counts : (from : Origin) (code n : ℕ) (header elements : List ℕ) → n ≤ 37 → Counts most_steps n (left_for from code header elements)
left_for-counts from code n header elements le = λ x. requests-counts from code (suc n) header elements (omega arith)

by_page_mask-counts : (from : Origin) (kind : Access) (address generation mask n : ℕ) (rest : Tree Outcome) → n ≤ 11 → Counts most_steps n rest → Counts most_steps n (by_page_mask from kind address generation rest mask)
by_page_mask-counts from kind address generation mask n rest le h =
    let r : Refusal = record { page = address / 4096; mask = mask; generation = generation; access = kind; gpa = address } in
    Counts-cond most_steps n (allows mask kind) rest (refused from None r []) h (refused-counts from None r [] n le)

-- a page's mask adds one step at most
behind_page_mask-counts : (level : Vtl) (from : Origin) (kind : Access) (address generation n : ℕ) (rest : Tree Outcome) → n ≤ 10 → ((m : ℕ) → m ≤ suc n → Counts most_steps m rest) → Counts most_steps n (behind_page_mask level from kind address generation rest)
behind_page_mask-counts Zero from kind address generation n rest le h = λ mask. by_page_mask-counts from kind address generation mask (suc n) rest (omega arith) (h (suc n) (omega arith))
behind_page_mask-counts One from kind address generation n rest le h = h n (omega arith)

puts_out-counts : (from : Origin) (words : List ℕ) (o : Outcome) (n : ℕ) → n + length words + 1 ≤ most_steps o → Counts most_steps n (puts_out from words o)
puts_out-counts from words o n le =
    let page : ℕ = output_address from.state / 4096 in
    let index : ℕ = output_address from.state % 4096 / 8 + 2 * start_of from in
    let l = writes-length page index words in
    asks_all-counts most_steps n (writes page index words) (left_with o) (λ x. omega (arith, l, le))

looks-counts : (from : Origin) (call : PartCall) (n : ℕ) → n ≤ 7 → Counts most_steps n (Asks Leaving (λ _. Wants (asked_of from call) (looked_by from)))
looks-counts from call n le = λ x. λ reply. λ a. λ generation.
    let o : Outcome = result_outcome from from.state reply.status reply.done in
    behind_page_mask-counts from.state.active from Write (output_address from.state) generation (suc (suc (suc n))) (puts_out from (value_words reply.value) o) (omega arith)
    (λ m few. puts_out-counts from (value_words reply.value) o m (omega (arith, few, le)))

sets_or-counts : (from : Origin) (target : Vtl) (given : List Setting) (call : Option PartCall) (n : ℕ) → n ≤ 37 → Counts most_steps n (sets_or_asks from target given call)
sets_or-counts from target given None n le =
    let refusals = set_refusals from target given in
    let acted = take (acting refusals) given in
    let most = slice-most from (all_set target from.state acted) (all_emptied target acted) (slice_end from refusals) in
    λ x. omega (arith, most, le)
sets_or-counts from target given (Some call) n le = λ x. λ reply. omega arith

sets_by-counts : (from : Origin) (header words : List ℕ) (refusal : Option HvStatus) (n : ℕ) → n ≤ 37 → Counts most_steps n (sets_by from header words refusal)
sets_by-counts from header words None n le =
    let target = target_level from.state.active header in
    sets_or-counts from target (settings words) (write_in from.state.active target (count_of from) (settings words)) n le
sets_by-counts from header words (Some status) n le = λ x. omega arith

-- a slice that asks for a register of the partition is its call's only element
unless-none : (refusal : Option HvStatus) (call : Option PartCall) (wanted : PartCall) → unless_refused refusal call ≡ Some wanted → (refusal ≡ None) × (call ≡ Some wanted)
unless-none None call wanted e = (refl, e)
unless-none (Some status) call wanted e = cc

reads-partitions : (register : Option CallRegister) (wanted : PartCall) → read_call register ≡ Some wanted → names_one is_partitions register ≡ true
reads-partitions None wanted e = cc
reads-partitions (Some PartitionStatus) wanted e = refl
reads-partitions (Some PartitionConfig) wanted e = refl
reads-partitions (Some (Kept name)) wanted e = cc
reads-partitions (Some EndOfMessage) wanted e = cc
reads-partitions (Some CodePageOffsets) wanted e = cc
reads-partitions (Some VpStatus) wanted e = cc
reads-partitions (Some Capabilities) wanted e = cc

partitions-alone : (caller target : Vtl) (count : ℕ) (register : Option CallRegister) → first_failed (name_checks caller target count register) ≡ None → names_one is_partitions register ≡ true → (count == 1) ≡ true
partitions-alone caller target count register e is = by (names_one is_partitions register) (count == 1) is (none-fails (name_checks caller target count register) e).1.0 where
  by : (b c : Bool) → b ≡ true → (b && not c) ≡ false → c ≡ true
  by true true is fails = refl
  by true false is fails = cc
  by false c is fails = cc

pub look-alone : (caller target : Vtl) (count : ℕ) (numbers : List ℕ) (wanted : PartCall) → look_in caller target count numbers ≡ Some wanted → (count == 1) ≡ true
look-alone caller target count [] wanted e = cc
look-alone caller target count (number ∷ numbers) wanted e =
    let both = unless-none (get_refusal caller target count number) (read_call (register_of number)) wanted e in
    partitions-alone caller target count (register_of number) both.0 (reads-partitions (register_of number) wanted both.1)

gets_or-counts : (from : Origin) (target : Vtl) (found : List ℕ) (call : Option PartCall) (n : ℕ) → ((wanted : PartCall) → call ≡ Some wanted → n ≤ 7) → Counts most_steps n (puts_out from (slice_output from target found) (got_slice from target found)) → Counts most_steps n (gets_or_asks from target found call)
gets_or-counts from target found None n few h = h
gets_or-counts from target found (Some call) n few h = looks-counts from call n (few call refl)

-- the words that hold the numbers of a slice: two in a word
get_words-few : (start past : ℕ) → past ≤ start + 8 → words_between 4 start past ≤ 5
get_words-few start past le = omega arith

set_words-few : (start past : ℕ) → past ≤ start + 8 → words_between 32 start past ≤ 32
set_words-few start past le = omega arith

page_words-few : (start past : ℕ) → past ≤ start + 8 → words_between 8 start past ≤ 8
page_words-few start past le = omega arith

one_word : (start past count : ℕ) → past ≤ count → (count == 1) ≡ true → words_between 4 start past ≤ 1
one_word start past count le e = let one : count ≡ 1 = grind (arith, nat_tests) in omega (arith, le, one)

gets_by-counts : (from : Origin) (header words : List ℕ) (refusal : Option HvStatus) (n : ℕ) → n ≤ 6 + words_between 4 (start_of from) (past_of from) → Counts most_steps n (gets_by from header words refusal)
gets_by-counts from header words (Some status) n le = let few = get_words-few (start_of from) (past_of from) (past-few (start_of from) (count_of from)) in λ x. omega (arith, few, le)
gets_by-counts from header words None n le =
    let target = target_level from.state.active header in
    let found : List ℕ = slice_numbers from words in
    let past = past-few (start_of from) (count_of from) in
    let few = get_words-few (start_of from) (past_of from) past in
    let long = output-length from target words in
    let most = slice-most from from.state [] (slice_end from (get_refusals from target found)) in
    gets_or-counts from target found (look_in from.state.active target (count_of from) found) n
    (λ wanted e.
    let only = one_word (start_of from) (past_of from) (count_of from) (past-inside (start_of from) (count_of from)) (look-alone from.state.active target (count_of from) found wanted e) in
    omega (arith, only, le))
    (puts_out-counts from (slice_output from target found) (got_slice from target found) n (omega (arith, past, few, long, most, le)))

-- at most so many of so many processors are interrupted
some-few : (b : Bool) (p : ℕ) (ps : List ℕ) → length (cond b (p ∷ ps) ps) ≤ suc (length ps)
some-few true p ps = omega arith
some-few false p ps = omega arith

filter-few : (f : ℕ → Bool) (ps : List ℕ) → length (filter f ps) ≤ length ps
filter-few f [] = omega arith
filter-few f (p ∷ ps) = let some = some-few (f p) p (filter f ps) in let few = filter-few f ps in omega (arith, some, few)

interrupts-few : (level : Vtl) (vector bits count : ℕ) → length (interrupt_steps level vector (those_in bits 0 count)) ≤ count
interrupts-few level vector bits count =
    let a = length-map (those_in bits 0 count) (interrupt_step level vector) in
    let b = filter-few (is_in bits) (range_with_len 0 count) in
    let c = length-range_with_len 0 count in
    omega (arith, a, b, c)

interrupts_by-counts : (from : Origin) (header : List ℕ) (refusal : Option HvStatus) (n : ℕ) → from.vps ≤ 8 → n ≤ 30 → Counts most_steps n (interrupts_by from header refusal)
interrupts_by-counts from header (Some status) n most le = omega arith
interrupts_by-counts from header None n most le =
    let level = interrupted_level from.state.active header in
    let few = interrupts-few level (vector_in header) (processors_in header) from.vps in
    asks_all-counts most_steps n (interrupt_steps level (vector_in header) (those_in (processors_in header) 0 from.vps)) (Ends (result_outcome from from.state statuses.SUCCESS 0)) (omega (arith, few, most, le))

interrupts-counts : (from : Origin) (header : List ℕ) (n : ℕ) → from.vps ≤ 8 → n ≤ 30 → Counts most_steps n (interrupts from header)
interrupts-counts from header n most le = interrupts_by-counts from header (first_failed (interrupt_checks from.vps from.state.active header)) n most le

-- an output adds the step of its page's mask
abbrev one_if : Bool → ℕ
one_if true = 1
one_if false = 0

behind_output-counts : (b : Bool) (from : Origin) (generation n : ℕ) (rest : Tree Outcome) → n ≤ 10 → ((m : ℕ) → m ≤ n + one_if b → Counts most_steps m rest) → Counts most_steps n (cond b (behind_page_mask from.state.active from Write (output_address from.state) generation rest) rest)
behind_output-counts true from generation n rest le h = behind_page_mask-counts from.state.active from Write (output_address from.state) generation n rest le (λ m few. h m (omega arith))
behind_output-counts false from generation n rest le h = h n (omega arith)

reads_input-counts : (from : Origin) (row : Row) (address n : ℕ) → ((header words : List ℕ) → Counts most_steps (n + row.header / 8 + words_between row.read (start_of from) (past_of from)) (by_input from row.code header words)) → Counts most_steps n (reads_input from row address)
reads_input-counts from row address n h =
    reads-counts most_steps n (address / 4096) (address % 4096 / 8) (row.header / 8) [] (reads_slice from row address) (λ header.
    reads-counts most_steps (n + row.header / 8) (address / 4096) (address % 4096 / 8 + row.header / 8 + first_word row.read (start_of from)) (words_between row.read (start_of from) (past_of from)) [] (by_input from row.code header) (h header))

by_memory-counts : (from : Origin) (row : Row) (address : ℕ)
    → ((n : ℕ) (header words : List ℕ) → n ≤ 3 + one_if (has_output row) → Counts most_steps (n + row.header / 8 + words_between row.read (start_of from) (past_of from)) (by_input from row.code header words))
    → Counts most_steps 0 (by_memory from row address)
by_memory-counts from row address h = λ a. λ generation.
    behind_page_mask-counts from.state.active from Read address generation 2 (behind_output from row generation (reads_input from row address)) (omega arith) (λ n le.
    behind_output-counts (has_output row) from generation n (reads_input from row address) (omega arith) (λ m few. reads_input-counts from row address m (λ header words. h m header words (omega (arith, few, le)))))

by_registers-counts : (from : Origin) (code : ℕ) (header : List ℕ) → from.vps ≤ 8 → Counts most_steps 0 (by_registers from code header)
by_registers-counts from code header most =
    Counts-cond most_steps 0 (code == 0x000B) (interrupts from header) (requests from code header []) (interrupts-counts from header 0 most (omega arith)) (requests-counts from code 0 header [] (omega arith))

admitted-by : (from : Origin) (row : Row) → from.vps ≤ 8 → Counts most_steps 0 (by_memory from row (input_address from.state)) → Counts most_steps 0 (admitted from row)
admitted-by from row most h =
    Counts-cond most_steps 0 (is_fast (input_value from.state)) (by_registers from row.code (fast_words from.state)) (by_memory from row (input_address from.state)) (by_registers-counts from row.code (fast_words from.state) most) h

-- each of the calls that there are
admitted-counts : (from : Origin) (code : ℕ) → from.vps ≤ 8 → IfSome (row_of code) (λ row. Counts most_steps 0 (admitted from row))
admitted-counts from code most =
    let address = input_address from.state in
    let past = past-few (start_of from) (count_of from) in
    let few = set_words-few (start_of from) (past_of from) past in
    let pages = page_words-few (start_of from) (past_of from) past in
    each-row (λ row. Counts most_steps 0 (admitted from row)) code
    (admitted-by from flush_row most (by_memory-counts from flush_row address (λ n header words le. left_for-counts from 0x0002 (n + 24 / 8 + words_between 0 (start_of from) (past_of from)) header words (omega (arith, le)))))
    (admitted-by from flush_list_row most (by_memory-counts from flush_list_row address (λ n header words le. left_for-counts from 0x0003 (n + 24 / 8 + words_between 0 (start_of from) (past_of from)) header words (omega (arith, le)))))
    (admitted-by from interrupt_row most (by_memory-counts from interrupt_row address (λ n header words le. λ x. interrupts-counts from header (suc (n + 16 / 8 + words_between 0 (start_of from) (past_of from))) most (omega (arith, le)))))
    (admitted-by from modify_row most (by_memory-counts from modify_row address (λ n header words le. left_for-counts from 0x000C (n + 16 / 8 + words_between 8 (start_of from) (past_of from)) header words (omega (arith, le, pages)))))
    (admitted-by from partition_row most (by_memory-counts from partition_row address (λ n header words le. left_for-counts from 0x000D (n + 16 / 8 + words_between 0 (start_of from) (past_of from)) header words (omega (arith, le)))))
    (admitted-by from level_row most (by_memory-counts from level_row address (λ n header words le. left_for-counts from 0x000F (n + 240 / 8 + words_between 0 (start_of from) (past_of from)) header words (omega (arith, le)))))
    (admitted-by from get_row most (by_memory-counts from get_row address (λ n header words le. gets_by-counts from header words (header_refusal from header) (n + 16 / 8 + words_between 4 (start_of from) (past_of from)) (omega (arith, le)))))
    (admitted-by from set_row most (by_memory-counts from set_row address (λ n header words le. sets_by-counts from header words (header_refusal from header) (n + 16 / 8 + words_between 32 (start_of from) (past_of from)) (omega (arith, le, few)))))
    (admitted-by from start_row most (by_memory-counts from start_row address (λ n header words le. left_for-counts from 0x0099 (n + 240 / 8 + words_between 0 (start_of from) (past_of from)) header words (omega (arith, le)))))

by_refusal-counts : (from : Origin) (row : Option Row) (refusal : Option HvStatus) → IfSome row (λ r. Counts most_steps 0 (admitted from r)) → Counts most_steps 0 (by_refusal from row refusal)
by_refusal-counts from row (Some status) h = omega arith
by_refusal-counts from None None h = omega arith
by_refusal-counts from (Some row) None h = h

hypercall-counts : (from : Origin) → from.vps ≤ 8 → Counts most_steps 0 (hypercall_tree from)
hypercall-counts from most =
    let value = input_value from.state in
    let row = row_of (code_in value) in
    let refusal = input_refusal from.pages row value (input_address from.state) (output_address from.state) in
    Counts-cond most_steps 0 (privilege_of from.state == 0) (by_refusal from row refusal) (Ends (faulted from Undefined)) (by_refusal-counts from row refusal (admitted-counts from (code_in value) most)) (omega arith)

pub attempt-counts : (from : Origin) (op : Op) → from.vps ≤ 8 → Counts most_steps 0 (attempt from op)
attempt-counts from Hypercall few = hypercall-counts from few
attempt-counts from (Load name gva) few = by_access-counts from (loaded from.state name) (goal_of from.pages from.state Read true gva.0 0) (λ grant. omega arith)
attempt-counts from (Store gva what) few = by_access-counts from (passed from.state) (goal_of from.pages from.state Write true gva.0 (operand from.state what)) (λ grant. omega arith)
attempt-counts from (Exec gva) few = by_access-counts from (passed from.state) (goal_of from.pages from.state Execute false gva.0 0) (λ grant. omega arith)
attempt-counts from (Spin gva value) few = by_access-counts from (spun from.state value) (goal_of from.pages from.state Read true gva.0 0) (λ grant. spun-no (grant.value == value) from.state (gone_on from.state) grant)
attempt-counts from VtlCall few = Counts-cond most_steps 0 (may_call from.state) (in_own_access (told_on (assist_page from.pages from.state) by_call) (plain from (called from.state))) (Ends (faulted from Undefined)) (told-counts (assist_page from.pages from.state) by_call 0 _ (omega arith)) (omega arith)
attempt-counts from VtlReturn few = Counts-cond most_steps 0 (may_return from.state) (returns from (restored_from from.pages from.state)) (Ends (faulted from Undefined)) (returns-counts from (restored_from from.pages from.state)) (omega arith)
attempt-counts from Poll few = λ a. λ b. λ c. λ d. λ e. λ f. λ g. λ h. polled_on-counts from _
attempt-counts from ops.Eom few = Counts-cond most_steps 0 (is_zero from.state.active) (Ends (eom_outcome from None)) (eom_on from (message_page from.pages from.state) from.controllers.waiting) (let most = eom_outcome-most from None in omega (arith, most)) (eom_on-counts from (message_page from.pages from.state) from.controllers.waiting)
attempt-counts from (Set name value) few = set_tree-counts from name value
attempt-counts from (Get name) few = get_tree-counts from name
attempt-counts from _ few = omega arith

-- so does a start
pub start-counts : (from : Origin) → Counts most_steps 0 (start_tree from)
start-counts from = λ x. λ reply. omega arith

follow-Ends : {A : Type 0} (a : A) (xs : List ℕ) → follow (Ends a) xs ≡ Ends a
follow-Ends a [] = refl
follow-Ends a (x ∷ xs) = follow-Ends a xs

-- an answer more
pub follow-append : {A : Type 0} (t : Tree A) (xs : List ℕ) (x : ℕ) → follow t (xs ++ x ∷ []) ≡ after (follow t xs) x
follow-append t [] x = refl
follow-append t (y ∷ ys) x = follow-append (after t y) ys x

-- the same behind a reply that was had after no more answers than there are
pub followed-append : {A : Type 0} (t : Tree A) (heard : Option Heard) (xs : List ℕ) (x : ℕ) → IfSome heard (λ h. h.after ≤ length xs) → followed t heard (xs ++ x ∷ []) ≡ after (followed t heard xs) x
followed-append t None xs x le = follow-append t xs x
followed-append t (Some h) xs x le =
    let rest = by_reply (follow t (take h.after xs)) h.reply in
    rw (take-append-le h.after xs (x ∷ []) le, drop-append-le h.after xs (x ∷ []) le) (follow-append rest (drop h.after xs) x)

-- what still asks or has just ended has had as many answers as it has made steps
pub Counts-asks : {A : Type 0} (most : A → ℕ) (n : ℕ) (s : WordStep) (k : ℕ → Tree A) (t : Tree A) (x : ℕ) → t ≡ Asks s k → Counts most n t → Counts most (suc n) (k x)
Counts-asks most n s k t x e h = (rw e at h) x

-- a reply is no step
pub Counts-reply : {A : Type 0} (most : A → ℕ) (n : ℕ) (t : Tree A) (reply : Reply) → Counts most n t → Counts most n (by_reply t reply)
Counts-reply most n (Ends a) reply h = h
Counts-reply most n (Asks s k) reply h = h
Counts-reply most n (Wants q k) reply h = h reply

-- never more steps have been made than any end allows
pub Counts-most : {A : Type 0} (most : A → ℕ) (b : ℕ) (reply : Reply) (n : ℕ) (t : Tree A) → ((a : A) → most a ≤ b) → Counts most n t → n ≤ b
Counts-most most b reply n (Ends a) le h = let l = le a in omega arith
Counts-most most b reply n (Asks s k) le h = let l = Counts-most most b reply (suc n) (k 0) le (h 0) in omega arith
Counts-most most b reply n (Wants q k) le h = Counts-most most b reply n (k reply) le (h reply)

pub most_steps-few : (o : Outcome) → most_steps o ≤ 38
most_steps-few o = few o.what where
  few_denied : (posted : Posted) → most_denied posted ≤ 27
  few_denied Held = omega arith
  few_denied _ = omega arith

  few : (what : What) → most_steps_of what ≤ 38
  few (Denied denial) = let le = few_denied denial.posted in omega arith
  few _ = omega arith
