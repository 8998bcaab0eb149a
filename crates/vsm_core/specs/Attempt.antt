-- The attempt of an operation. An operation that isn't built yet is an undefined one.
use Rattle.std.specs.Prelude.{ℕ, ◌+◌, ◌*◌, ◌/◌, ◌%◌, ◌^◌, ◌==◌, ◌&&◌, Bool, true, false, if◌then◌else◌, is_some, List, [], ◌∷◌, ◌++◌, Option, Some, None}
use Rattle.vsm_base.specs.Masks.{allows, need}
use Rattle.vsm_base.specs.declared.name.Name.{Name}
use Rattle.vsm_base.specs.declared.name.Name.TheVariants as names
use Rattle.vsm_base.specs.declared.places.Access.{Access}
use Rattle.vsm_base.specs.declared.places.Access.TheVariants.{Read, Write, Execute}
use Rattle.vsm_base.specs.declared.places.Vtl.{Vtl}
use Rattle.vsm_base.specs.declared.places.Vtl.TheVariants.{Zero, One}
use Rattle.vsm_base.specs.declared.status.HvStatus.{HvStatus}
use Rattle.vsm_base.specs.declared.status.TheConstants.HvStatus as statuses
use Rattle.vsm_core.specs.declared.mark.Grant.{Grant}
use Rattle.vsm_core.specs.declared.mark.GuestFault.{GuestFault}
use Rattle.vsm_core.specs.declared.mark.GuestFault.TheVariants.{Undefined}
use Rattle.vsm_core.specs.declared.mark.Posted.{Posted}
use Rattle.vsm_core.specs.declared.mark.Posted.TheVariants.{Held}
use Rattle.vsm_core.specs.declared.mark.What.{What}
use Rattle.vsm_core.specs.declared.mark.What.TheVariants.{Denied, Hit, Part, Reply as Result, Entered, Plain, Eom}
use Rattle.vsm_core.specs.declared.note.Note.{Note}
use Rattle.vsm_core.specs.declared.operation.Op.{Op}
use Rattle.vsm_core.specs.declared.operation.Op.TheVariants.{Set, Get, Load, Store, Exec, Spin, Jump, JumpNe, Hypercall, VtlCall, VtlReturn, Poll, Ack, Eoi}
use Rattle.vsm_core.specs.declared.operation.Op.TheVariants as ops
use Rattle.vsm_core.specs.declared.request.PartCall.{PartCall}
use Rattle.vsm_core.specs.declared.request.Reply.{Reply}
use Rattle.vsm_core.specs.Access.{Goal, Decision, Grants, Denies, Faults, access, start_fault}
use Rattle.vsm_core.specs.Calls.{Row, row_of, code_in, is_fast, first_failed}
use Rattle.vsm_core.specs.Controllers.{Controllers, writes, message_page, post_steps, eom_steps, vector_words, with_taken}
use Rattle.vsm_core.specs.Fills.{Cached}
use Rattle.vsm_core.specs.Hypercalls.{input_value, input_address, output_address, has_output, fast_words, input_refusal, asked_of, request_of, refused_call, replied, result_outcome}
use Rattle.vsm_core.specs.Interrupts.{vector_in, processors_in, interrupted_level, interrupt_checks, those_in, interrupt_steps}
use Rattle.vsm_core.specs.Outcomes.{Origin, Outcome, Refusal, faulted, plain, outcome_at, fills, loaded, passed, spun, set_outcome, get_outcome, jumped, note_of, register_note, held_outcome, denied_outcome, hit_outcome, ack_outcome, eoi_outcome, eom_outcome}
use Rattle.vsm_core.specs.RegisterCalls.{Setting, settings, count_of, start_of, past_of, header_refusal, value_words, look_in, write_in, set_slice, slice_outcome, slice_numbers, slice_output, got_slice}
use Rattle.vsm_core.specs.Registers.{is_legal, get as get_in}
use Rattle.vsm_core.specs.Reps.{first_word, words_between, replied_end}
use Rattle.vsm_core.specs.State.{State, get, gone_to, gone_on, may_name, word_of, privilege_of, operand}
use Rattle.vsm_core.specs.Switch.{may_call, may_return, may_enter, called, returned, entered, is_zero, assist_page, restored_from, reason_index, rax_index, rcx_index, by_call, by_interrupt, entry_word}
use Rattle.vsm_core.specs.Tree.{Tree, Ends, Asks, Wants, WordStep, Entering, Checking, Masking, Reading, Writing, Leaving, then_, asks_all, takes, reads}
use Rattle.vsm_core.specs.Targets.{target_level}
use Rattle.vsm_core.specs.Vectors.{deliverable}
use Rattle.vsm_core.specs.Watches.{watched_in, hits_write, hits_read}

-- an access that has begun ends by its leave
abbrev pub left_with : Outcome → Tree Outcome
left_with o = Asks Leaving (λ _. Ends o)

-- memory words are touched in an access of their own: it is entered and checked before
abbrev pub in_access : {A : Type 0} → Tree A → Tree A
in_access tree = Asks Entering (λ _. Asks Checking (λ _. tree))

-- the same, and it goes on by the generation that was checked
abbrev pub in_access_from : {A : Type 0} → (ℕ → Tree A) → Tree A
in_access_from by_generation = Asks Entering (λ _. Asks Checking by_generation)

-- these steps in an access of their own, where there are any
abbrev pub in_own_access : List WordStep → Outcome → Tree Outcome
in_own_access [] o = Ends o
in_own_access (s ∷ steps) o = in_access (asks_all (s ∷ steps) (left_with o))

-- the assist page is told why level 1 is entered, where that page is on
abbrev pub told_on : Option ℕ → ℕ → List WordStep
told_on None reason = []
told_on (Some page) reason = Writing page reason_index (entry_word reason) ∷ []

-- it goes on by the first word of the message slot, where the slot's page is on
abbrev pub by_slot : Option ℕ → (Option ℕ → Tree Outcome) → Tree Outcome
by_slot None more = more None
by_slot (Some page) more = Asks (Reading page 0) (λ word. more (Some word))

-- the steps of a new note's message, where the slot has this first word, if it is there
abbrev pub posting : Origin → Option ℕ → Note → Option ℕ → List WordStep
posting from None note slot = []
posting from (Some page) note None = []
posting from (Some page) note (Some word) = post_steps from.number from.state page word from.controllers.waiting note

-- level 1 is told of a denied access and entered, and then the access is left
abbrev pub tells : Origin → Refusal → Note → List Cached → Option ℕ → Tree Outcome
tells from r note does slot =
    asks_all (posting from (message_page from.pages from.state) note slot ++ told_on (assist_page from.pages from.state) by_interrupt)
    (left_with (denied_outcome from r note slot does))

-- an access is denied: level 1, where the processor has it, learns of it
abbrev pub refused : Origin → Option ℕ → Refusal → List Cached → Tree Outcome
refused from gva r does =
    if may_enter from.state then by_slot (message_page from.pages from.state) (tells from r (note_of from gva r) does)
    else left_with (held_outcome from r does)

-- level 1 is told of a register that it intercepts and entered
abbrev pub hit_tells : Origin → Note → Option ℕ → Tree Outcome
hit_tells from note slot =
    asks_all (posting from (message_page from.pages from.state) note slot ++ told_on (assist_page from.pages from.state) by_interrupt)
    (left_with (hit_outcome from note slot))

-- the same in an access of its own, where it touches words; the message slot is looked at where its page is on
abbrev pub hits_on : Origin → Note → Option ℕ → Tree Outcome
hits_on from note None = in_own_access (told_on (assist_page from.pages from.state) by_interrupt) (hit_outcome from note None)
hits_on from note (Some page) = in_access (Asks (Reading page 0) (λ word. hit_tells from note (Some word)))

abbrev pub intercepted : Origin → Note → Tree Outcome
intercepted from note = hits_on from note (message_page from.pages from.state)

-- an access comes to its end: where it was granted, to what the operation makes of the grant
abbrev pub leaves : Origin → ℕ → (Grant → What × State) → Decision → Tree Outcome
leaves from gva granted (Grants grant fill) = left_with (outcome_at from (granted grant).0 (granted grant).1 (fills from.state.active fill))
leaves from gva granted (Denies page mask generation kind gpa fill) =
    refused from (Some gva) (record { page = page; mask = mask; generation = generation; access = kind; gpa = gpa }) (fills from.state.active fill)
leaves from gva granted (Faults fault) = left_with (faulted from fault)

-- an access with no first step is a fault
abbrev pub begun : Origin → (Grant → What × State) → Goal → Option GuestFault → Tree Outcome
begun from granted goal (Some fault) = Ends (faulted from fault)
begun from granted goal None = then_ (access goal) (leaves from goal.gva granted)

-- an operation that makes one access
abbrev pub by_access : Origin → (Grant → What × State) → Goal → Tree Outcome
by_access from granted goal = begun from granted goal (start_fault goal)

-- the access to an address that an operation of the active level asks for
abbrev pub goal_of : ℕ → State → Access → Bool → ℕ → ℕ → Goal
goal_of pages state kind aligned gva value = record {
  level = state.active;
  cpl = privilege_of state;
  cr0 = word_of state names.Cr0;
  cr3 = word_of state names.Cr3;
  gva = gva;
  access = kind;
  need = need kind;
  aligned = aligned;
  value = value;
  pages = pages;
}

abbrev pub call_tree : Origin → Tree Outcome
call_tree from =
    if may_call from.state then in_own_access (told_on (assist_page from.pages from.state) by_call) (plain from (called from.state))
    else Ends (faulted from Undefined)

-- level 0 is returned to: RAX and RCX are taken from this page, where there is one
abbrev pub returns : Origin → Option ℕ → Tree Outcome
returns from None = Ends (plain from (returned from.state None))
returns from (Some page) =
    in_access (Asks (Reading page rax_index) (λ rax. Asks (Reading page rcx_index) (λ rcx. left_with (plain from (returned from.state (Some (rax, rcx)))))))

abbrev pub return_tree : Origin → Tree Outcome
return_tree from = if may_return from.state then returns from (restored_from from.pages from.state) else Ends (faulted from Undefined)

-- level 1 has a vector that is delivered next, and is entered for it
abbrev pub is_wanted : State → Controllers → Bool
is_wanted state controllers = may_enter state && is_some (deliverable controllers.one (get_in state.registers One names.Cr8 % 2 ^ 64))

-- level 0 goes past its poll
abbrev pub wanted_outcome : State → Controllers → Outcome
wanted_outcome state controllers = record { what = Entered; state = entered (gone_on state); controllers = controllers; does = [] }

abbrev pub unwanted_outcome : State → Controllers → Outcome
unwanted_outcome state controllers = record { what = Plain; state = gone_on state; controllers = controllers; does = [] }

-- a poll enters level 1 from level 0 where that has a deliverable vector
abbrev pub polled_on : Origin → Controllers → Tree Outcome
polled_on from controllers =
    if is_wanted from.state controllers
    then in_own_access (told_on (assist_page from.pages from.state) by_interrupt) (wanted_outcome from.state controllers)
    else Ends (unwanted_outcome from.state controllers)

-- what is left of a poll that has found this in all words of pending vectors
abbrev pub polled : Origin → List ℕ → Tree Outcome
polled from found = polled_on from (with_taken from.controllers found)

-- the steps of an end of message, where the slot has this first word
abbrev pub sending : Origin → Option ℕ → List Note → ℕ → List WordStep
sending from None waiting word = []
sending from (Some page) [] word = []
sending from (Some page) (note ∷ more) word = eom_steps from.number from.state page word note more

-- the oldest note's message goes to the slot, or is said to wait there
abbrev pub sends : Origin → ℕ → Tree Outcome
sends from word =
    asks_all (sending from (message_page from.pages from.state) from.controllers.waiting word) (left_with (eom_outcome from (Some word)))

-- the slot is looked at where it is on and a note waits
abbrev pub eom_on : Origin → Option ℕ → List Note → Tree Outcome
eom_on from None waiting = Ends (eom_outcome from None)
eom_on from (Some page) [] = Ends (eom_outcome from None)
eom_on from (Some page) (note ∷ more) = in_access (Asks (Reading page 0) (sends from))

abbrev pub eom_tree : Origin → Tree Outcome
eom_tree from =
    if is_zero from.state.active then Ends (eom_outcome from None) else eom_on from (message_page from.pages from.state) from.controllers.waiting

-- a write of a register is lawful, and level 1 intercepts it
abbrev pub is_write_hit : Origin → Name → ℕ → Bool
is_write_hit from name value =
    may_name from.state name && is_legal name value && may_enter from.state && hits_write (watched_in from.state.registers) name (get from.state name) value

-- the same of a read
abbrev pub is_read_hit : Origin → Name → Bool
is_read_hit from name = may_name from.state name && may_enter from.state && hits_read (watched_in from.state.registers) name

abbrev pub set_tree : Origin → Name → ℕ → Tree Outcome
set_tree from name value = if is_write_hit from name value then intercepted from (register_note from true name value) else Ends (set_outcome from name value)

abbrev pub get_tree : Origin → Name → Tree Outcome
get_tree from name = if is_read_hit from name then intercepted from (register_note from false name 0) else Ends (get_outcome from name)

-- level 0 is denied a hypercall's page; there is no address of the operation
abbrev pub by_page_mask : Origin → Access → (address generation : ℕ) → Tree Outcome → ℕ → Tree Outcome
by_page_mask from kind address generation rest mask =
    if allows mask kind then rest
    else refused from None (record { page = address / 4096; mask = mask; generation = generation; access = kind; gpa = address }) []

-- level 0 loads the mask of a hypercall's page; no mask binds level 1
abbrev pub behind_page_mask : Vtl → Origin → Access → (address generation : ℕ) → Tree Outcome → Tree Outcome
behind_page_mask Zero from kind address generation rest = Asks (Masking (address / 4096)) (by_page_mask from kind address generation rest)
behind_page_mask One from kind address generation rest = rest

-- what the reply to a call comes to; a slice of pages goes on as a rep call does
abbrev pub served : Origin → ℕ → Reply → Outcome
served from code reply =
    if code == 0x000C then slice_outcome from from.state [] (replied_end reply.status reply.done (count_of from)) else replied from reply

-- the call is served once its input is known
abbrev pub requests : Origin → ℕ → (header elements : List ℕ) → Tree Outcome
requests from code header elements = Wants (request_of from code header elements) (λ reply. Ends (served from code reply))

-- the access in which the input was read is left before
abbrev pub left_for : Origin → ℕ → (header elements : List ℕ) → Tree Outcome
left_for from code header elements = Asks Leaving (λ _. requests from code header elements)

-- these words go to the output, from the place of the slice's first element on, and then the access is left
abbrev pub puts_out : Origin → List ℕ → Outcome → Tree Outcome
puts_out from words o =
    asks_all (writes (output_address from.state / 4096) (output_address from.state % 4096 / 8 + 2 * start_of from) words) (left_with o)

-- the value of a partition's register goes to the output in an access of its own
abbrev pub looked_by : Origin → Reply → Tree Outcome
looked_by from reply =
    in_access_from (λ generation. behind_page_mask from.state.active from Write (output_address from.state) generation
    (puts_out from (value_words reply.value) (result_outcome from from.state reply.status reply.done)))

-- a call that gets these registers of a level. A register of the partition is asked for once the access in which the input was read is left
abbrev pub gets_or_asks : Origin → Vtl → List ℕ → Option PartCall → Tree Outcome
gets_or_asks from target numbers None = puts_out from (slice_output from target numbers) (got_slice from target numbers)
gets_or_asks from target numbers (Some call) = Asks Leaving (λ _. Wants (asked_of from call) (looked_by from))

abbrev pub gets_from : Origin → Vtl → List ℕ → Tree Outcome
gets_from from target numbers = gets_or_asks from target numbers (look_in from.state.active target (count_of from) numbers)

abbrev pub gets_by : Origin → List ℕ → List ℕ → Option HvStatus → Tree Outcome
gets_by from header words None = gets_from from (target_level from.state.active header) (slice_numbers from words)
gets_by from header words (Some status) = left_with (result_outcome from from.state status (start_of from))

-- a call that sets these registers of a level; the partition's configuration is written by the partition
abbrev pub sets_or_asks : Origin → Vtl → List Setting → Option PartCall → Tree Outcome
sets_or_asks from target settings None = left_with (set_slice from target settings)
sets_or_asks from target settings (Some call) = Asks Leaving (λ _. Wants (asked_of from call) (λ reply. Ends (replied from reply)))

abbrev pub sets_from : Origin → Vtl → List Setting → Tree Outcome
sets_from from target settings = sets_or_asks from target settings (write_in from.state.active target (count_of from) settings)

abbrev pub sets_by : Origin → List ℕ → List ℕ → Option HvStatus → Tree Outcome
sets_by from header words None = sets_from from (target_level from.state.active header) (settings words)
sets_by from header words (Some status) = left_with (result_outcome from from.state status (start_of from))

-- a call that requests an interrupt was judged by the words of its header: where nothing refuses it, the vector is posted to each processor that it names, in the order of their numbers
abbrev pub interrupts_by : Origin → List ℕ → Option HvStatus → Tree Outcome
interrupts_by from header None =
    asks_all (interrupt_steps (interrupted_level from.state.active header) (vector_in header) (those_in (processors_in header) 0 from.vps))
    (Ends (result_outcome from from.state statuses.SUCCESS 0))
interrupts_by from header (Some status) = Ends (refused_call from status)

abbrev pub interrupts : Origin → List ℕ → Tree Outcome
interrupts from header = interrupts_by from header (first_failed (interrupt_checks from.vps from.state.active header))

-- the input of a call was read: the words of its header and those of its slice
abbrev pub by_input : Origin → ℕ → List ℕ → List ℕ → Tree Outcome
by_input from code header words =
    if code == 0x0050 then gets_by from header words (header_refusal from header)
    else (if code == 0x0051 then sets_by from header words (header_refusal from header)
    else (if code == 0x000B then Asks Leaving (λ _. interrupts from header) else left_for from code header words))

-- the words of the slice are read
abbrev pub reads_slice : Origin → Row → ℕ → List ℕ → Tree Outcome
reads_slice from row address header =
    reads (address / 4096) (address % 4096 / 8 + row.header / 8 + first_word row.read (start_of from)) (words_between row.read (start_of from) (past_of from)) []
    (by_input from row.code header)

-- the words of the header are read before
abbrev pub reads_input : Origin → Row → ℕ → Tree Outcome
reads_input from row address = reads (address / 4096) (address % 4096 / 8) (row.header / 8) [] (reads_slice from row address)

-- the mask of the output's page decides, where there is an output
abbrev pub behind_output : Origin → Row → (generation : ℕ) → Tree Outcome → Tree Outcome
behind_output from row generation rest =
    if has_output row then behind_page_mask from.state.active from Write (output_address from.state) generation rest else rest

-- the input stands in memory
abbrev pub by_memory : Origin → Row → ℕ → Tree Outcome
by_memory from row address =
    in_access_from (λ generation. behind_page_mask from.state.active from Read address generation (behind_output from row generation (reads_input from row address)))

-- the input stands in registers
abbrev pub by_registers : Origin → ℕ → List ℕ → Tree Outcome
by_registers from code header = if code == 0x000B then interrupts from header else requests from code header []

abbrev pub admitted : Origin → Row → Tree Outcome
admitted from row =
    if is_fast (input_value from.state) then by_registers from row.code (fast_words from.state) else by_memory from row (input_address from.state)

abbrev pub by_refusal : Origin → Option Row → Option HvStatus → Tree Outcome
by_refusal from row (Some status) = Ends (refused_call from status)
by_refusal from None None = Ends (faulted from Undefined)
by_refusal from (Some row) None = admitted from row

-- a hypercall is made at privilege level 0
abbrev pub hypercall_tree : Origin → Tree Outcome
hypercall_tree from =
    if privilege_of from.state == 0
    then by_refusal from (row_of (code_in (input_value from.state))) (input_refusal from.pages (row_of (code_in (input_value from.state))) (input_value from.state) (input_address from.state) (output_address from.state))
    else Ends (faulted from Undefined)

-- the whole attempt of an operation
abbrev pub attempt : Origin → Op → Tree Outcome
attempt from (Set name value) = set_tree from name value
attempt from (Get name) = get_tree from name
attempt from (Load name gva) = by_access from (loaded from.state name) (goal_of from.pages from.state Read true gva.0 0)
attempt from (Store gva what) = by_access from (passed from.state) (goal_of from.pages from.state Write true gva.0 (operand from.state what))
attempt from (Exec gva) = by_access from (passed from.state) (goal_of from.pages from.state Execute false gva.0 0)
attempt from (Spin gva value) = by_access from (spun from.state value) (goal_of from.pages from.state Read true gva.0 0)
attempt from (Jump rip) = Ends (plain from (gone_to from.state rip))
attempt from (JumpNe name value rip) = Ends (plain from (jumped from.state name value rip))
attempt from Hypercall = hypercall_tree from
attempt from VtlCall = call_tree from
attempt from VtlReturn = return_tree from
attempt from Poll = takes vector_words [] (polled from)
attempt from (Ack name) = Ends (ack_outcome from name)
attempt from Eoi = Ends (eoi_outcome from)
attempt from ops.Eom = eom_tree from
attempt from _ = Ends (faulted from Undefined)

-- how many steps a denial may have: level 1, where it learns of it, takes at most fifteen more
abbrev pub most_denied : Posted → ℕ
most_denied Held = 12
most_denied _ = 27

-- how many steps an attempt may have that came to this; a hypercall reads at most thirty-four words
abbrev pub most_steps_of : What → ℕ
most_steps_of (Denied denial) = most_denied denial.posted
most_steps_of (Hit posted) = 18
most_steps_of (Eom word) = 17
most_steps_of (Part next) = 38
most_steps_of (Result value) = 38
most_steps_of _ = 13

abbrev pub most_steps : Outcome → ℕ
most_steps o = most_steps_of o.what
