-- Whatever is answered, an attempt that was a spin in vain leaves its state as it was.
use Rattle.std.proofs.Common.{◌≡◌, ◌+◌, ◌*◌, ◌/◌, ◌%◌, ◌==◌, ◌&&◌, ◌++◌, ℕ, Bool, true, false, not, cond, is_some, Option, Some, None, List, [], ◌∷◌, take, refl}
use Rattle.vsm_base.specs.Masks.{allows}
use Rattle.vsm_base.specs.declared.name.Name.{Name}
use Rattle.vsm_base.specs.declared.places.Access.{Access}
use Rattle.vsm_base.specs.declared.places.Access.TheVariants.{Read, Write, Execute}
use Rattle.vsm_base.specs.declared.places.Vtl.{Vtl}
use Rattle.vsm_base.specs.declared.places.Vtl.TheVariants.{Zero, One}
use Rattle.vsm_base.specs.declared.status.HvStatus.{HvStatus}
use Rattle.vsm_base.specs.declared.status.TheConstants.HvStatus as statuses
use Rattle.vsm_core.specs.declared.mark.EomWord.TheVariants as eoms
use Rattle.vsm_core.specs.declared.mark.Grant.{Grant}
use Rattle.vsm_core.specs.declared.mark.GuestFault.{GuestFault}
use Rattle.vsm_core.specs.declared.mark.GuestFault.TheVariants.{Undefined, Gp}
use Rattle.vsm_core.specs.declared.mark.What.{What}
use Rattle.vsm_core.specs.declared.mark.What.TheVariants as whats
use Rattle.vsm_core.specs.declared.note.Note.{Note}
use Rattle.vsm_core.specs.declared.operation.Op.{Op}
use Rattle.vsm_core.specs.declared.operation.Op.TheVariants.{Set, Get, Load, Store, Exec, Spin, Jump, JumpNe, Hypercall, VtlCall, VtlReturn, Poll, Ack, Eoi}
use Rattle.vsm_core.specs.declared.operation.Op.TheVariants as ops
use Rattle.vsm_core.specs.declared.request.PartCall.{PartCall}
use Rattle.vsm_core.specs.declared.request.Reply.{Reply}
use Rattle.vsm_core.specs.Access.{Goal, Decision, Grants, Denies, Faults, access, start_fault}
use Rattle.vsm_core.specs.Attempt.{attempt, begun, leaves, left_with, in_own_access, told_on, by_slot, posting, tells, refused, hit_tells, hits_on, intercepted, is_write_hit, is_read_hit, set_tree, get_tree, goal_of, returns, is_wanted, wanted_outcome, unwanted_outcome, polled_on, sending, sends, eom_on, behind_page_mask, requests, left_for, served, puts_out, looked_by, gets_or_asks, gets_by, sets_or_asks, sets_by, interrupts_by, interrupts, by_input, reads_slice, reads_input, behind_output, by_memory, by_registers, admitted, by_refusal, hypercall_tree}
use Rattle.vsm_core.specs.Calls.{Row, row_of, code_in, is_fast, first_failed}
use Rattle.vsm_core.specs.Controllers.{Controllers, message_page, writes}
use Rattle.vsm_core.specs.Fills.{Cached}
use Rattle.vsm_core.specs.Hypercalls.{input_value, input_address, output_address, has_output, fast_words, input_refusal, replied, result_outcome}
use Rattle.vsm_core.specs.Interrupts.{vector_in, processors_in, interrupted_level, interrupt_checks, those_in, interrupt_steps}
use Rattle.vsm_core.specs.Keeps.{EndsIn}
use Rattle.vsm_core.specs.Outcomes.{Origin, Outcome, Refusal, faulted, plain, loaded, passed, spun, set_outcome, get_outcome, note_of, register_note, held_outcome, denied_outcome, hit_outcome, eom_outcome}
use Rattle.vsm_core.specs.Processor.{tree_of}
use Rattle.vsm_core.specs.RegisterCalls.{Setting, settings, count_of, start_of, past_of, header_refusal, value_words, look_in, write_in, slice_outcome, slice_end, set_refusals, get_refusals, slice_numbers, slice_output, got_slice, all_set, all_emptied}
use Rattle.vsm_core.specs.Reps.{RepEnd, Refused, GoesOn, Complete, acting, first_word, words_between, replied_end}
use Rattle.vsm_core.specs.State.{State, gone_on, may_name, operand, privilege_of}
use Rattle.vsm_core.specs.Registers.{is_legal}
use Rattle.vsm_core.specs.Switch.{may_call, may_return, may_enter, called, is_zero, assist_page, restored_from, by_call, by_interrupt}
use Rattle.vsm_core.specs.Targets.{target_level}
use Rattle.vsm_core.specs.Tree.{Tree, Ends, Asks, Wants, WordStep, Leaving}
use Rattle.vsm_core.proofs.KeptLevels.{EndsIn-then_, EndsIn-cond, EndsIn-asks_all, EndsIn-reads, EndsIn-by_slot, Q-cond}
use Rattle.vsm_report.specs.Counts.{is_left}

-- an outcome that was a spin in vain has this state
abbrev pub VainAt : State → Outcome → Type 0
VainAt state o = is_left o.what ≡ false → o.state ≡ state

-- no outcome that leaves a mark is one
left-at : (state : State) (o : Outcome) → is_left o.what ≡ true → VainAt state o
left-at state o left = λ vain. cc

module _ (from : Origin) where
  abbrev Q : Outcome → Type 0
  Q = VainAt from.state

  faulted-at : (fault : GuestFault) → Q (faulted from fault)
  faulted-at fault = left-at from.state (faulted from fault) refl

  refused-at : (gva : Option ℕ) (r : Refusal) (does : List Cached) → EndsIn Q (refused from gva r does)
  refused-at gva r does =
      EndsIn-cond Q (may_enter from.state) (by_slot (message_page from.pages from.state) (tells from r (note_of from gva r) does)) (left_with (held_outcome from r does))
      (EndsIn-by_slot Q (message_page from.pages from.state) (tells from r (note_of from gva r) does) (λ slot.
      EndsIn-asks_all Q (posting from (message_page from.pages from.state) (note_of from gva r) slot ++ told_on (assist_page from.pages from.state) by_interrupt) (left_with (denied_outcome from r (note_of from gva r) slot does)) (λ x. left-at from.state (denied_outcome from r (note_of from gva r) slot does) refl))) (λ x. left-at from.state (held_outcome from r does) refl)

  -- what an operation makes of a grant
  abbrev Grants-at : (Grant → What × State) → Type 0
  Grants-at granted = (grant : Grant) → is_left (granted grant).0 ≡ false → (granted grant).1 ≡ from.state

  leaves-at : (gva : ℕ) (granted : Grant → What × State) → Grants-at granted → (d : Decision) → EndsIn Q (leaves from gva granted d)
  leaves-at gva granted h (Grants grant fill) = λ x. h grant
  leaves-at gva granted h (Denies page mask generation kind gpa fill) = refused-at (Some gva) _ _
  leaves-at gva granted h (Faults fault) = λ x. faulted-at fault

  begun-at : (granted : Grant → What × State) (goal : Goal) (fault : Option GuestFault) → Grants-at granted → EndsIn Q (begun from granted goal fault)
  begun-at granted goal (Some fault) h = faulted-at fault
  begun-at granted goal None h = EndsIn-then_ Q (access goal) (leaves from goal.gva granted) (leaves-at goal.gva granted h)

  own-at : (page : Option ℕ) (reason : ℕ) (o : Outcome) → Q o → EndsIn Q (in_own_access (told_on page reason) o)
  own-at None reason o h = h
  own-at (Some page) reason o h = λ a. λ b. λ c. λ d. h

  returns-at : (page : Option ℕ) → EndsIn Q (returns from page)
  returns-at None = λ e. cc
  returns-at (Some page) = λ a. λ b. λ rax. λ rcx. λ d. λ e. cc

  polled-at : (controllers : Controllers) → EndsIn Q (polled_on from controllers)
  polled-at controllers =
      EndsIn-cond Q (is_wanted from.state controllers) (in_own_access (told_on (assist_page from.pages from.state) by_interrupt) (wanted_outcome from.state controllers)) (Ends (unwanted_outcome from.state controllers))
      (own-at (assist_page from.pages from.state) by_interrupt (wanted_outcome from.state controllers) (left-at from.state (wanted_outcome from.state controllers) refl)) (left-at from.state (unwanted_outcome from.state controllers) refl)

  eom-left : (zero : Bool) (a b : Outcome) → is_left a.what ≡ true → is_left b.what ≡ true → Q (cond zero a b)
  eom-left true a b h g = left-at from.state a h
  eom-left false a b h g = left-at from.state b g

  eom-at : (slot : Option ℕ) → Q (eom_outcome from slot)
  eom-at slot = eom-left (is_zero from.state.active) _ _ refl refl

  sends-at : (word : ℕ) → EndsIn Q (sends from word)
  sends-at word = EndsIn-asks_all Q (sending from (message_page from.pages from.state) from.controllers.waiting word) (left_with (eom_outcome from (Some word))) (λ x. eom-at (Some word))

  eom_on-at : (page : Option ℕ) (waiting : List Note) → EndsIn Q (eom_on from page waiting)
  eom_on-at None waiting = eom-at None
  eom_on-at (Some page) [] = eom-at None
  eom_on-at (Some page) (note ∷ more) = λ a. λ b. λ word. sends-at word

  result-at : (state : State) (status : HvStatus) (done : ℕ) → Q (result_outcome from state status done)
  result-at state status done = left-at from.state (result_outcome from state status done) refl

  slice-at : (state : State) (does : List Cached) (end : RepEnd) → Q (slice_outcome from state does end)
  slice-at state does (Refused status done) = λ e. cc
  slice-at state does (GoesOn next) = λ e. cc
  slice-at state does (Complete done) = λ e. cc

  page-at : (level : Vtl) (kind : Access) (address generation : ℕ) (rest : Tree Outcome) → EndsIn Q rest → EndsIn Q (behind_page_mask level from kind address generation rest)
  page-at Zero kind address generation rest h = λ mask.
      let r : Refusal = record { page = address / 4096; mask = mask; generation = generation; access = kind; gpa = address } in
      EndsIn-cond Q (allows mask kind) rest (refused from None r []) h (refused-at None r [])
  page-at One kind address generation rest h = h

  replied-at : (reply : Reply) → Q (replied from reply)
  replied-at reply = left-at from.state (replied from reply) refl

  requests-at : (code : ℕ) (header elements : List ℕ) → EndsIn Q (requests from code header elements)
  requests-at code header elements = λ reply.
      let end = replied_end reply.status reply.done (count_of from) in
      Q-cond Q (code == 0x000C) (slice_outcome from from.state [] end) (replied from reply) (slice-at from.state [] end) (replied-at reply)

  puts_out-at : (words : List ℕ) (o : Outcome) → Q o → EndsIn Q (puts_out from words o)
  puts_out-at words o h =
      EndsIn-asks_all Q (writes (output_address from.state / 4096) (output_address from.state % 4096 / 8 + 2 * start_of from) words) (left_with o) (λ x. h)

  looked-at : (reply : Reply) → EndsIn Q (looked_by from reply)
  looked-at reply = λ a. λ generation.
      let o = result_outcome from from.state reply.status reply.done in
      page-at from.state.active Write (output_address from.state) generation (puts_out from (value_words reply.value) o) (puts_out-at (value_words reply.value) o (result-at from.state reply.status reply.done))

  gets_or_asks-at : (target : Vtl) (numbers : List ℕ) (call : Option PartCall) → EndsIn Q (gets_or_asks from target numbers call)
  gets_or_asks-at target numbers None = puts_out-at (slice_output from target numbers) (got_slice from target numbers) (slice-at from.state [] (slice_end from (get_refusals from target numbers)))
  gets_or_asks-at target numbers (Some call) = λ x. looked-at

  gets_by-at : (header words : List ℕ) (refusal : Option HvStatus) → EndsIn Q (gets_by from header words refusal)
  gets_by-at header words None =
      let target = target_level from.state.active header in
      let numbers = slice_numbers from words in
      gets_or_asks-at target numbers (look_in from.state.active target (count_of from) numbers)
  gets_by-at header words (Some status) = λ x. result-at from.state status (start_of from)

  sets_or_asks-at : (target : Vtl) (given : List Setting) (call : Option PartCall) → EndsIn Q (sets_or_asks from target given call)
  sets_or_asks-at target given None =
      let refusals = set_refusals from target given in
      let acted = take (acting refusals) given in
      λ x. slice-at (all_set target from.state acted) (all_emptied target acted) (slice_end from refusals)
  sets_or_asks-at target given (Some call) = λ x. replied-at

  sets_by-at : (header words : List ℕ) (refusal : Option HvStatus) → EndsIn Q (sets_by from header words refusal)
  sets_by-at header words None =
      let target = target_level from.state.active header in
      sets_or_asks-at target (settings words) (write_in from.state.active target (count_of from) (settings words))
  sets_by-at header words (Some status) = λ x. result-at from.state status (start_of from)

  interrupts_by-at : (header : List ℕ) (refusal : Option HvStatus) → EndsIn Q (interrupts_by from header refusal)
  interrupts_by-at header (Some status) = result-at from.state status 0
  interrupts_by-at header None =
      EndsIn-asks_all Q (interrupt_steps (interrupted_level from.state.active header) (vector_in header) (those_in (processors_in header) 0 from.vps)) (Ends (result_outcome from from.state statuses.SUCCESS 0))
      (result-at from.state statuses.SUCCESS 0)

  interrupts-at : (header : List ℕ) → EndsIn Q (interrupts from header)
  interrupts-at header = interrupts_by-at header (first_failed (interrupt_checks from.vps from.state.active header))

  input-at : (code : ℕ) (header words : List ℕ) → EndsIn Q (by_input from code header words)
  input-at code header words =
      let set : Tree Outcome = sets_by from header words (header_refusal from header) in
      let posts : Tree Outcome = Asks Leaving (λ _. interrupts from header) in
      let asked : Tree Outcome = left_for from code header words in
      let others : Tree Outcome = cond (code == 0x000B) posts asked in
      EndsIn-cond Q (code == 0x0050) (gets_by from header words (header_refusal from header)) (cond (code == 0x0051) set others) (gets_by-at header words (header_refusal from header))
      (EndsIn-cond Q (code == 0x0051) set others (sets_by-at header words (header_refusal from header))
      (EndsIn-cond Q (code == 0x000B) posts asked (λ x. interrupts-at header) (λ x. requests-at code header words)))

  reads_slice-at : (row : Row) (address : ℕ) (header : List ℕ) → EndsIn Q (reads_slice from row address header)
  reads_slice-at row address header =
      EndsIn-reads Q (address / 4096) (address % 4096 / 8 + row.header / 8 + first_word row.read (start_of from)) (words_between row.read (start_of from) (past_of from)) [] (by_input from row.code header) (input-at row.code header)

  reads_input-at : (row : Row) (address : ℕ) → EndsIn Q (reads_input from row address)
  reads_input-at row address = EndsIn-reads Q (address / 4096) (address % 4096 / 8) (row.header / 8) [] (reads_slice from row address) (reads_slice-at row address)

  output-at : (row : Row) (generation : ℕ) (rest : Tree Outcome) → EndsIn Q rest → EndsIn Q (behind_output from row generation rest)
  output-at row generation rest h =
      EndsIn-cond Q (has_output row) (behind_page_mask from.state.active from Write (output_address from.state) generation rest) rest (page-at from.state.active Write (output_address from.state) generation rest h) h

  by_memory-at : (row : Row) (address : ℕ) → EndsIn Q (by_memory from row address)
  by_memory-at row address = λ a. λ generation.
      let input = reads_input from row address in
      page-at from.state.active Read address generation (behind_output from row generation input) (output-at row generation input (reads_input-at row address))

  by_registers-at : (code : ℕ) (header : List ℕ) → EndsIn Q (by_registers from code header)
  by_registers-at code header = EndsIn-cond Q (code == 0x000B) (interrupts from header) (requests from code header []) (interrupts-at header) (requests-at code header [])

  admitted-at : (row : Row) → EndsIn Q (admitted from row)
  admitted-at row =
      EndsIn-cond Q (is_fast (input_value from.state)) (by_registers from row.code (fast_words from.state)) (by_memory from row (input_address from.state)) (by_registers-at row.code (fast_words from.state)) (by_memory-at row (input_address from.state))

  by_refusal-at : (row : Option Row) (refusal : Option HvStatus) → EndsIn Q (by_refusal from row refusal)
  by_refusal-at row (Some status) = result-at from.state status 0
  by_refusal-at None None = faulted-at Undefined
  by_refusal-at (Some row) None = admitted-at row

  hypercall-at : EndsIn Q (hypercall_tree from)
  hypercall-at =
      let value = input_value from.state in
      let row = row_of (code_in value) in
      let refusal = input_refusal from.pages row value (input_address from.state) (output_address from.state) in
      EndsIn-cond Q (privilege_of from.state == 0) (by_refusal from row refusal) (Ends (faulted from Undefined)) (by_refusal-at row refusal) (faulted-at Undefined)

  hits_on-at : (note : Note) (page : Option ℕ) → EndsIn Q (hits_on from note page)
  hits_on-at note None = own-at (assist_page from.pages from.state) by_interrupt (hit_outcome from note None) (left-at from.state (hit_outcome from note None) refl)
  hits_on-at note (Some page) = λ a. λ b. λ word.
      EndsIn-asks_all Q (posting from (message_page from.pages from.state) note (Some word) ++ told_on (assist_page from.pages from.state) by_interrupt) (left_with (hit_outcome from note (Some word))) (λ x. left-at from.state (hit_outcome from note (Some word)) refl)

  -- whichever of two outcomes it is
  set-at : (name : Name) (value : ℕ) → EndsIn Q (set_tree from name value)
  set-at name value =
      let note = register_note from true name value in
      EndsIn-cond Q (is_write_hit from name value) (intercepted from note) (Ends (set_outcome from name value)) (hits_on-at note (message_page from.pages from.state))
      (eom-left (may_name from.state name && is_legal name value) _ _ refl refl)

  get-at : (name : Name) → EndsIn Q (get_tree from name)
  get-at name =
      let note = register_note from false name 0 in
      EndsIn-cond Q (is_read_hit from name) (intercepted from note) (Ends (get_outcome from name)) (hits_on-at note (message_page from.pages from.state))
      (eom-left (may_name from.state name) _ _ refl refl)

  spun-at : (b : Bool) (now : State) (grant : Grant) → let end : What × State = cond b (whats.Granted grant, now) (whats.Again grant, from.state) in is_left end.0 ≡ false → end.1 ≡ from.state
  spun-at true now grant = λ e. cc
  spun-at false now grant = λ e. refl

  pub attempt-at : (op : Op) → EndsIn (VainAt from.state) (attempt from op)
  attempt-at (Set name value) = set-at name value
  attempt-at (Get name) = get-at name
  attempt-at (Load name gva) = let goal = goal_of from.pages from.state Read true gva.0 0 in begun-at (loaded from.state name) goal (start_fault goal) (λ grant. λ e. cc)
  attempt-at (Store gva what) = let goal = goal_of from.pages from.state Write true gva.0 (operand from.state what) in begun-at (passed from.state) goal (start_fault goal) (λ grant. λ e. cc)
  attempt-at (Exec gva) = let goal = goal_of from.pages from.state Execute false gva.0 0 in begun-at (passed from.state) goal (start_fault goal) (λ grant. λ e. cc)
  attempt-at (Spin gva value) = let goal = goal_of from.pages from.state Read true gva.0 0 in begun-at (spun from.state value) goal (start_fault goal) (λ grant. spun-at (grant.value == value) (gone_on from.state) grant)
  attempt-at (Jump rip) = λ e. cc
  attempt-at (JumpNe name value rip) = λ e. cc
  attempt-at Hypercall = hypercall-at
  attempt-at VtlCall =
      EndsIn-cond Q (may_call from.state) (in_own_access (told_on (assist_page from.pages from.state) by_call) (plain from (called from.state))) (Ends (faulted from Undefined)) (own-at (assist_page from.pages from.state) by_call (plain from (called from.state)) (λ e. cc)) (faulted-at Undefined)
  attempt-at VtlReturn = EndsIn-cond Q (may_return from.state) (returns from (restored_from from.pages from.state)) (Ends (faulted from Undefined)) (returns-at (restored_from from.pages from.state)) (faulted-at Undefined)
  attempt-at Poll = λ a. λ b. λ c. λ d. λ e. λ f. λ g. λ h. polled-at _
  attempt-at (Ack name) = λ e. cc
  attempt-at Eoi = λ e. cc
  attempt-at ops.Eom =
      EndsIn-cond Q (is_zero from.state.active) (Ends (eom_outcome from None)) (eom_on from (message_page from.pages from.state) from.controllers.waiting) (eom-at None) (eom_on-at (message_page from.pages from.state) from.controllers.waiting)
  attempt-at _ = λ e. cc

  pub tree-at : (op : Option Op) → EndsIn (VainAt from.state) (tree_of from op)
  tree-at None = λ e. cc
  tree-at (Some op) = attempt-at op
