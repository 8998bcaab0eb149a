-- What an attempt asks of the partition: its processor is named, a slice has few elements, and nothing is asked after the reply.
use Rattle.std.proofs.Common.{◌≡◌, ◌==◌, ◌+◌, ◌*◌, ◌/◌, ◌%◌, ℕ, zero, suc, Bool, true, false, cond, nat_lt, Option, Some, None, List, [], ◌∷◌, ◌++◌, take, drop, length, length-append, refl, subst, arith}
use Rattle.vsm_base.specs.Masks.{allows}
use Rattle.vsm_base.specs.declared.name.Name.{Name}
use Rattle.vsm_base.specs.declared.places.Access.{Access}
use Rattle.vsm_base.specs.declared.places.Access.TheVariants.{Read, Write, Execute}
use Rattle.vsm_base.specs.declared.places.Vtl.{Vtl}
use Rattle.vsm_base.specs.declared.places.Vtl.TheVariants.{Zero, One}
use Rattle.vsm_base.specs.declared.status.HvStatus.{HvStatus}
use Rattle.vsm_base.specs.declared.status.TheConstants.HvStatus as statuses
use Rattle.vsm_core.specs.declared.mark.Grant.{Grant}
use Rattle.vsm_core.specs.declared.mark.GuestFault.{GuestFault}
use Rattle.vsm_core.specs.declared.mark.GuestFault.TheVariants.{Unmapped, Page, Undefined}
use Rattle.vsm_core.specs.declared.mark.What.{What}
use Rattle.vsm_core.specs.declared.mark.What.TheVariants as whats
use Rattle.vsm_core.specs.declared.note.Note.{Note}
use Rattle.vsm_core.specs.declared.operation.Op.{Op}
use Rattle.vsm_core.specs.declared.operation.Op.TheVariants.{Set, Get, Load, Store, Exec, Spin, Hypercall, VtlCall, VtlReturn, Poll}
use Rattle.vsm_core.specs.declared.operation.Op.TheVariants as ops
use Rattle.vsm_core.specs.declared.request.Heard.{Heard}
use Rattle.vsm_core.specs.declared.request.PartCall.{PartCall}
use Rattle.vsm_core.specs.declared.request.Reply.{Reply}
use Rattle.vsm_core.specs.declared.request.Request.{Request}
use Rattle.vsm_core.specs.Access.{Goal, Decision, Grants, Denies, Faults, data_step, covers, behind_mask, reaches, by_mask, at_page, entry_step, by_table_mask, at_table, tables, access, query_of, start_fault}
use Rattle.vsm_core.specs.Attempt.{attempt, by_access, begun, leaves, left_with, in_own_access, told_on, by_slot, posting, tells, refused, hit_tells, hits_on, intercepted, is_write_hit, is_read_hit, set_tree, get_tree, goal_of, returns, is_wanted, wanted_outcome, unwanted_outcome, polled_on, sending, sends, eom_on, behind_page_mask, requests, left_for, served, puts_out, looked_by, gets_or_asks, gets_by, sets_or_asks, sets_by, interrupts_by, interrupts, by_input, reads_slice, reads_input, behind_output, by_memory, by_registers, admitted, by_refusal, hypercall_tree}
use Rattle.vsm_core.specs.Calls.{Row, row_of, code_in, is_fast, first_failed}
use Rattle.vsm_core.specs.Controllers.{Controllers, message_page, writes}
use Rattle.vsm_core.specs.Fills.{Cached, Fill, Translation}
use Rattle.vsm_core.specs.Hypercalls.{input_value, input_address, output_address, has_output, fast_words, input_refusal, call_of, asked_of, request_of, replied, result_outcome}
use Rattle.vsm_core.specs.Interrupts.{vector_in, processors_in, interrupted_level, interrupt_checks, those_in, interrupt_steps}
use Rattle.vsm_core.specs.Keeps.{EndsIn}
use Rattle.vsm_core.specs.Outcomes.{Origin, Outcome, Refusal, faulted, plain, loaded, passed, spun, set_outcome, get_outcome, note_of, register_note, held_outcome, denied_outcome, hit_outcome, eom_outcome}
use Rattle.vsm_core.specs.Processor.{tree_of}
use Rattle.vsm_core.specs.RegisterCalls.{Setting, settings, count_of, start_of, past_of, header_refusal, value_words, look_in, write_in, slice_outcome, slice_numbers, slice_output, got_slice}
use Rattle.vsm_core.specs.Protection.{IsSlice}
use Rattle.vsm_core.specs.Reps.{RepEnd, Refused, GoesOn, Complete, first_word, words_between, replied_end}
use Rattle.vsm_core.specs.State.{State, operand, privilege_of}
use Rattle.vsm_core.specs.Switch.{may_call, may_return, may_enter, called, is_zero, assist_page, restored_from, by_call, by_interrupt}
use Rattle.vsm_core.specs.Targets.{target_level}
use Rattle.vsm_core.specs.Tree.{Tree, Ends, Asks, Wants, WordStep, Leaving, then_, asks_all, reads, after, follow, by_reply, followed}
use Rattle.vsm_core.specs.Walk.{Walked, Need, Mapped, Refused as Faulty, walk}
use Rattle.vsm_core.proofs.KeptLevels.{EndsIn-cond, EndsIn-asks_all, EndsIn-by_slot}
use Rattle.vsm_core.proofs.Slices.{IsPaged, IfSlice, paged-row, read-slice, fast-slice, look-slice, write-slice}

-- of each request of the tree, and of how it goes on by the reply, P holds
abbrev pub Asked : {A : Type 0} → (Request → (Reply → Tree A) → Type 0) → Tree A → Type 0
Asked P (Ends a) = Unit {0}
Asked P (Asks s k) = (x : ℕ) → Asked P (k x)
Asked P (Wants q k) = P q k

-- nothing is asked of the partition
abbrev pub Unasked : {A : Type 0} → Tree A → Type 0
Unasked t = Asked (λ q k. ⊥) t

pub after-asked : {A : Type 0} (P : Request → (Reply → Tree A) → Type 0) (t : Tree A) (x : ℕ) → Asked P t → Asked P (after t x)
after-asked P (Ends a) x h = h
after-asked P (Asks s k) x h = h x
after-asked P (Wants q k) x h = h

-- the same of what is left
pub follow-asked : {A : Type 0} (P : Request → (Reply → Tree A) → Type 0) (t : Tree A) (xs : List ℕ) → Asked P t → Asked P (follow t xs)
follow-asked P t [] h = h
follow-asked P t (x ∷ xs) h = follow-asked P (after t x) xs (after-asked P t x h)

-- where nothing is asked, all of it holds
unasked-asked : {A : Type 0} (P : Request → (Reply → Tree A) → Type 0) (t : Tree A) → Unasked t → Asked P t
unasked-asked P (Ends a) h = h
unasked-asked P (Asks s k) h = λ x. unasked-asked P (k x) (h x)
unasked-asked P (Wants q k) h = absurd h

then_-asked : {A B : Type 0} (P : Request → (Reply → Tree B) → Type 0) (t : Tree A) (f : A → Tree B) → Unasked t → ((a : A) → Asked P (f a)) → Asked P (then_ t f)
then_-asked P (Ends a) f h g = g a
then_-asked P (Asks s k) f h g = λ x. then_-asked P (k x) f (h x) g
then_-asked P (Wants q k) f h g = absurd h

cond-asked : {A : Type 0} (P : Request → (Reply → Tree A) → Type 0) (b : Bool) (t u : Tree A) → Asked P t → Asked P u → Asked P (cond b t u)
cond-asked P true t u h g = h
cond-asked P false t u h g = g

asks_all-asked : {A : Type 0} (P : Request → (Reply → Tree A) → Type 0) (steps : List WordStep) (rest : Tree A) → Asked P rest → Asked P (asks_all steps rest)
asks_all-asked P [] rest h = h
asks_all-asked P (s ∷ steps) rest h = λ x. asks_all-asked P steps rest h

-- as many words are found as are read
found-suc : (found : List ℕ) (x count : ℕ) (words : List ℕ) → length words ≡ length (found ++ x ∷ []) + count → length words ≡ length found + suc count
found-suc found x count words long = omega (arith, long, length-append found (x ∷ []))

reads_on-asked : {A : Type 0} (P : Request → (Reply → Tree A) → Type 0) (page index count : ℕ) (found : List ℕ) (rest : List ℕ → Tree A) → ((words : List ℕ) → length words ≡ length found + count → Asked P (rest words)) → Asked P (reads page index count found rest)
reads_on-asked P page index zero found rest h = h found (omega arith)
reads_on-asked P page index (suc count) found rest h = λ x. reads_on-asked P page (suc index) count (found ++ x ∷ []) rest (λ words long. h words (found-suc found x count words long))

reads-asked : {A : Type 0} (P : Request → (Reply → Tree A) → Type 0) (page index count : ℕ) (rest : List ℕ → Tree A) → ((words : List ℕ) → length words ≡ count → Asked P (rest words)) → Asked P (reads page index count [] rest)
reads-asked P page index count rest h = reads_on-asked P page index count [] rest (λ words long. h words (omega (arith, long)))

unasked-cond : {A : Type 0} (b : Bool) (t u : Tree A) → Unasked t → Unasked u → Unasked (cond b t u)
unasked-cond true t u h g = h
unasked-cond false t u h g = g

-- an access asks nothing of the partition
data_step-unasked : (kind : Access) (goal : Goal) (page : ℕ) (mask : Option ℕ) (generation : ℕ) (fill : Option Fill) → Unasked (data_step kind goal page mask generation fill)
data_step-unasked Read goal page mask generation fill = λ x. tt
data_step-unasked Write goal page mask generation fill = λ x. tt
data_step-unasked Execute goal page mask generation fill = λ x. tt

behind-unasked : (level : Vtl) (page : ℕ) (by : ℕ → Tree Decision) (unbound : Tree Decision) → ((mask : ℕ) → Unasked (by mask)) → Unasked unbound → Unasked (behind_mask level page by unbound)
behind-unasked Zero page by unbound h g = h
behind-unasked One page by unbound h g = g

module _ (goal : Goal) where
  by_mask-unasked : (to : Translation) (generation mask : ℕ) → Unasked (by_mask goal to generation mask)
  by_mask-unasked to generation mask =
      unasked-cond (covers mask goal.need) (reaches goal to generation (Some mask)) (Ends (Denies to.page mask generation goal.access _ _)) (data_step-unasked goal.access goal to.page (Some mask) generation _) tt

  at_page-unasked : (to : Translation) (generation : ℕ) → Unasked (at_page goal to generation)
  at_page-unasked to generation =
      unasked-cond (nat_lt to.page goal.pages) (behind_mask goal.level to.page (by_mask goal to generation) (reaches goal to generation None)) (Ends (Faults Unmapped))
      (behind-unasked goal.level to.page (by_mask goal to generation) (reaches goal to generation None) (by_mask-unasked to generation) (data_step-unasked goal.access goal to.page None generation _)) tt

  by_table_mask-unasked : (more : List ℕ → Tree Decision) (entries : List ℕ) (generation page index mask : ℕ) → ((es : List ℕ) → Unasked (more es)) → Unasked (by_table_mask more entries generation page index mask)
  by_table_mask-unasked more entries generation page index mask h =
      unasked-cond (allows mask Read) (entry_step more entries page index) (Ends (Denies page mask generation Read _ None)) (λ x. h (entries ++ x ∷ [])) tt

  at_table-unasked : (more : List ℕ → Tree Decision) (entries : List ℕ) (generation : ℕ) (w : Walked) → ((es : List ℕ) → Unasked (more es)) → Unasked (at_table more goal entries generation w)
  at_table-unasked more entries generation (Need page index) h =
      unasked-cond (nat_lt page goal.pages) (behind_mask goal.level page (by_table_mask more entries generation page index) (entry_step more entries page index)) (Ends (Faults Unmapped))
      (behind-unasked goal.level page (by_table_mask more entries generation page index) (entry_step more entries page index) (λ mask. by_table_mask-unasked more entries generation page index mask h) (λ x. h (entries ++ x ∷ []))) tt
  at_table-unasked more entries generation (Mapped to) h = at_page-unasked to generation
  at_table-unasked more entries generation (Faulty fault) h = tt

  tables-unasked : (more generation : ℕ) (entries : List ℕ) → Unasked (tables more goal generation entries)
  tables-unasked zero generation entries = at_table-unasked (λ _. Ends (Faults Page)) entries generation (walk (query_of goal) entries) (λ es. tt)
  tables-unasked (suc more) generation entries = at_table-unasked (tables more goal generation) entries generation (walk (query_of goal) entries) (tables-unasked more generation)

  access-unasked : Unasked (access goal)
  access-unasked = λ x. λ generation. tables-unasked 4 generation []

-- what this caller does by itself asks nothing of the partition
module _ (P : Request → (Reply → Tree Outcome) → Type 0) (from : Origin) where
  tells-asked : (r : Refusal) (note : Note) (does : List Cached) (slot : Option ℕ) → Asked P (tells from r note does slot)
  tells-asked r note does slot =
      asks_all-asked P (posting from (message_page from.pages from.state) note slot ++ told_on (assist_page from.pages from.state) by_interrupt) (left_with (denied_outcome from r note slot does)) (λ x. tt)

  by_slot-asked : (page : Option ℕ) (more : Option ℕ → Tree Outcome) → ((slot : Option ℕ) → Asked P (more slot)) → Asked P (by_slot page more)
  by_slot-asked None more h = h None
  by_slot-asked (Some page) more h = λ word. h (Some word)

  refused-asked : (gva : Option ℕ) (r : Refusal) (does : List Cached) → Asked P (refused from gva r does)
  refused-asked gva r does =
      cond-asked P (may_enter from.state) (by_slot (message_page from.pages from.state) (tells from r (note_of from gva r) does)) (left_with (held_outcome from r does))
      (by_slot-asked (message_page from.pages from.state) (tells from r (note_of from gva r) does) (λ slot. tells-asked r (note_of from gva r) does slot)) (λ x. tt)

  leaves-asked : (gva : ℕ) (granted : Grant → What × State) (d : Decision) → Asked P (leaves from gva granted d)
  leaves-asked gva granted (Grants grant fill) = λ x. tt
  leaves-asked gva granted (Denies page mask generation kind gpa fill) = refused-asked (Some gva) _ _
  leaves-asked gva granted (Faults fault) = λ x. tt

  begun-asked : (granted : Grant → What × State) (goal : Goal) (fault : Option GuestFault) → Asked P (begun from granted goal fault)
  begun-asked granted goal (Some fault) = tt
  begun-asked granted goal None = then_-asked P (access goal) (leaves from goal.gva granted) (access-unasked goal) (leaves-asked goal.gva granted)

  by_access-asked : (granted : Grant → What × State) (goal : Goal) → Asked P (by_access from granted goal)
  by_access-asked granted goal = begun-asked granted goal (start_fault goal)

  told-asked : (page : Option ℕ) (reason : ℕ) (o : Outcome) → Asked P (in_own_access (told_on page reason) o)
  told-asked None reason o = tt
  told-asked (Some page) reason o = λ a. λ b. λ c. λ d. tt

  returns-asked : (page : Option ℕ) → Asked P (returns from page)
  returns-asked None = tt
  returns-asked (Some page) = λ a. λ b. λ c. λ d. λ e. tt

  polled_on-asked : (controllers : Controllers) → Asked P (polled_on from controllers)
  polled_on-asked controllers =
      cond-asked P (is_wanted from.state controllers) (in_own_access (told_on (assist_page from.pages from.state) by_interrupt) (wanted_outcome from.state controllers)) (Ends (unwanted_outcome from.state controllers))
      (told-asked (assist_page from.pages from.state) by_interrupt (wanted_outcome from.state controllers)) tt

  sends-asked : (word : ℕ) → Asked P (sends from word)
  sends-asked word =
      asks_all-asked P (sending from (message_page from.pages from.state) from.controllers.waiting word) (left_with (eom_outcome from (Some word))) (λ x. tt)

  eom_on-asked : (page : Option ℕ) (waiting : List Note) → Asked P (eom_on from page waiting)
  eom_on-asked None waiting = tt
  eom_on-asked (Some page) [] = tt
  eom_on-asked (Some page) (note ∷ more) = λ a. λ b. λ word. sends-asked word

  behind_page_mask-asked : (level : Vtl) (kind : Access) (address generation : ℕ) (rest : Tree Outcome) → Asked P rest → Asked P (behind_page_mask level from kind address generation rest)
  behind_page_mask-asked Zero kind address generation rest h = λ mask.
      let r : Refusal = record { page = address / 4096; mask = mask; generation = generation; access = kind; gpa = address } in
      cond-asked P (allows mask kind) rest (refused from None r []) h (refused-asked None r [])
  behind_page_mask-asked One kind address generation rest h = h

  puts_out-asked : (words : List ℕ) (o : Outcome) → Asked P (puts_out from words o)
  puts_out-asked words o =
      asks_all-asked P (writes (output_address from.state / 4096) (output_address from.state % 4096 / 8 + 2 * start_of from) words) (left_with o) (λ x. tt)

  looked_by-asked : (reply : Reply) → Asked P (looked_by from reply)
  looked_by-asked reply = λ a. λ generation.
      let o = result_outcome from from.state reply.status reply.done in
      behind_page_mask-asked from.state.active Write (output_address from.state) generation (puts_out from (value_words reply.value) o) (puts_out-asked (value_words reply.value) o)

  behind_output-asked : (row : Row) (generation : ℕ) (rest : Tree Outcome) → Asked P rest → Asked P (behind_output from row generation rest)
  behind_output-asked row generation rest h =
      cond-asked P (has_output row) (behind_page_mask from.state.active from Write (output_address from.state) generation rest) rest
      (behind_page_mask-asked from.state.active Write (output_address from.state) generation rest h) h

  hit_tells-asked : (note : Note) (slot : Option ℕ) → Asked P (hit_tells from note slot)
  hit_tells-asked note slot =
      asks_all-asked P (posting from (message_page from.pages from.state) note slot ++ told_on (assist_page from.pages from.state) by_interrupt) (left_with (hit_outcome from note slot)) (λ x. tt)

  hits_on-asked : (note : Note) (page : Option ℕ) → Asked P (hits_on from note page)
  hits_on-asked note None = told-asked (assist_page from.pages from.state) by_interrupt (hit_outcome from note None)
  hits_on-asked note (Some page) = λ a. λ b. λ word. hit_tells-asked note (Some word)

  intercepted-asked : (note : Note) → Asked P (intercepted from note)
  intercepted-asked note = hits_on-asked note (message_page from.pages from.state)

  set-asked : (name : Name) (value : ℕ) → Asked P (set_tree from name value)
  set-asked name value =
      let note = register_note from true name value in
      cond-asked P (is_write_hit from name value) (intercepted from note) (Ends (set_outcome from name value)) (intercepted-asked note) tt

  get-asked : (name : Name) → Asked P (get_tree from name)
  get-asked name =
      let note = register_note from false name 0 in
      cond-asked P (is_read_hit from name) (intercepted from note) (Ends (get_outcome from name)) (intercepted-asked note) tt

  interrupts_by-asked : (header : List ℕ) (refusal : Option HvStatus) → Asked P (interrupts_by from header refusal)
  interrupts_by-asked header (Some status) = tt
  interrupts_by-asked header None =
      asks_all-asked P (interrupt_steps (interrupted_level from.state.active header) (vector_in header) (those_in (processors_in header) 0 from.vps)) (Ends (result_outcome from from.state statuses.SUCCESS 0)) tt

  interrupts-asked : (header : List ℕ) → Asked P (interrupts from header)
  interrupts-asked header = interrupts_by-asked header (first_failed (interrupt_checks from.vps from.state.active header))

-- of all that this caller asks, P holds
module _ (P : Request → (Reply → Tree Outcome) → Type 0) (from : Origin)
    (own : (code : ℕ) (header elements : List ℕ) → IsSlice (call_of code header elements (start_of from) (count_of from)) → P (request_of from code header elements) (λ reply. Ends (served from code reply)))
    (look : (call : PartCall) → IsSlice call → P (asked_of from call) (looked_by from))
    (write : (call : PartCall) → IsSlice call → P (asked_of from call) (λ reply. Ends (replied from reply))) where
  gets_or_asks-asked : (target : Vtl) (numbers : List ℕ) (call : Option PartCall) → IfSlice call → Asked P (gets_or_asks from target numbers call)
  gets_or_asks-asked target numbers None slice = puts_out-asked P from (slice_output from target numbers) (got_slice from target numbers)
  gets_or_asks-asked target numbers (Some call) slice = λ x. look call slice

  gets_by-asked : (header words : List ℕ) (refusal : Option HvStatus) → Asked P (gets_by from header words refusal)
  gets_by-asked header words None =
      let target = target_level from.state.active header in
      let numbers = slice_numbers from words in
      gets_or_asks-asked target numbers (look_in from.state.active target (count_of from) numbers) (look-slice from.state.active target (count_of from) numbers)
  gets_by-asked header words (Some status) = λ x. tt

  sets_or_asks-asked : (target : Vtl) (settings : List Setting) (call : Option PartCall) → IfSlice call → Asked P (sets_or_asks from target settings call)
  sets_or_asks-asked target settings None slice = λ x. tt
  sets_or_asks-asked target settings (Some call) slice = λ x. write call slice

  sets_by-asked : (header words : List ℕ) (refusal : Option HvStatus) → Asked P (sets_by from header words refusal)
  sets_by-asked header words None =
      let target = target_level from.state.active header in
      sets_or_asks-asked target (settings words) (write_in from.state.active target (count_of from) (settings words)) (write-slice from.state.active target (count_of from) (settings words))
  sets_by-asked header words (Some status) = λ x. tt

  by_input-asked : (code : ℕ) (header words : List ℕ) → IsSlice (call_of code header words (start_of from) (count_of from)) → Asked P (by_input from code header words)
  by_input-asked code header words slice =
      let get : Tree Outcome = gets_by from header words (header_refusal from header) in
      let set : Tree Outcome = sets_by from header words (header_refusal from header) in
      let posts : Tree Outcome = Asks Leaving (λ _. interrupts from header) in
      let asks : Tree Outcome = left_for from code header words in
      let others : Tree Outcome = cond (code == 0x000B) posts asks in
      cond-asked P (code == 0x0050) get (cond (code == 0x0051) set others) (gets_by-asked header words (header_refusal from header))
      (cond-asked P (code == 0x0051) set others (sets_by-asked header words (header_refusal from header))
      (cond-asked P (code == 0x000B) posts asks (λ x. interrupts-asked P from header) (λ x. own code header words slice)))

  reads_slice-asked : (row : Row) (address : ℕ) (header : List ℕ) → IsPaged (start_of from) (count_of from) row → Asked P (reads_slice from row address header)
  reads_slice-asked row address header paged =
      reads-asked P (address / 4096) (address % 4096 / 8 + row.header / 8 + first_word row.read (start_of from)) (words_between row.read (start_of from) (past_of from)) (by_input from row.code header)
      (λ words long. by_input-asked row.code header words (read-slice row (input_value from.state) header words paged long))

  reads_input-asked : (row : Row) (address : ℕ) → IsPaged (start_of from) (count_of from) row → Asked P (reads_input from row address)
  reads_input-asked row address paged = reads-asked P (address / 4096) (address % 4096 / 8) (row.header / 8) (reads_slice from row address) (λ header long. reads_slice-asked row address header paged)

  by_memory-asked : (row : Row) (address : ℕ) → IsPaged (start_of from) (count_of from) row → Asked P (by_memory from row address)
  by_memory-asked row address paged = λ a. λ generation.
      let input = reads_input from row address in
      behind_page_mask-asked P from from.state.active Read address generation (behind_output from row generation input) (behind_output-asked P from row generation input (reads_input-asked row address paged))

  by_registers-asked : (code : ℕ) (header : List ℕ) → IsSlice (call_of code header [] (start_of from) (count_of from)) → Asked P (by_registers from code header)
  by_registers-asked code header slice =
      cond-asked P (code == 0x000B) (interrupts from header) (requests from code header []) (interrupts-asked P from header) (own code header [] slice)

  admitted-asked : (row : Row) → IsPaged (start_of from) (count_of from) row → Asked P (admitted from row)
  admitted-asked row paged =
      cond-asked P (is_fast (input_value from.state)) (by_registers from row.code (fast_words from.state)) (by_memory from row (input_address from.state))
      (by_registers-asked row.code (fast_words from.state) (fast-slice row (input_value from.state) (fast_words from.state) paged)) (by_memory-asked row (input_address from.state) paged)

  by_refusal-asked : (row : Option Row) (refusal : Option HvStatus) → ((r : Row) → row ≡ Some r → refusal ≡ None → IsPaged (start_of from) (count_of from) r) → Asked P (by_refusal from row refusal)
  by_refusal-asked row (Some status) paged = tt
  by_refusal-asked None None paged = tt
  by_refusal-asked (Some row) None paged = admitted-asked row (paged row refl refl)

  hypercall-asked : Asked P (hypercall_tree from)
  hypercall-asked =
      let value = input_value from.state in
      let row = row_of (code_in value) in
      let refusal = input_refusal from.pages row value (input_address from.state) (output_address from.state) in
      cond-asked P (privilege_of from.state == 0) (by_refusal from row refusal) (Ends (faulted from Undefined))
      (by_refusal-asked row refusal (λ r is none. paged-row from.pages r value (input_address from.state) (output_address from.state) is (subst (λ o. input_refusal from.pages o value (input_address from.state) (output_address from.state) ≡ None) is none))) tt

  attempt-asked : (op : Op) → Asked P (attempt from op)
  attempt-asked (Set name value) = set-asked P from name value
  attempt-asked (Get name) = get-asked P from name
  attempt-asked (Load name gva) = by_access-asked P from (loaded from.state name) (goal_of from.pages from.state Read true gva.0 0)
  attempt-asked (Store gva what) = by_access-asked P from (passed from.state) (goal_of from.pages from.state Write true gva.0 (operand from.state what))
  attempt-asked (Exec gva) = by_access-asked P from (passed from.state) (goal_of from.pages from.state Execute false gva.0 0)
  attempt-asked (Spin gva value) = by_access-asked P from (spun from.state value) (goal_of from.pages from.state Read true gva.0 0)
  attempt-asked Hypercall = hypercall-asked
  attempt-asked VtlCall =
      cond-asked P (may_call from.state) (in_own_access (told_on (assist_page from.pages from.state) by_call) (plain from (called from.state))) (Ends (faulted from Undefined)) (told-asked P from (assist_page from.pages from.state) by_call (plain from (called from.state))) tt
  attempt-asked VtlReturn =
      cond-asked P (may_return from.state) (returns from (restored_from from.pages from.state)) (Ends (faulted from Undefined)) (returns-asked P from (restored_from from.pages from.state)) tt
  attempt-asked Poll = λ a. λ b. λ c. λ d. λ e. λ f. λ g. λ h. polled_on-asked P from _
  attempt-asked ops.Eom =
      cond-asked P (is_zero from.state.active) (Ends (eom_outcome from None)) (eom_on from (message_page from.pages from.state) from.controllers.waiting) tt (eom_on-asked P from (message_page from.pages from.state) from.controllers.waiting)
  attempt-asked _ = tt

  pub tree-asked : (op : Option Op) → Asked P (tree_of from op)
  tree-asked None = tt
  tree-asked (Some op) = attempt-asked op

-- an outcome that isn't that of a spin which found another value
abbrev pub IsNoAgain : What → Type 0
IsNoAgain (whats.Again grant) = ⊥
IsNoAgain _ = Unit {0}

abbrev pub NoAgain : Outcome → Type 0
NoAgain o = IsNoAgain o.what

-- it is the processor of this number that asks for a slice; after any reply nothing more is asked, and no spin goes on
pub record IsOwnRequest (number : ℕ) (q : Request) (k : Reply → Tree Outcome) : Type 0 where
  pub by : q.by.0 ≡ number
  pub slice : IsSlice q.call
  pub ends : (reply : Reply) → Unasked (k reply) × EndsIn NoAgain (k reply)

refused-no-again : (from : Origin) (gva : Option ℕ) (r : Refusal) (does : List Cached) → EndsIn NoAgain (refused from gva r does)
refused-no-again from gva r does =
    EndsIn-cond NoAgain (may_enter from.state) (by_slot (message_page from.pages from.state) (tells from r (note_of from gva r) does)) (left_with (held_outcome from r does))
    (EndsIn-by_slot NoAgain (message_page from.pages from.state) (tells from r (note_of from gva r) does) (λ slot.
    EndsIn-asks_all NoAgain (posting from (message_page from.pages from.state) (note_of from gva r) slot ++ told_on (assist_page from.pages from.state) by_interrupt) (left_with (denied_outcome from r (note_of from gva r) slot does)) (λ x. tt))) (λ x. tt)

looked-no-again : (from : Origin) (level : Vtl) (generation : ℕ) (rest : Tree Outcome) → EndsIn NoAgain rest → EndsIn NoAgain (behind_page_mask level from Write (output_address from.state) generation rest)
looked-no-again from Zero generation rest h = λ mask.
    let r : Refusal = record { page = output_address from.state / 4096; mask = mask; generation = generation; access = Write; gpa = output_address from.state } in
    EndsIn-cond NoAgain (allows mask Write) rest (refused from None r []) h (refused-no-again from None r [])
looked-no-again from One generation rest h = h

puts_out-no-again : (from : Origin) (reply : Reply) → EndsIn NoAgain (puts_out from (value_words reply.value) (result_outcome from from.state reply.status reply.done))
puts_out-no-again from reply =
    EndsIn-asks_all NoAgain (writes (output_address from.state / 4096) (output_address from.state % 4096 / 8 + 2 * start_of from) (value_words reply.value)) (left_with (result_outcome from from.state reply.status reply.done)) (λ x. tt)

look-own : (from : Origin) (call : PartCall) → IsSlice call → IsOwnRequest from.number (asked_of from call) (looked_by from)
look-own from call slice = record {
  by = refl;
  slice = slice;
  ends = λ reply. (looked_by-asked (λ q k. ⊥) from reply, λ a. λ generation. looked-no-again from from.state.active generation (puts_out from (value_words reply.value) (result_outcome from from.state reply.status reply.done)) (puts_out-no-again from reply));
}

slice-no-again : (from : Origin) (end : RepEnd) → NoAgain (slice_outcome from from.state [] end)
slice-no-again from (Refused status done) = tt
slice-no-again from (GoesOn next) = tt
slice-no-again from (Complete done) = tt

served-no-again : (slice : Bool) (from : Origin) (end : RepEnd) (reply : Reply) → NoAgain (cond slice (slice_outcome from from.state [] end) (replied from reply))
served-no-again true from end reply = slice-no-again from end
served-no-again false from end reply = tt

call-own : (from : Origin) (code : ℕ) (header elements : List ℕ) → IsSlice (call_of code header elements (start_of from) (count_of from)) → IsOwnRequest from.number (request_of from code header elements) (λ reply. Ends (served from code reply))
call-own from code header elements slice = record {
  by = refl;
  slice = slice;
  ends = λ reply. (tt, served-no-again (code == 0x000C) from (replied_end reply.status reply.done (count_of from)) reply);
}

write-own : (from : Origin) (call : PartCall) → IsSlice call → IsOwnRequest from.number (asked_of from call) (λ reply. Ends (replied from reply))
write-own from call slice = record { by = refl; slice = slice; ends = λ reply. (tt, tt) }

pub own-tree : (from : Origin) (op : Option Op) → Asked (IsOwnRequest from.number) (tree_of from op)
own-tree from op = tree-asked (IsOwnRequest from.number) from (call-own from) (look-own from) (write-own from) op

-- P holds of all requests, whatever is answered and replied
abbrev pub AsksOnly : {A : Type 0} → (Request → Type 0) → Tree A → Type 0
AsksOnly P (Ends a) = Unit {0}
AsksOnly P (Asks s k) = (x : ℕ) → AsksOnly P (k x)
AsksOnly P (Wants q k) = P q × ((reply : Reply) → AsksOnly P (k reply))

unasked-only : {A : Type 0} (P : Request → Type 0) (t : Tree A) → Unasked t → AsksOnly P t
unasked-only P (Ends a) h = tt
unasked-only P (Asks s k) h = λ x. unasked-only P (k x) (h x)
unasked-only P (Wants q k) h = absurd h

abbrev pub IsSliceOf : ℕ → Request → Type 0
IsSliceOf number q = (q.by.0 ≡ number) × IsSlice q.call

own-slices : (number : ℕ) (t : Tree Outcome) → Asked (IsOwnRequest number) t → AsksOnly (IsSliceOf number) t
own-slices number (Ends o) h = tt
own-slices number (Asks s k) h = λ x. own-slices number (k x) (h x)
own-slices number (Wants q k) h = ((h.by, h.slice), λ reply. unasked-only (IsSliceOf number) (k reply) (h.ends reply).0)

-- each request of an attempt is its own processor's, and a slice
pub attempt-slices : (from : Origin) (op : Op) → AsksOnly (IsSliceOf from.number) (attempt from op)
attempt-slices from op = own-slices from.number (attempt from op) (own-tree from (Some op))

-- the same after the reply
by_reply-own : (number : ℕ) (t : Tree Outcome) (reply : Reply) → Asked (IsOwnRequest number) t → Asked (IsOwnRequest number) (by_reply t reply)
by_reply-own number (Ends o) reply h = h
by_reply-own number (Asks s k) reply h = h
by_reply-own number (Wants q k) reply h = unasked-asked (IsOwnRequest number) (k reply) (h.ends reply).0

followed-own : (number : ℕ) (t : Tree Outcome) (heard : Option Heard) (answers : List ℕ) → Asked (IsOwnRequest number) t → Asked (IsOwnRequest number) (followed t heard answers)
followed-own number t None answers h = follow-asked (IsOwnRequest number) t answers h
followed-own number t (Some heard) answers h =
    let before = follow t (take heard.after answers) in
    follow-asked (IsOwnRequest number) (by_reply before heard.reply) (drop heard.after answers) (by_reply-own number before heard.reply (follow-asked (IsOwnRequest number) t (take heard.after answers) h))

pub own-requests : (from : Origin) (op : Option Op) (heard : Option Heard) (answers : List ℕ) → Asked (IsOwnRequest from.number) (followed (tree_of from op) heard answers)
own-requests from op heard answers = followed-own from.number (tree_of from op) heard answers (own-tree from op)
