-- An attempt asks only what may be asked.
use Rattle.std.proofs.Common.{◌≡◌, ◌≢◌, ◌<◌, ◌≤◌, ◌+◌, ◌*◌, nat_le, length, IfSome, ◌∙◌, ℕ, zero, suc, Bool, true, false, not, cond, nat_lt, Option, Some, None, List, [], ◌∷◌, ◌++◌, refl, subst, arith, ◌%◌, ◌/◌, ◌^◌, ◌==◌, ◌&&◌, ◌||◌}
use Rattle.std.specs.List.{list_all, filter, range_with_len}
use Rattle.std.proofs.lemmas.Bool.Decides.{nat_tests}
use Rattle.vsm_base.specs.Masks.{allows}
use Rattle.vsm_base.specs.declared.places.Access.{Access}
use Rattle.vsm_base.specs.declared.places.Access.TheVariants.{Read, Write, Execute}
use Rattle.vsm_base.specs.declared.places.Limits.{Limits}
use Rattle.vsm_base.specs.declared.places.Vtl.{Vtl}
use Rattle.vsm_base.specs.declared.places.Vtl.TheVariants.{Zero, One}
use Rattle.vsm_base.specs.declared.status.HvStatus.{HvStatus}
use Rattle.vsm_base.specs.declared.status.TheConstants.HvStatus as statuses
use Rattle.vsm_core.specs.declared.event.Event.{Event}
use Rattle.vsm_core.specs.declared.event.Phase.TheVariants.{Idle}
use Rattle.vsm_core.specs.declared.mark.Grant.{Grant}
use Rattle.vsm_core.specs.declared.mark.GuestFault.{GuestFault}
use Rattle.vsm_core.specs.declared.mark.GuestFault.TheVariants.{Unmapped, Page}
use Rattle.vsm_core.specs.declared.mark.What.{What}
use Rattle.vsm_core.specs.declared.operation.Op.{Op}
use Rattle.vsm_core.specs.declared.operation.Op.TheVariants.{Set, Get, Load, Store, Exec, Spin, Hypercall, VtlCall, VtlReturn, Poll}
use Rattle.vsm_core.specs.declared.operation.Op.TheVariants as ops
use Rattle.vsm_core.specs.declared.note.Note.{Note}
use Rattle.vsm_core.specs.declared.request.PartCall.{PartCall}
use Rattle.vsm_core.specs.declared.request.Reply.{Reply}
use Rattle.vsm_core.specs.Tree.{Tree, Ends, Asks, Wants, WordStep, Masking, Writing, Leaving, Posting, then_, asks_all, takes, reads}
use Rattle.vsm_core.specs.Calls.{Row, Check, row_of, code_in, count_in, start_in, is_fast as is_fast_call, first_failed, form_checks}
use Rattle.vsm_core.specs.Hypercalls.{input_value, input_address, output_address, input_size, output_size, has_output, fast_words, input_checks, input_refusal, place_checks, result_outcome}
use Rattle.vsm_core.specs.Interrupts.{vector_in, processors_in, interrupted_level, interrupt_checks, is_in, those_in, interrupt_step, interrupt_steps}
use Rattle.vsm_core.specs.Starts.{start_tree}
use Rattle.vsm_core.specs.RegisterCalls.{Setting, settings, value_words, look_in, write_in, set_slice, count_of, start_of, past_of, header_refusal, slice_numbers, slice_output, got_slice}
use Rattle.vsm_core.specs.Reps.{first_word, words_between}
use Rattle.vsm_core.specs.Targets.{target_level}
use Rattle.vsm_core.specs.State.{State, operand, privilege_of}
use Rattle.vsm_core.specs.Steps.{IsIn, IsVectors, MayStep, made, phase_of}
use Rattle.vsm_core.specs.Fills.{Cached, Fill, Translation}
use Rattle.vsm_core.specs.Walk.{Query, Walked, Need, Mapped, Refused, walk, paged, of_entries, is_paging, is_canonical, is_present, is_right}
use Rattle.vsm_core.specs.Access.{Goal, Decision, Grants, Denies, Faults, data_step, covers, behind_mask, reaches, by_mask, at_page, entry_step, by_table_mask, at_table, tables, access, query_of, start_fault}
use Rattle.vsm_core.specs.Registers.{get as get_in}
use Rattle.vsm_base.specs.declared.name.Name.{Name}
use Rattle.vsm_base.specs.declared.name.Name.TheVariants as names
use Rattle.vsm_core.specs.Switch.{may_call, may_return, may_enter, is_zero, is_fast, page_if, page_named, assist_page, restored_from, by_call, by_interrupt}
use Rattle.vsm_core.specs.Controllers.{Controllers, message_page, message_steps, post_steps, pending_steps, writes, rings, sint0_vector, has_none, vector_words, with_taken}
use Rattle.vsm_core.specs.Messages.{message_words, flagged, is_free}
use Rattle.vsm_core.specs.Outcomes.{Origin, Outcome, Refusal, origin_in, outcome_at, faulted, fills, loaded, passed, spun, note_of, held_outcome, denied_outcome, hit_outcome, register_note, set_outcome, get_outcome, eom_outcome}
use Rattle.vsm_core.specs.Attempt.{attempt, by_access, begun, leaves, left_with, in_own_access, told_on, by_slot, posting, tells, refused, goal_of, returns, is_wanted, wanted_outcome, unwanted_outcome, polled_on, sending, polled, sends, eom_on, requests, left_for, hit_tells, hits_on, intercepted, is_write_hit, is_read_hit, set_tree, get_tree, behind_page_mask, puts_out, looked_by, gets_or_asks, gets_by, sets_or_asks, sets_by, interrupts_by, interrupts, by_input, reads_slice, reads_input, behind_output, by_memory, by_registers, admitted, by_refusal, hypercall_tree}
use Rattle.vsm_core.proofs.Bounds.{words-twelve, flagged-length, flush_row, flush_list_row, interrupt_row, modify_row, partition_row, level_row, get_row, set_row, start_row, each-row, past-inside, output-length}
use Rattle.vsm_core.proofs.Checks.{none-fails}
use Rattle.vsm_core.specs.Sound.{Sound, IsOver}

-- first the one, and then what its end says
pub Sound-then_ : {A B : Type 0} (limits : Limits) (Q : List Event → A → Type 0) (R : List Event → B → Type 0) (es : List Event) (t : Tree A) (f : A → Tree B) → Sound limits Q es t → ((fs : List Event) (a : A) → Q fs a → Sound limits R fs (f a)) → Sound limits R es (then_ t f)
Sound-then_ limits Q R es (Ends a) f h g = g es a h
Sound-then_ limits Q R es (Asks s k) f h g = (h.0, λ x. Sound-then_ limits Q R _ (k x) f (h.1 x) g)
Sound-then_ limits Q R es (Wants q k) f h g = (h.0, λ r. Sound-then_ limits Q R es (k r) f (h.1 r) g)

-- either of two, by a test
pub Sound-cond : {A : Type 0} (limits : Limits) (Q : List Event → A → Type 0) (es : List Event) (b : Bool) (t u : Tree A) → (b ≡ true → Sound limits Q es t) → Sound limits Q es u → Sound limits Q es (cond b t u)
Sound-cond limits Q es true t u h g = h refl
Sound-cond limits Q es false t u h g = g

-- inside the access
abbrev IsInside : List Event → Decision → Type 0
IsInside es d = IsIn (phase_of es)

-- an access to so many pages, and what it asks
module _ (limits : Limits) (goal : Goal) (same : goal.pages ≡ limits.pages) where
  data_step-sound : (kind : Access) (es : List Event) (page : ℕ) (mask : Option ℕ) (generation : ℕ) (fill : Option Fill) → IsIn (phase_of es) → page < limits.pages → Sound limits IsInside es (data_step kind goal page mask generation fill)
  data_step-sound Read es page mask generation fill inside low = ((inside, low, omega arith), λ x. inside)
  data_step-sound Write es page mask generation fill inside low = ((inside, low, omega arith), λ x. inside)
  data_step-sound Execute es page mask generation fill inside low = ((inside, low, omega arith), λ x. inside)

  behind-sound : (level : Vtl) (es : List Event) (page : ℕ) (by : ℕ → Tree Decision) (unbound : Tree Decision) → IsIn (phase_of es) → page < limits.pages → ((fs : List Event) (mask : ℕ) → IsIn (phase_of fs) → Sound limits IsInside fs (by mask)) → Sound limits IsInside es unbound → Sound limits IsInside es (behind_mask level page by unbound)
  behind-sound Zero es page by unbound inside low h g = ((inside, low), λ mask. h _ mask inside)
  behind-sound One es page by unbound inside low h g = g

  by_mask-sound : (es : List Event) (to : Translation) (generation mask : ℕ) → IsIn (phase_of es) → to.page < limits.pages → Sound limits IsInside es (by_mask goal to generation mask)
  by_mask-sound es to generation mask inside low =
      Sound-cond limits IsInside es (covers mask goal.need) (reaches goal to generation (Some mask)) (Ends (Denies to.page mask generation goal.access _ _)) (λ _. data_step-sound goal.access es to.page (Some mask) generation _ inside low) inside

  at_page-sound : (es : List Event) (to : Translation) (generation : ℕ) → IsIn (phase_of es) → Sound limits IsInside es (at_page goal to generation)
  at_page-sound es to generation inside =
      Sound-cond limits IsInside es (nat_lt to.page goal.pages) (behind_mask goal.level to.page (by_mask goal to generation) (reaches goal to generation None)) (Ends (Faults Unmapped)) (λ e.
      let low : to.page < limits.pages = grind (arith, nat_tests, same) in
      behind-sound goal.level es to.page (by_mask goal to generation) (reaches goal to generation None) inside low (λ fs mask within. by_mask-sound fs to generation mask within low) (data_step-sound goal.access es to.page None generation _ inside low)) inside

  -- the table that is wanted next has the place that is wanted
  abbrev IsLow : Walked → Type 0
  IsLow (Need page index) = index < 512
  IsLow (Mapped to) = Unit {0}
  IsLow (Refused fault) = Unit {0}

  by_table_mask-sound : (more : List ℕ → Tree Decision) (es : List Event) (entries : List ℕ) (generation page index mask : ℕ) → IsIn (phase_of es) → page < limits.pages → index < 512 → ((fs : List Event) (ns : List ℕ) → IsIn (phase_of fs) → Sound limits IsInside fs (more ns)) → Sound limits IsInside es (by_table_mask more entries generation page index mask)
  by_table_mask-sound more es entries generation page index mask inside low place h =
      Sound-cond limits IsInside es (allows mask Read) (entry_step more entries page index) (Ends (Denies page mask generation Read _ None)) (λ _. ((inside, low, place), λ x. h _ (entries ++ x ∷ []) inside)) inside

  at_table-sound : (more : List ℕ → Tree Decision) (es : List Event) (entries : List ℕ) (generation : ℕ) (w : Walked) → IsLow w → IsIn (phase_of es) → ((fs : List Event) (ns : List ℕ) → IsIn (phase_of fs) → Sound limits IsInside fs (more ns)) → Sound limits IsInside es (at_table more goal entries generation w)
  at_table-sound more es entries generation (Need page index) place inside h =
      Sound-cond limits IsInside es (nat_lt page goal.pages) (behind_mask goal.level page (by_table_mask more entries generation page index) (entry_step more entries page index)) (Ends (Faults Unmapped)) (λ e.
      let low : page < limits.pages = grind (arith, nat_tests, same) in
      behind-sound goal.level es page (by_table_mask more entries generation page index) (entry_step more entries page index) inside low (λ fs mask within. by_table_mask-sound more fs entries generation page index mask within low place h) ((inside, low, place), λ x. h _ (entries ++ x ∷ []) inside)) inside
  at_table-sound more es entries generation (Mapped to) place inside h = at_page-sound es to generation inside
  at_table-sound more es entries generation (Refused fault) place inside h = inside

  low-cond : (b : Bool) (v w : Walked) → IsLow v → IsLow w → IsLow (cond b v w)
  low-cond true v w h g = h
  low-cond false v w h g = g

  of_entries-low : (q : Query) (entries : List ℕ) → IsLow (of_entries q entries)
  of_entries-low q [] = omega arith
  of_entries-low q (a ∷ []) = omega arith
  of_entries-low q (a ∷ b ∷ []) = omega arith
  of_entries-low q (a ∷ b ∷ c ∷ []) = omega arith
  of_entries-low q (a ∷ b ∷ c ∷ d ∷ more) = low-cond (is_right q.access q.cpl _) (Mapped _) (Refused Page) tt tt

  walk-low : (q : Query) (entries : List ℕ) → IsLow (walk q entries)
  walk-low q entries =
      low-cond (is_paging q.cr0) (cond (is_canonical q.gva) (paged q entries) (Refused _)) (Mapped _)
      (low-cond (is_canonical q.gva) (paged q entries) (Refused _) (low-cond (list_all is_present entries) (of_entries q entries) (Refused Page) (of_entries-low q entries) tt) tt) tt

  tables-sound : (more : ℕ) (es : List Event) (generation : ℕ) (entries : List ℕ) → IsIn (phase_of es) → Sound limits IsInside es (tables more goal generation entries)
  tables-sound zero es generation entries inside = at_table-sound (λ _. Ends (Faults Page)) es entries generation (walk (query_of goal) entries) (walk-low (query_of goal) entries) inside (λ fs ns within. within)
  tables-sound (suc more) es generation entries inside = at_table-sound (tables more goal generation) es entries generation (walk (query_of goal) entries) (walk-low (query_of goal) entries) inside (λ fs ns within. tables-sound more fs generation ns within)

  access-sound : (es : List Event) → phase_of es ≡ Idle → Sound limits IsInside es (access goal)
  access-sound es idle = (idle, λ x. (refl, λ generation. tables-sound 4 _ generation [] tt))

-- a page that is named is one of those that there are
abbrev IsThere : ℕ → Option ℕ → Type 0
IsThere pages None = Unit {0}
IsThere pages (Some page) = page < pages

page_if-there : (b : Bool) (pages page : ℕ) → (b ≡ true → page < pages) → IsThere pages (page_if b page)
page_if-there true pages page h = h refl
page_if-there false pages page h = tt

and-second : (a b : Bool) → (a && b) ≡ true → b ≡ true
and-second true b e = e
and-second false b e = cc

and-other : (a b : Bool) → a ≡ true → (a && b) ≡ false → b ≡ false
and-other true b is e = e
and-other false b is e = cc

named-there : (pages word : ℕ) → IsThere pages (page_named pages word)
named-there pages word =
    page_if-there ((word % 2 == 1) && nat_lt (word / 4096) pages) pages (word / 4096) (λ e. let low = and-second (word % 2 == 1) (nat_lt (word / 4096) pages) e in grind (arith, nat_tests))

assist-there : (pages : ℕ) (state : State) → IsThere pages (assist_page pages state)
assist-there pages state = named-there pages (get_in state.registers One names.VpAssistPage % 2 ^ 64)

unless-there : (b : Bool) (pages : ℕ) (page : Option ℕ) → IsThere pages page → IsThere pages (cond b None page)
unless-there true pages page h = tt
unless-there false pages page h = h

if-there : (b : Bool) (pages : ℕ) (page : Option ℕ) → IsThere pages page → IsThere pages (cond b page None)
if-there true pages page h = h
if-there false pages page h = tt

message-there : (pages : ℕ) (state : State) → IsThere pages (message_page pages state)
message-there pages state =
    let simp : ℕ = get_in state.registers One names.Simp % 2 ^ 64 in
    if-there (get_in state.registers One names.Scontrol % 2 == 1) pages (page_named pages simp) (named-there pages simp)

-- each of these steps may be made where a generation was checked, and that stays so
abbrev IsQuiet : Limits → WordStep → Type 0
IsQuiet limits (Writing page index value) = (page < limits.pages) × (index < 512)
IsQuiet limits (Posting vp word bits) = (vp < limits.vps) × IsVectors word
IsQuiet limits _ = ⊥

abbrev AreQuiet : Limits → List WordStep → Type 0
AreQuiet limits [] = Unit {0}
AreQuiet limits (s ∷ steps) = IsQuiet limits s × AreQuiet limits steps

quiet-may : (limits : Limits) (s : WordStep) (es : List Event) → IsQuiet limits s → IsIn (phase_of es) → MayStep limits (phase_of es) s
quiet-may limits (Writing page index value) es is inside = (inside, is.0, is.1)
quiet-may limits (Posting vp word bits) es is inside = is
quiet-may limits _ es is inside = elim is [ ]

quiet-inside : (limits : Limits) (s : WordStep) (x : ℕ) (es : List Event) → IsQuiet limits s → IsIn (phase_of es) → IsIn (phase_of (made s x ∷ es))
quiet-inside limits (Writing page index value) x es is inside = inside
quiet-inside limits (Posting vp word bits) x es is inside = inside
quiet-inside limits _ x es is inside = elim is [ ]

asks_all-sound : {A : Type 0} (limits : Limits) (Q : List Event → A → Type 0) (es : List Event) (steps : List WordStep) (rest : Tree A) → AreQuiet limits steps → IsIn (phase_of es) → ((fs : List Event) → IsIn (phase_of fs) → Sound limits Q fs rest) → Sound limits Q es (asks_all steps rest)
asks_all-sound limits Q es [] rest quiet inside h = h es inside
asks_all-sound limits Q es (s ∷ steps) rest quiet inside h =
    (quiet-may limits s es quiet.0 inside, λ x. asks_all-sound limits Q _ steps rest quiet.1 (quiet-inside limits s x es quiet.0 inside) h)

quiet-append : (limits : Limits) (steps more : List WordStep) → AreQuiet limits steps → AreQuiet limits more → AreQuiet limits (steps ++ more)
quiet-append limits [] more h g = g
quiet-append limits (s ∷ steps) more h g = (h.0, quiet-append limits steps more h.1 g)

quiet-cond : (limits : Limits) (b : Bool) (steps others : List WordStep) → AreQuiet limits steps → AreQuiet limits others → AreQuiet limits (cond b steps others)
quiet-cond limits true steps others h g = h
quiet-cond limits false steps others h g = g

writes-quiet : (limits : Limits) (page index : ℕ) (words : List ℕ) → page < limits.pages → index + length words ≤ 512 → AreQuiet limits (writes page index words)
writes-quiet limits page index [] low le = tt
writes-quiet limits page index (word ∷ words) low le = ((low, omega arith), writes-quiet limits page (suc index) words low (omega arith))

told_on-quiet : (limits : Limits) (page : Option ℕ) (reason : ℕ) → IsThere limits.pages page → AreQuiet limits (told_on page reason)
told_on-quiet limits None reason low = tt
told_on-quiet limits (Some page) reason low = ((low, omega arith), tt)

-- the vectors that there are
abbrev IsVector : Option ℕ → Type 0
IsVector None = Unit {0}
IsVector (Some vector) = vector < 256

vector-cond : (b : Bool) (vector : ℕ) → vector < 256 → IsVector (cond b (Some vector) None)
vector-cond true vector h = h
vector-cond false vector h = tt

rings-quiet : (limits : Limits) (number : ℕ) (vector : Option ℕ) → number < limits.vps → IsVector vector → AreQuiet limits (rings number vector)
rings-quiet limits number None low is = tt
rings-quiet limits number (Some vector) low is = ((low, omega arith), tt)

message_steps-quiet : (limits : Limits) (number : ℕ) (state : State) (page : ℕ) (words : List ℕ) → number < limits.vps → page < limits.pages → length words ≡ 12 → AreQuiet limits (message_steps number state page words)
message_steps-quiet limits number state page words low there e =
    let sint : ℕ = get_in state.registers One names.Sint0 % 2 ^ 64 in
    quiet-append limits (writes page 0 words) (rings number (sint0_vector sint)) (writes-quiet limits page 0 words there (omega arith))
    (rings-quiet limits number (sint0_vector sint) low (vector-cond ((sint / 2 ^ 16 % 2 == 0) && nat_le 16 (sint % 256)) (sint % 256) (omega arith)))

module _ (limits : Limits) (number : ℕ) (state : State) (controllers : Controllers) (low : number < limits.vps) where
  abbrev from : Origin
  from = origin_in limits number state controllers

  inside-ne : (es : List Event) → IsIn (phase_of es) → phase_of es ≢ Idle
  inside-ne es inside e = subst IsIn e inside

  left-sound : (es : List Event) (o : Outcome) → IsIn (phase_of es) → Sound limits IsOver es (left_with o)
  left-sound es o inside = (inside-ne es inside, λ x. refl)

  post_steps-quiet : (page word : ℕ) (note : Note) → page < limits.pages → AreQuiet limits (post_steps number state page word controllers.waiting note)
  post_steps-quiet page word note there =
      quiet-cond limits (is_free word) _ (pending_steps page word) (quiet-cond limits (has_none controllers.waiting) (message_steps number state page (message_words note)) [] (message_steps-quiet limits number state page (message_words note) low there (words-twelve note)) tt) ((there, omega arith), tt)

  posting-quiet : (page : Option ℕ) (note : Note) (slot : Option ℕ) → IsThere limits.pages page → AreQuiet limits (posting from page note slot)
  posting-quiet None note slot there = tt
  posting-quiet (Some page) note None there = tt
  posting-quiet (Some page) note (Some word) there = post_steps-quiet page word note there

  by_slot-sound : (es : List Event) (page : Option ℕ) (more : Option ℕ → Tree Outcome) → IsThere limits.pages page → IsIn (phase_of es) → ((fs : List Event) (slot : Option ℕ) → IsIn (phase_of fs) → Sound limits IsOver fs (more slot)) → Sound limits IsOver es (by_slot page more)
  by_slot-sound es None more there inside h = h es None inside
  by_slot-sound es (Some page) more there inside h = ((inside, there, omega arith), λ word. h _ (Some word) inside)

  -- the steps by which level 1 is told
  told-quiet : (note : Note) (slot : Option ℕ) → AreQuiet limits (posting from (message_page limits.pages state) note slot ++ told_on (assist_page limits.pages state) by_interrupt)
  told-quiet note slot =
      quiet-append limits (posting from (message_page limits.pages state) note slot) (told_on (assist_page limits.pages state) by_interrupt) (posting-quiet (message_page limits.pages state) note slot (message-there limits.pages state)) (told_on-quiet limits (assist_page limits.pages state) by_interrupt (assist-there limits.pages state))

  tells-sound : (es : List Event) (r : Refusal) (note : Note) (does : List Cached) (slot : Option ℕ) → IsIn (phase_of es) → Sound limits IsOver es (tells from r note does slot)
  tells-sound es r note does slot inside =
      asks_all-sound limits IsOver es (posting from (message_page limits.pages state) note slot ++ told_on (assist_page limits.pages state) by_interrupt) (left_with (denied_outcome from r note slot does))
      (told-quiet note slot) inside (λ fs within. left-sound fs (denied_outcome from r note slot does) within)

  refused-sound : (es : List Event) (gva : Option ℕ) (r : Refusal) (does : List Cached) → IsIn (phase_of es) → Sound limits IsOver es (refused from gva r does)
  refused-sound es gva r does inside =
      Sound-cond limits IsOver es (may_enter state) (by_slot (message_page limits.pages state) (tells from r (note_of from gva r) does)) (left_with (held_outcome from r does))
      (λ _. by_slot-sound es (message_page limits.pages state) (tells from r (note_of from gva r) does) (message-there limits.pages state) inside (λ fs slot within. tells-sound fs r (note_of from gva r) does slot within)) (left-sound es (held_outcome from r does) inside)

  leaves-sound : (gva : ℕ) (granted : Grant → What × State) (es : List Event) (d : Decision) → IsIn (phase_of es) → Sound limits IsOver es (leaves from gva granted d)
  leaves-sound gva granted es (Grants grant fill) inside = left-sound es (outcome_at from (granted grant).0 (granted grant).1 (fills state.active fill)) inside
  leaves-sound gva granted es (Denies page mask generation kind gpa fill) inside = refused-sound es (Some gva) _ _ inside
  leaves-sound gva granted es (Faults fault) inside = left-sound es (faulted from fault) inside

  begun-sound : (goal : Goal) → goal.pages ≡ limits.pages → (es : List Event) (granted : Grant → What × State) (fault : Option GuestFault) → phase_of es ≡ Idle → Sound limits IsOver es (begun from granted goal fault)
  begun-sound goal same es granted (Some fault) idle = idle
  begun-sound goal same es granted None idle =
      Sound-then_ limits IsInside IsOver es (access goal) (leaves from goal.gva granted) (access-sound limits goal same es idle) (λ fs d inside. leaves-sound goal.gva granted fs d inside)

  by_access-sound : (goal : Goal) → goal.pages ≡ limits.pages → (es : List Event) (granted : Grant → What × State) → phase_of es ≡ Idle → Sound limits IsOver es (by_access from granted goal)
  by_access-sound goal same es granted idle = begun-sound goal same es granted (start_fault goal) idle

  told-sound : (es : List Event) (page : Option ℕ) (reason : ℕ) (o : Outcome) → IsThere limits.pages page → phase_of es ≡ Idle → Sound limits IsOver es (in_own_access (told_on page reason) o)
  told-sound es None reason o there idle = idle
  told-sound es (Some page) reason o there idle = (idle, λ a. (refl, λ b. ((tt, there, omega arith), λ c. ((λ e. cc), λ d. refl))))

  hit_tells-sound : (es : List Event) (note : Note) (slot : Option ℕ) → IsIn (phase_of es) → Sound limits IsOver es (hit_tells from note slot)
  hit_tells-sound es note slot inside =
      asks_all-sound limits IsOver es (posting from (message_page limits.pages state) note slot ++ told_on (assist_page limits.pages state) by_interrupt) (left_with (hit_outcome from note slot))
      (told-quiet note slot) inside (λ fs within. left-sound fs (hit_outcome from note slot) within)

  hits_on-sound : (es : List Event) (note : Note) (page : Option ℕ) → IsThere limits.pages page → phase_of es ≡ Idle → Sound limits IsOver es (hits_on from note page)
  hits_on-sound es note None there idle = told-sound es (assist_page limits.pages state) by_interrupt (hit_outcome from note None) (assist-there limits.pages state) idle
  hits_on-sound es note (Some page) there idle = (idle, λ a. (refl, λ b. ((tt, there, omega arith), λ word. hit_tells-sound _ note (Some word) tt)))

  intercepted-sound : (es : List Event) (note : Note) → phase_of es ≡ Idle → Sound limits IsOver es (intercepted from note)
  intercepted-sound es note idle = hits_on-sound es note (message_page limits.pages state) (message-there limits.pages state) idle

  set_tree-sound : (es : List Event) (name : Name) (value : ℕ) → phase_of es ≡ Idle → Sound limits IsOver es (set_tree from name value)
  set_tree-sound es name value idle =
      Sound-cond limits IsOver es (is_write_hit from name value) (intercepted from (register_note from true name value)) (Ends (set_outcome from name value)) (λ _. intercepted-sound es (register_note from true name value) idle) idle

  get_tree-sound : (es : List Event) (name : Name) → phase_of es ≡ Idle → Sound limits IsOver es (get_tree from name)
  get_tree-sound es name idle =
      Sound-cond limits IsOver es (is_read_hit from name) (intercepted from (register_note from false name 0)) (Ends (get_outcome from name)) (λ _. intercepted-sound es (register_note from false name 0) idle) idle

  returns-sound : (es : List Event) (page : Option ℕ) → IsThere limits.pages page → phase_of es ≡ Idle → Sound limits IsOver es (returns from page)
  returns-sound es None there idle = idle
  returns-sound es (Some page) there idle = (idle, λ a. (refl, λ b. ((tt, there, omega arith), λ c. ((tt, there, omega arith), λ d. ((λ e. cc), λ f. refl)))))

  polled_on-sound : (es : List Event) (after : Controllers) → phase_of es ≡ Idle → Sound limits IsOver es (polled_on from after)
  polled_on-sound es after idle =
      Sound-cond limits IsOver es (is_wanted state after) (in_own_access (told_on (assist_page limits.pages state) by_interrupt) (wanted_outcome state after)) (Ends (unwanted_outcome state after))
      (λ _. told-sound es (assist_page limits.pages state) by_interrupt (wanted_outcome state after) (assist-there limits.pages state) idle) idle

  sending-quiet : (page : Option ℕ) (waiting : List Note) (word : ℕ) → IsThere limits.pages page → AreQuiet limits (sending from page waiting word)
  sending-quiet None waiting word there = tt
  sending-quiet (Some page) [] word there = tt
  sending-quiet (Some page) (note ∷ more) word there =
      let words = flagged (cond (has_none more) false true) (message_words note) in
      quiet-cond limits (is_free word) (message_steps number state page words) (pending_steps page word) (message_steps-quiet limits number state page words low there (flagged-length (cond (has_none more) false true) (message_words note) ∙ words-twelve note)) ((there, omega arith), tt)

  sends-sound : (es : List Event) (word : ℕ) → IsIn (phase_of es) → Sound limits IsOver es (sends from word)
  sends-sound es word inside =
      asks_all-sound limits IsOver es (sending from (message_page limits.pages state) controllers.waiting word) (left_with (eom_outcome from (Some word)))
      (sending-quiet (message_page limits.pages state) controllers.waiting word (message-there limits.pages state))
      inside (λ fs within. left-sound fs (eom_outcome from (Some word)) within)

  eom_on-sound : (es : List Event) (page : Option ℕ) (waiting : List Note) → IsThere limits.pages page → phase_of es ≡ Idle → Sound limits IsOver es (eom_on from page waiting)
  eom_on-sound es None waiting there idle = idle
  eom_on-sound es (Some page) [] there idle = idle
  eom_on-sound es (Some page) (note ∷ more) there idle =
      (idle, λ a. (refl, λ b. ((tt, there, omega arith), λ word. sends-sound _ word tt)))

-- where none of these and none of those refuses
first_failed-parts : (checks more : List Check) → first_failed (checks ++ more) ≡ None → (first_failed checks ≡ None) × (first_failed more ≡ None)
first_failed-parts [] more e = (refl, e)
first_failed-parts (c ∷ checks) more e = by c.fails c.status (first_failed-parts checks more) e where
  by : (b : Bool) (status : HvStatus) → (first_failed (checks ++ more) ≡ None → (first_failed checks ≡ None) × (first_failed more ≡ None)) → cond b (Some status) (first_failed (checks ++ more)) ≡ None → (cond b (Some status) (first_failed checks) ≡ None) × (first_failed more ≡ None)
  by true status h e = cc
  by false status h e = h e

-- a call that goes on element by element begins below its count
started : (row : Row) (value : ℕ) → first_failed (form_checks row value) ≡ None → row.is_rep ≡ true → start_in value < count_in value
unfolding form_checks
started row value e is = before (start_in value) (count_in value) (by row.is_rep is ((none-fails (form_checks row value) e).1.1.1.1.1.1.1.1.0)) where
  by : (rep : Bool) → rep ≡ true → (rep && not (nat_lt (start_in value) (count_in value))) ≡ false → not (nat_lt (start_in value) (count_in value)) ≡ false
  by true is fails = fails
  by false is fails = cc

  before : (start count : ℕ) → not (nat_lt start count) ≡ false → start < count
  before start count fails = grind (arith, nat_tests)

-- so many bytes of a page that there is, from a word of it on
record IsPart (pages address size : ℕ) : Type 0 where
  aligned : address % 4096 % 8 ≡ 0
  fits : address % 4096 + size ≤ 4096
  there : address / 4096 < pages

part-by : (pages address size : ℕ) → not (address % 4096 % 8 == 0) ≡ false → nat_lt 4096 (address % 4096 + size) ≡ false → nat_le pages (address / 4096) ≡ false → IsPart pages address size
part-by pages address size first second third = record {
  aligned = grind (arith, nat_tests, first);
  fits = grind (arith, nat_tests, second);
  there = grind (arith, nat_tests, third);
}

-- the input of a call that isn't refused, and its output
input-part : (pages : ℕ) (row : Row) (value address output : ℕ) → first_failed (place_checks pages row value address output) ≡ None → IsPart pages address (input_size row value)
input-part pages row value address output e =
    let none = none-fails (place_checks pages row value address output) e in
    part-by pages address (input_size row value) none.0 none.1.1.0 none.1.1.1.1.0

output-part : (pages : ℕ) (row : Row) (value address output : ℕ) → first_failed (place_checks pages row value address output) ≡ None → has_output row ≡ true → IsPart pages output (output_size row value)
output-part pages row value address output e is =
    let none = none-fails (place_checks pages row value address output) e in
    part-by pages output (output_size row value) (and-other _ _ is none.1.0) (and-other _ _ is none.1.1.1.0) (and-other _ _ is none.1.1.1.1.1.0)

-- each of these processors is one of so many
abbrev AreBelow : ℕ → List ℕ → Type 0
AreBelow count [] = Unit {0}
AreBelow count (p ∷ ps) = (p < count) × AreBelow count ps

below-cond : (b : Bool) (count p : ℕ) (ps : List ℕ) → p < count → AreBelow count ps → AreBelow count (cond b (p ∷ ps) ps)
below-cond true count p ps low h = (low, h)
below-cond false count p ps low h = h

filter-below : (f : ℕ → Bool) (count : ℕ) (ps : List ℕ) → AreBelow count ps → AreBelow count (filter f ps)
filter-below f count [] h = tt
filter-below f count (p ∷ ps) h = below-cond (f p) count p (filter f ps) h.0 (filter-below f count ps h.1)

range-below : (count p n : ℕ) → p + n ≤ count → AreBelow count (range_with_len p n)
range-below count p zero le = tt
range-below count p (suc n) le = (omega arith, range-below count (p + 1) n (omega arith))

those-below : (bits count : ℕ) → AreBelow count (those_in bits 0 count)
those-below bits count = filter-below (is_in bits) count (range_with_len 0 count) (range-below count 0 count (omega arith))

-- a post may be made between two accesses
interrupt-sound : {A : Type 0} (limits : Limits) (Q : List Event → A → Type 0) (es : List Event) (level : Vtl) (vector : ℕ) (ps : List ℕ) (rest : Tree A) → vector < 256 → AreBelow limits.vps ps → phase_of es ≡ Idle
    → ((fs : List Event) → phase_of fs ≡ Idle → Sound limits Q fs rest) → Sound limits Q es (asks_all (interrupt_steps level vector ps) rest)
interrupt-sound limits Q es level vector [] rest few below idle h = h es idle
interrupt-sound limits Q es level vector (p ∷ ps) rest few below idle h =
    ((below.0, omega arith), λ x. interrupt-sound limits Q (made (interrupt_step level vector p) x ∷ es) level vector ps rest few below.1 idle h)

-- the vector of a call that isn't refused
lawful-vector : (vps : ℕ) (caller : Vtl) (header : List ℕ) → first_failed (interrupt_checks vps caller header) ≡ None → vector_in header < 256
lawful-vector vps caller header e = by (vector_in header) (none-fails (interrupt_checks vps caller header) e).1.1.0 where
  by : (vector : ℕ) → (nat_lt vector 0x10 || nat_lt 0xFF vector) ≡ false → vector < 256
  by vector fails = grind (arith, nat_tests)

reads-sound : {A : Type 0} (limits : Limits) (Q : List Event → A → Type 0) (es : List Event) (page index count : ℕ) (found : List ℕ) (rest : List ℕ → Tree A) → page < limits.pages → index + count ≤ 512 → IsIn (phase_of es)
    → ((fs : List Event) (words : List ℕ) → IsIn (phase_of fs) → Sound limits Q fs (rest words)) → Sound limits Q es (reads page index count found rest)
reads-sound limits Q es page index zero found rest low few inside h = h es found inside
reads-sound limits Q es page index (suc count) found rest low few inside h =
    ((inside, low, omega arith), λ x. reads-sound limits Q _ page (suc index) count (found ++ x ∷ []) rest low (omega arith) inside h)

module _ (limits : Limits) (number : ℕ) (state : State) (controllers : Controllers) (low : number < limits.vps) where
  abbrev caller : Origin
  caller = origin_in limits number state controllers

  requests-sound : (es : List Event) (code : ℕ) (header elements : List ℕ) → phase_of es ≡ Idle → Sound limits IsOver es (requests caller code header elements)
  requests-sound es code header elements idle = (idle, λ reply. idle)

  left_for-sound : (es : List Event) (code : ℕ) (header elements : List ℕ) → IsIn (phase_of es) → Sound limits IsOver es (left_for caller code header elements)
  left_for-sound es code header elements inside = (inside-ne limits number state controllers low es inside, λ x. requests-sound (made Leaving x ∷ es) code header elements refl)

  sets_or-sound : (es : List Event) (target : Vtl) (given : List Setting) (call : Option PartCall) → IsIn (phase_of es) → Sound limits IsOver es (sets_or_asks caller target given call)
  sets_or-sound es target given None inside = left-sound limits number state controllers low es (set_slice caller target given) inside
  sets_or-sound es target given (Some call) inside = (inside-ne limits number state controllers low es inside, λ x. (refl, λ reply. refl))

  sets_by-sound : (es : List Event) (header words : List ℕ) (refusal : Option HvStatus) → IsIn (phase_of es) → Sound limits IsOver es (sets_by caller header words refusal)
  sets_by-sound es header words (Some status) inside = left-sound limits number state controllers low es (result_outcome caller state status (start_of caller)) inside
  sets_by-sound es header words None inside =
      let target = target_level state.active header in
      sets_or-sound es target (settings words) (write_in state.active target (count_of caller) (settings words)) inside

  interrupts_by-sound : (es : List Event) (header : List ℕ) (refusal : Option HvStatus) → first_failed (interrupt_checks limits.vps state.active header) ≡ refusal → phase_of es ≡ Idle → Sound limits IsOver es (interrupts_by caller header refusal)
  interrupts_by-sound es header (Some status) e idle = idle
  interrupts_by-sound es header None e idle =
      interrupt-sound limits IsOver es (interrupted_level state.active header) (vector_in header) (those_in (processors_in header) 0 limits.vps) (Ends (result_outcome caller state statuses.SUCCESS 0))
      (lawful-vector limits.vps state.active header e) (those-below (processors_in header) limits.vps) idle (λ fs over. over)

  interrupts-sound : (es : List Event) (header : List ℕ) → phase_of es ≡ Idle → Sound limits IsOver es (interrupts caller header)
  interrupts-sound es header idle = interrupts_by-sound es header (first_failed (interrupt_checks limits.vps state.active header)) refl idle

  by_registers-sound : (es : List Event) (code : ℕ) (header : List ℕ) → phase_of es ≡ Idle → Sound limits IsOver es (by_registers caller code header)
  by_registers-sound es code header idle =
      Sound-cond limits IsOver es (code == 0x000B) (interrupts caller header) (requests caller code header []) (λ _. interrupts-sound es header idle) (requests-sound es code header [] idle)

  behind_page_mask-sound : (level : Vtl) (es : List Event) (kind : Access) (address generation : ℕ) (rest : Tree Outcome) → address / 4096 < limits.pages → IsIn (phase_of es) → ((fs : List Event) → IsIn (phase_of fs) → Sound limits IsOver fs rest) → Sound limits IsOver es (behind_page_mask level caller kind address generation rest)
  behind_page_mask-sound Zero es kind address generation rest there inside h = (
    (inside, there),
    λ mask.
        let fs = made (Masking (address / 4096)) mask ∷ es in
        let r : Refusal = record { page = address / 4096; mask = mask; generation = generation; access = kind; gpa = address } in
        Sound-cond limits IsOver fs (allows mask kind) rest (refused caller None r []) (λ _. h fs inside) (refused-sound limits number state controllers low fs None r [] inside),
  )
  behind_page_mask-sound One es kind address generation rest there inside h = h es inside

  -- the output of a call that gets registers
  module _ (placed : IsPart limits.pages (output_address state) (16 * count_of caller)) (before : start_of caller < count_of caller) where
    puts_out-sound : (es : List Event) (words : List ℕ) (o : Outcome) → start_of caller * 2 + length words ≤ 2 * count_of caller → IsIn (phase_of es) → Sound limits IsOver es (puts_out caller words o)
    puts_out-sound es words o few inside =
        let page : ℕ = output_address state / 4096 in
        let index : ℕ = output_address state % 4096 / 8 + 2 * start_of caller in
        let aligned = placed.aligned in
        let fits = placed.fits in
        asks_all-sound limits IsOver es (writes page index words) (left_with o) (writes-quiet limits page index words placed.there (omega (arith, aligned, fits, few))) inside (λ fs within. left-sound limits number state controllers low fs o within)

    looked_by-sound : (es : List Event) (reply : Reply) → phase_of es ≡ Idle → Sound limits IsOver es (looked_by caller reply)
    looked_by-sound es reply idle =
        let words = value_words reply.value in
        let o : Outcome = result_outcome caller state reply.status reply.done in
        (idle, λ a. (refl, λ generation. behind_page_mask-sound state.active _ Write (output_address state) generation (puts_out caller words o) placed.there tt (λ fs inside. puts_out-sound fs words o (omega (arith, before)) inside)))

    gets_or-sound : (es : List Event) (target : Vtl) (found : List ℕ) (call : Option PartCall) → IsIn (phase_of es) → Sound limits IsOver es (puts_out caller (slice_output caller target found) (got_slice caller target found)) → Sound limits IsOver es (gets_or_asks caller target found call)
    gets_or-sound es target found None inside h = h
    gets_or-sound es target found (Some call) inside h = (inside-ne limits number state controllers low es inside, λ x. (refl, λ reply. looked_by-sound (made Leaving x ∷ es) reply refl))

    gets_by-sound : (es : List Event) (header words : List ℕ) (refusal : Option HvStatus) → IsIn (phase_of es) → Sound limits IsOver es (gets_by caller header words refusal)
    gets_by-sound es header words (Some status) inside = left-sound limits number state controllers low es (result_outcome caller state status (start_of caller)) inside
    gets_by-sound es header words None inside =
        let target = target_level state.active header in
        let found : List ℕ = slice_numbers caller words in
        let long = output-length caller target words in
        let past = past-inside (start_of caller) (count_of caller) in
        gets_or-sound es target found (look_in state.active target (count_of caller) found) inside
        (puts_out-sound es (slice_output caller target found) (got_slice caller target found) (omega (arith, long, past, before)) inside)

  -- the words of the header and of the slice stand in the input's page
  abbrev IsReadable : Row → ℕ → Type 0
  IsReadable row address = address % 4096 / 8 + row.header / 8 + first_word row.read (start_of caller) + words_between row.read (start_of caller) (past_of caller) ≤ 512

  reads_input-sound : (es : List Event) (row : Row) (address : ℕ) → address / 4096 < limits.pages → IsReadable row address → IsIn (phase_of es) → ((fs : List Event) (header words : List ℕ) → IsIn (phase_of fs) → Sound limits IsOver fs (by_input caller row.code header words)) → Sound limits IsOver es (reads_input caller row address)
  reads_input-sound es row address there few inside h =
      reads-sound limits IsOver es (address / 4096) (address % 4096 / 8) (row.header / 8) [] (reads_slice caller row address) there (omega (arith, few)) inside
      (λ fs header within. reads-sound limits IsOver fs (address / 4096) (address % 4096 / 8 + row.header / 8 + first_word row.read (start_of caller)) (words_between row.read (start_of caller) (past_of caller)) [] (by_input caller row.code header) there few within (λ gs words deep. h gs header words deep))

  behind_output-sound : (es : List Event) (row : Row) (generation : ℕ) (rest : Tree Outcome) → (has_output row ≡ true → output_address state / 4096 < limits.pages) → IsIn (phase_of es) → ((fs : List Event) → IsIn (phase_of fs) → Sound limits IsOver fs rest) → Sound limits IsOver es (behind_output caller row generation rest)
  behind_output-sound es row generation rest there inside h =
      Sound-cond limits IsOver es (has_output row) (behind_page_mask state.active caller Write (output_address state) generation rest) rest (λ is. behind_page_mask-sound state.active es Write (output_address state) generation rest (there is) inside h) (h es inside)

  abbrev input : ℕ
  input = input_address state

  abbrev output : ℕ
  output = output_address state

  by_memory-sound : (es : List Event) (row : Row) → input / 4096 < limits.pages → (has_output row ≡ true → output / 4096 < limits.pages) → IsReadable row input → phase_of es ≡ Idle → ((fs : List Event) (header words : List ℕ) → IsIn (phase_of fs) → Sound limits IsOver fs (by_input caller row.code header words)) → Sound limits IsOver es (by_memory caller row input)
  by_memory-sound es row there put few idle h =
      let rest = reads_input caller row input in
      (idle, λ a. (refl, λ generation. behind_page_mask-sound state.active _ Read input generation (behind_output caller row generation rest) there tt (λ fs inside. behind_output-sound fs row generation rest put inside (λ gs within. reads_input-sound gs row input there few within h))))

  -- a call that isn't refused before its first step, whose input may be read and then does what may be done
  admitted-by : (es : List Event) (row : Row) (fast : Bool) → first_failed (form_checks row (input_value state) ++ cond fast [] (place_checks limits.pages row (input_value state) input output)) ≡ None → phase_of es ≡ Idle
      → (first_failed (form_checks row (input_value state)) ≡ None → IsPart limits.pages input (input_size row (input_value state)) → IsReadable row input)
      → (first_failed (form_checks row (input_value state)) ≡ None → (has_output row ≡ true → IsPart limits.pages output (output_size row (input_value state))) → (fs : List Event) (header words : List ℕ) → IsIn (phase_of fs) → Sound limits IsOver fs (by_input caller row.code header words))
      → Sound limits IsOver es (cond fast (by_registers caller row.code (fast_words state)) (by_memory caller row input))
  admitted-by es row true e idle readable does = by_registers-sound es row.code (fast_words state) idle
  admitted-by es row false e idle readable does =
      let parts = first_failed-parts (form_checks row (input_value state)) (place_checks limits.pages row (input_value state) input output) e in
      let part = input-part limits.pages row (input_value state) input output parts.1 in
      let put = output-part limits.pages row (input_value state) input output parts.1 in
      by_memory-sound es row part.there (λ is. (put is).there) (readable parts.0 part) idle (does parts.0 put)

  -- each of the calls that there are
  abbrev IsAdmitted : List Event → Row → Type 0
  IsAdmitted es row = first_failed (input_checks limits.pages row (input_value state) input output) ≡ None → Sound limits IsOver es (admitted caller row)

  admitted-sound : (es : List Event) (code : ℕ) → phase_of es ≡ Idle → IfSome (row_of code) (IsAdmitted es)
  admitted-sound es code idle =
      let fast : Bool = is_fast_call (input_value state) in
      let past = past-inside (start_of caller) (count_of caller) in
      each-row (IsAdmitted es) code
      (λ e. admitted-by es flush_row fast e idle (λ form part. let aligned = part.aligned in let fits = part.fits in omega (arith, aligned, fits)) (λ form put fs header words inside. left_for-sound fs 0x0002 header words inside))
      (λ e. admitted-by es flush_list_row fast e idle (λ form part. let aligned = part.aligned in let fits = part.fits in omega (arith, aligned, fits)) (λ form put fs header words inside. left_for-sound fs 0x0003 header words inside))
      (λ e. admitted-by es interrupt_row fast e idle (λ form part. let aligned = part.aligned in let fits = part.fits in omega (arith, aligned, fits))
      (λ form put fs header words inside. (inside-ne limits number state controllers low fs inside, λ x. interrupts-sound (made Leaving x ∷ fs) header refl)))
      (λ e. admitted-by es modify_row fast e idle
      (λ form part. let before = started modify_row (input_value state) form refl in let aligned = part.aligned in let fits = part.fits in omega (arith, aligned, fits, before, past))
      (λ form put fs header words inside. left_for-sound fs 0x000C header words inside))
      (λ e. admitted-by es partition_row fast e idle (λ form part. let aligned = part.aligned in let fits = part.fits in omega (arith, aligned, fits)) (λ form put fs header words inside. left_for-sound fs 0x000D header words inside))
      (λ e. admitted-by es level_row fast e idle (λ form part. let aligned = part.aligned in let fits = part.fits in omega (arith, aligned, fits)) (λ form put fs header words inside. left_for-sound fs 0x000F header words inside))
      (λ e. admitted-by es get_row fast e idle
      (λ form part. let before = started get_row (input_value state) form refl in let aligned = part.aligned in let fits = part.fits in omega (arith, aligned, fits, before, past))
      (λ form put fs header words inside. gets_by-sound (put refl) (started get_row (input_value state) form refl) fs header words (header_refusal caller header) inside))
      (λ e. admitted-by es set_row fast e idle
      (λ form part. let before = started set_row (input_value state) form refl in let aligned = part.aligned in let fits = part.fits in omega (arith, aligned, fits, before, past))
      (λ form put fs header words inside. sets_by-sound fs header words (header_refusal caller header) inside))
      (λ e. admitted-by es start_row fast e idle (λ form part. let aligned = part.aligned in let fits = part.fits in omega (arith, aligned, fits)) (λ form put fs header words inside. left_for-sound fs 0x0099 header words inside))

  by_refusal-sound : (es : List Event) (row : Option Row) (refusal : Option HvStatus) → input_refusal limits.pages row (input_value state) input output ≡ refusal → IfSome row (IsAdmitted es) → phase_of es ≡ Idle → Sound limits IsOver es (by_refusal caller row refusal)
  by_refusal-sound es row (Some status) e h idle = idle
  by_refusal-sound es None None e h idle = idle
  by_refusal-sound es (Some row) None e h idle = h e

  hypercall-sound : (es : List Event) → phase_of es ≡ Idle → Sound limits IsOver es (hypercall_tree caller)
  hypercall-sound es idle =
      let row = row_of (code_in (input_value state)) in
      let refusal = input_refusal limits.pages row (input_value state) input output in
      Sound-cond limits IsOver es (privilege_of state == 0) (by_refusal caller row refusal) (Ends _) (λ _. by_refusal-sound es row refusal refl (admitted-sound es (code_in (input_value state)) idle) idle) idle

-- whatever was found in words of pending vectors
polls-sound : (limits : Limits) (es : List Event) (rest : List ℕ → Tree Outcome) → ((fs : List Event) (found : List ℕ) → phase_of fs ≡ Idle → Sound limits IsOver fs (rest found)) → phase_of es ≡ Idle → Sound limits IsOver es (takes vector_words [] rest)
polls-sound limits es rest h idle =
    (omega arith, λ a. (omega arith, λ b. (omega arith, λ c. (omega arith, λ d. (omega arith, λ e. (omega arith, λ f. (omega arith, λ g. (omega arith, λ i. h _ _ idle))))))))

pub attempt-sound : (limits : Limits) (number : ℕ) (state : State) (controllers : Controllers) (op : Op) (es : List Event) → number < limits.vps → phase_of es ≡ Idle → Sound limits IsOver es (attempt (origin_in limits number state controllers) op)
attempt-sound limits number state controllers (Load name gva) es low idle = by_access-sound limits number state controllers low (goal_of limits.pages state Read true gva.0 0) refl es (loaded state name) idle
attempt-sound limits number state controllers (Store gva what) es low idle = by_access-sound limits number state controllers low (goal_of limits.pages state Write true gva.0 (operand state what)) refl es (passed state) idle
attempt-sound limits number state controllers (Exec gva) es low idle = by_access-sound limits number state controllers low (goal_of limits.pages state Execute false gva.0 0) refl es (passed state) idle
attempt-sound limits number state controllers (Spin gva value) es low idle = by_access-sound limits number state controllers low (goal_of limits.pages state Read true gva.0 0) refl es (spun state value) idle
attempt-sound limits number state controllers (Set name value) es low idle = set_tree-sound limits number state controllers low es name value idle
attempt-sound limits number state controllers (Get name) es low idle = get_tree-sound limits number state controllers low es name idle
attempt-sound limits number state controllers Hypercall es low idle = hypercall-sound limits number state controllers low es idle
attempt-sound limits number state controllers VtlCall es low idle =
    Sound-cond limits IsOver es (may_call state) (in_own_access (told_on (assist_page limits.pages state) by_call) _) (Ends _) (λ _. told-sound limits number state controllers low es (assist_page limits.pages state) by_call _ (assist-there limits.pages state) idle) idle
attempt-sound limits number state controllers VtlReturn es low idle =
    Sound-cond limits IsOver es (may_return state) (returns (origin_in limits number state controllers) (restored_from limits.pages state)) (Ends _) (λ _. returns-sound limits number state controllers low es (restored_from limits.pages state) (unless-there (is_fast state) limits.pages (assist_page limits.pages state) (assist-there limits.pages state)) idle) idle
attempt-sound limits number state controllers Poll es low idle =
    polls-sound limits es (polled (origin_in limits number state controllers)) (λ fs found over. polled_on-sound limits number state controllers low fs (with_taken controllers found) over) idle
attempt-sound limits number state controllers ops.Eom es low idle =
    Sound-cond limits IsOver es (is_zero state.active) (Ends _) (eom_on (origin_in limits number state controllers) (message_page limits.pages state) controllers.waiting) (λ _. idle) (eom_on-sound limits number state controllers low es (message_page limits.pages state) controllers.waiting (message-there limits.pages state) idle)
attempt-sound limits number state controllers _ es low idle = idle

-- so does a start
pub start-sound : (limits : Limits) (number : ℕ) (state : State) (controllers : Controllers) (es : List Event) → number < limits.vps → phase_of es ≡ Idle → Sound limits IsOver es (start_tree (origin_in limits number state controllers))
start-sound limits number state controllers es low idle = (tt, λ x. (idle, λ reply. idle))
