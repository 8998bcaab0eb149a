-- Which registers an attempt keeps.
use Rattle.std.proofs.Common.{◌≡◌, ◌≢◌, ◌∙◌, ◌+◌, ◌==◌, ◌&&◌, ◌||◌, ◌++◌, ℕ, Bool, true, false, not, cond, is_some, if◌then◌else◌, Option, Some, None, List, [], ◌∷◌, length, take, refl, sym, subst}
use Rattle.std.specs.List.{list_any}
use Rattle.vsm_base.specs.Names.{is_shared}
use Rattle.vsm_base.specs.declared.name.Name.{Name}
use Rattle.vsm_base.specs.declared.name.Name.TheVariants as names
use Rattle.vsm_base.specs.declared.places.Access.TheVariants.{Read, Write, Execute}
use Rattle.vsm_base.specs.declared.places.Vtl.{Vtl}
use Rattle.vsm_base.specs.declared.places.Vtl.TheVariants.{Zero, One}
use Rattle.vsm_base.specs.declared.status.TheConstants.HvStatus as statuses
use Rattle.vsm_core.specs.declared.mark.EomWord.TheVariants as eoms
use Rattle.vsm_core.specs.declared.mark.Grant.{Grant}
use Rattle.vsm_core.specs.declared.mark.GuestFault.{GuestFault}
use Rattle.vsm_core.specs.declared.mark.GuestFault.TheVariants.{Undefined, Gp}
use Rattle.vsm_core.specs.declared.mark.What.{What}
use Rattle.vsm_core.specs.declared.mark.What.TheVariants as whats
use Rattle.vsm_core.specs.declared.mark.What.TheVariants.{Again, Value, Plain}
use Rattle.vsm_core.specs.declared.note.Note.{Note}
use Rattle.vsm_core.specs.declared.operation.Op.{Op}
use Rattle.vsm_core.specs.declared.operation.Op.TheVariants.{Set, Get, Load, Store, Exec, Spin, Jump, JumpNe, Hypercall, VtlCall, VtlReturn, Poll, Ack, Eoi}
use Rattle.vsm_core.specs.declared.operation.Op.TheVariants as ops
use Rattle.vsm_core.specs.declared.operation.Program.{Program}
use Rattle.vsm_core.specs.declared.partition_state.PartitionState.{PartitionState}
use Rattle.vsm_core.specs.declared.register.CallRegister.{CallRegister}
use Rattle.vsm_core.specs.declared.register.CallRegister.TheVariants.{Kept}
use Rattle.vsm_core.specs.declared.request.Reply.{Reply}
use Rattle.vsm_core.specs.Access.{Goal, Decision, Grants, Denies, Faults, access, start_fault}
use Rattle.vsm_core.specs.Attempt.{attempt, begun, eom_on, goal_of, get_tree, hits_on, in_own_access, intercepted, is_read_hit, is_wanted, is_write_hit, leaves, left_with, polled_on, posting, refused, returns, sending, set_tree, told_on, unwanted_outcome, wanted_outcome}
use Rattle.vsm_core.specs.Calls.{code_in, result_value}
use Rattle.vsm_core.specs.Contexts.{enabled_by, has_level, is_legal_context, values_of, with_context}
use Rattle.vsm_core.specs.Controllers.{Controllers, message_page, waiting_then, eom_by}
use Rattle.vsm_core.specs.Fills.{Cached}
use Rattle.vsm_core.specs.Hypercalls.{input_value, own_context, replied, result_outcome, with_result}
use Rattle.vsm_core.specs.Keeps.{EndsIn, after_attempts}
use Rattle.vsm_core.specs.Outcomes.{Origin, Outcome, empties, eom_outcome, faulted, fills, get_outcome, hit_outcome, loaded, next_vector, outcome_at, passed, plain, register_note, set_outcome, spun, vector_or_zero}
use Rattle.vsm_core.specs.Processor.{Vp, attempted, operation_at, origin_of}
use Rattle.vsm_core.specs.RegisterCalls.{Setting, all_set, all_emptied, header_refusal, names_one, register_of, set_named, set_one, set_refusals, set_slice, settings, slice_end, slice_outcome}
use Rattle.vsm_core.specs.Registers.{get as get_in, is_legal}
use Rattle.vsm_core.specs.Reps.{RepEnd, Refused, GoesOn, Complete, acting, with_start}
use Rattle.vsm_core.specs.State.{State, get, put, put_legal, gone_to, gone_on, may_name, operand, rip_of, word_of}
use Rattle.vsm_core.specs.Switch.{assist_page, by_call, by_interrupt, called, is_zero, may_call, may_return, restored_from, returned, with_active, with_pair}
use Rattle.vsm_core.specs.Targets.{is_level, target_level}
use Rattle.vsm_core.specs.Tree.{Tree, Ends, Asks, Wants}
use Rattle.vsm_core.specs.Whole.{Flat}
use Rattle.vsm_core.proofs.KeptLevels.{EndsIn-then_, EndsIn-cond, EndsIn-asks_all, Q-cond, gone_on-stays, legal-then-on, put_legal-stays}
use Rattle.vsm_core.proofs.KeptRegisters.{if-legal, put_legal-rax, put_legal-rcx}
use Rattle.vsm_laws.specs.Changes.{NoneChanges, done_by, is_common, is_kept, is_new, is_same, level_named, may_change, names_kept, sets_alone, sets_leaving, sets_some, sets_staying}
use Rattle.vsm_laws.specs.ReadWords.{EndsReading, with_read, words_read}
use Rattle.vsm_laws.proofs.Away.{all-active, done-here, is_hypercall, is-hypercall, neither}
use Rattle.vsm_laws.proofs.Changing.{put-keeps}
use Rattle.vsm_laws.proofs.Reading.{attempted-so, reading-any, reading-so, refused-ends, tree-so}
use Rattle.vsm_laws.proofs.SetCalls.{hypercall-so}

-- of tests
either-way : (c a b : Bool) → (c && (a || b)) ≡ false → ((c && a) ≡ false) × ((c && b) ≡ false)
either-way false a b e = (refl, refl)
either-way true true b e = cc
either-way true false b e = (refl, e)

when : (A : Type 0) (b : Bool) (x y : A) → b ≡ true → cond b x y ≡ x
when A true x y e = refl
when A false x y e = cc

level-as : (one other : Vtl) → one ≡ other → is_level one other ≡ true
level-as Zero other e = rw (← e) refl
level-as One other e = rw (← e) refl

-- a register isn't the one of the active level
abbrev Misses : State → Name → Vtl → Name → Type 0
Misses s one level name = (is_common s.active level name && is_same one name) ≡ false

legal-keeps : (s : State) (one : Name) (value : ℕ) (level : Vtl) (name : Name) → Misses s one level name → get_in (put_legal s one value).registers level name ≡ get_in s.registers level name
legal-keeps s one value level name h = if-legal (is_legal one value) (put s one value) s level name (put-keeps s.registers s.active level one name value h)

misses-as : (s t : State) (one : Name) (level : Vtl) (name : Name) → t.active ≡ s.active → Misses s one level name → Misses t one level name
misses-as s t one level name same h = rw same h

-- a state that has the registers of another but those that the attempt of an operation sets, and Rip
record Spared (from : Origin) (op : Op) (new : State) (level : Vtl) (name : Name) : Type 0 where
  rip : Misses from.state names.Rip level name
  alone : (is_common from.state.active level name && sets_alone from op new name) ≡ false

abbrev Keeps : Origin → Op → State → Type 0
Keeps from op new = (level : Vtl) (name : Name) → Spared from op new level name → get_in new.registers level name ≡ get_in from.state.registers level name

abbrev KeepsEnd : Origin → Op → Outcome → Type 0
KeepsEnd from op o = Keeps from op o.state

-- Rip alone is another
abbrev Goes : State → State → Type 0
Goes s new = (level : Vtl) (name : Name) → Misses s names.Rip level name → get_in new.registers level name ≡ get_in s.registers level name

abbrev GoesEnd : State → Outcome → Type 0
GoesEnd s o = Goes s o.state

same-goes : (s : State) → Goes s s
same-goes s level name h = refl

to-goes : (s : State) (rip : ℕ) → Goes s (gone_to s rip)
to-goes s rip level name h = legal-keeps s names.Rip rip level name h

on-goes : (s : State) → Goes s (gone_on s)
on-goes s = to-goes s (rip_of s + 1)

goes-so : (from : Origin) (op : Op) (o : Outcome) → GoesEnd from.state o → KeepsEnd from op o
goes-so from op o h level name spared = h level name spared.rip

then-on : (s t : State) (level : Vtl) (name : Name) → t.active ≡ s.active → Misses s names.Rip level name → get_in t.registers level name ≡ get_in s.registers level name → get_in (gone_on t).registers level name ≡ get_in s.registers level name
then-on s t level name same rip e = on-goes t level name (misses-as s t names.Rip level name same rip) ∙ e

-- where the level stays active
staying : (from : Origin) (op : Op) (new : State) (level : Vtl) (name : Name) → new.active ≡ from.state.active → Spared from op new level name → (is_common from.state.active level name && sets_staying op name) ≡ false
staying from op new level name same spared =
    subst (λ sets. (is_common from.state.active level name && sets) ≡ false) (when Bool (is_level from.state.active new.active) (sets_staying op name) (sets_leaving from op name) (level-as from.state.active new.active (sym same))) spared.alone

-- a register is set that the operation names
legal-so : (from : Origin) (op : Op) (one : Name) (value : ℕ) → ((name : Name) → sets_staying op name ≡ is_same one name) → Keeps from op (gone_on (put_legal from.state one value))
legal-so from op one value sets level name spared =
    let s = from.state in
    let t : State = put_legal s one value in
    let other = subst (λ set. (is_common s.active level name && set) ≡ false) (sets name) (staying from op (gone_on t) level name (legal-then-on s one value).active spared) in
    then-on s t level name (put_legal-stays s one value).active spared.rip (legal-keeps s one value level name other)

put-so : (from : Origin) (one : Name) (value : ℕ) → Keeps from (Set one value) (gone_on (put from.state one value))
put-so from one value level name spared =
    let s = from.state in
    let t : State = put s one value in
    let other = staying from (Set one value) (gone_on t) level name (gone_on-stays t).active spared in
    then-on s t level name refl spared.rip (put-keeps s.registers s.active level one name value other)

-- an access, by what its grant comes to
module _ (from : Origin) (Q : Outcome → Type 0) (goes : (o : Outcome) → GoesEnd from.state o → Q o) where
  leaves-so : (gva : ℕ) (granted : Grant → What × State) → ((grant : Grant) (does : List Cached) → Q (outcome_at from (granted grant).0 (granted grant).1 does)) → (d : Decision) → EndsIn Q (leaves from gva granted d)
  leaves-so gva granted h (Grants grant fill) = λ x. h grant (fills from.state.active fill)
  leaves-so gva granted h (Denies page mask generation kind gpa fill) =
      refused-ends from Q (Some gva) (record { page = page; mask = mask; generation = generation; access = kind; gpa = gpa }) (fills from.state.active fill) (goes _ (same-goes from.state)) (λ note slot. goes _ (λ level name e. refl))
  leaves-so gva granted h (Faults fault) = λ x. goes (faulted from fault) (same-goes from.state)

  begun-so : (granted : Grant → What × State) (goal : Goal) (fault : Option GuestFault) → ((grant : Grant) (does : List Cached) → Q (outcome_at from (granted grant).0 (granted grant).1 does)) → EndsIn Q (begun from granted goal fault)
  begun-so granted goal (Some fault) h = goes (faulted from fault) (same-goes from.state)
  begun-so granted goal None h = EndsIn-then_ Q (access goal) (leaves from goal.gva granted) (leaves-so goal.gva granted h)

-- operations that set no register but Rip
abbrev spin_end : Bool → State → State → Grant → What × State
spin_end b s now grant = cond b (whats.Granted grant, now) (Again grant, s)

spun-goes : (b : Bool) (s now : State) (grant : Grant) → Goes s now → Goes s (spin_end b s now grant).1
spun-goes true s now grant h = h
spun-goes false s now grant h = same-goes s

own-so : (Q : Outcome → Type 0) (page : Option ℕ) (reason : ℕ) (o : Outcome) → Q o → EndsIn Q (in_own_access (told_on page reason) o)
own-so Q None reason o h = h
own-so Q (Some page) reason o h = λ a. λ b. λ c. λ d. h

polled_on-so : (from : Origin) (controllers : Controllers) → EndsIn (GoesEnd from.state) (polled_on from controllers)
polled_on-so from controllers =
    EndsIn-cond (GoesEnd from.state) (is_wanted from.state controllers) (in_own_access (told_on (assist_page from.pages from.state) by_interrupt) (wanted_outcome from.state controllers)) (Ends (unwanted_outcome from.state controllers))
    (own-so (GoesEnd from.state) (assist_page from.pages from.state) by_interrupt (wanted_outcome from.state controllers) (on-goes from.state)) (on-goes from.state)

eom-so : (from : Origin) (slot : Option ℕ) → GoesEnd from.state (eom_outcome from slot)
eom-so from slot =
    Q-cond (GoesEnd from.state) (is_zero from.state.active) (outcome_at from (whats.Eom eoms.Nothing) (gone_on from.state) []) (record {
      what = whats.Eom (eom_by slot from.controllers.waiting);
      state = gone_on from.state;
      controllers = record from.controllers { waiting = waiting_then slot from.controllers.waiting };
      does = [];
    }) (on-goes from.state) (on-goes from.state)

eom_on-so : (from : Origin) (page : Option ℕ) (waiting : List Note) → EndsIn (GoesEnd from.state) (eom_on from page waiting)
eom_on-so from None waiting = eom-so from None
eom_on-so from (Some page) [] = eom-so from None
eom_on-so from (Some page) (note ∷ more) = λ a. λ b. λ word.
    EndsIn-asks_all (GoesEnd from.state) (sending from (message_page from.pages from.state) from.controllers.waiting word) (left_with (eom_outcome from (Some word))) (λ x. eom-so from (Some word))

-- level 1 intercepts a register
hits_on-so : (from : Origin) (Q : Outcome → Type 0) (note : Note) (page : Option ℕ) → ((slot : Option ℕ) → Q (hit_outcome from note slot)) → EndsIn Q (hits_on from note page)
hits_on-so from Q note None h = own-so Q (assist_page from.pages from.state) by_interrupt (hit_outcome from note None) (h None)
hits_on-so from Q note (Some page) h = λ a. λ b. λ word.
    EndsIn-asks_all Q (posting from (message_page from.pages from.state) note (Some word) ++ told_on (assist_page from.pages from.state) by_interrupt) (left_with (hit_outcome from note (Some word))) (λ x. h (Some word))

get-so : (from : Origin) (name : Name) → EndsIn (GoesEnd from.state) (get_tree from name)
get-so from name =
    let note = register_note from false name 0 in
    let fine : Outcome = outcome_at from (Value (get from.state name)) (gone_on from.state) [] in
    EndsIn-cond (GoesEnd from.state) (is_read_hit from name) (intercepted from note) (Ends (get_outcome from name)) (hits_on-so from (GoesEnd from.state) note (message_page from.pages from.state) (λ slot level name e. refl))
    (Q-cond (GoesEnd from.state) (may_name from.state name) fine (faulted from Gp) (on-goes from.state) (same-goes from.state))

jumped-goes : (b : Bool) (s : State) (rip : ℕ) → Goes s (cond b (gone_on s) (gone_to s rip))
jumped-goes b s rip = Q-cond (Goes s) b (gone_on s) (gone_to s rip) (on-goes s) (to-goes s rip)

-- operations that set one
set-so : (from : Origin) (name : Name) (value : ℕ) → EndsIn (KeepsEnd from (Set name value)) (set_tree from name value)
set-so from name value =
    let note = register_note from true name value in
    let Q = KeepsEnd from (Set name value) in
    let fine : Outcome = outcome_at from Plain (gone_on (put from.state name value)) (empties from.state.active name) in
    EndsIn-cond Q (is_write_hit from name value) (intercepted from note) (Ends (set_outcome from name value)) (hits_on-so from Q note (message_page from.pages from.state) (λ slot level name spared. refl))
    (Q-cond Q (may_name from.state name && is_legal name value) fine (faulted from Gp) (put-so from name value) (λ level name spared. refl))

-- a return
not-pair : (at level : Vtl) (name : Name) → (is_common at level name && (is_same names.Rax name || is_same names.Rcx name)) ≡ false → (name ≢ names.Rax) × (name ≢ names.Rcx)
not-pair at level name h = (
  λ e. let no : true ≡ false = subst (λ n. (is_common at level n && (is_same names.Rax n || is_same names.Rcx n)) ≡ false) e h in cc,
  λ e. let no : true ≡ false = subst (λ n. (is_common at level n && (is_same names.Rax n || is_same names.Rcx n)) ≡ false) e h in cc,
)

pair-so : (s : State) (rax rcx : ℕ) (level : Vtl) (name : Name) → name ≢ names.Rax → name ≢ names.Rcx → get_in (with_pair s (Some (rax, rcx))).registers level name ≡ get_in s.registers level name
pair-so s rax rcx level name not_rax not_rcx = put_legal-rcx (put_legal s names.Rax rax) rcx level name not_rcx ∙ put_legal-rax s rax level name not_rax

pair-active : (s : State) (rax rcx : ℕ) → (with_pair s (Some (rax, rcx))).active ≡ s.active
pair-active s rax rcx = (put_legal-stays (put_legal s names.Rax rax) names.Rcx rcx).active ∙ (put_legal-stays s names.Rax rax).active

leaving : (from : Origin) (op : Op) (new : State) (name : Name) → is_level from.state.active new.active ≡ false → sets_alone from op new name ≡ sets_leaving from op name
leaving from op new name apart = rw apart refl

levels-apart : (one other : Vtl) → one ≡ One → other ≡ Zero → is_level one other ≡ false
levels-apart one other e f = rw (e, f) refl

returned-so : (from : Origin) (rax rcx page : ℕ) → from.state.active ≡ One → restored_from from.pages from.state ≡ Some page → Keeps from VtlReturn (returned from.state (Some (rax, rcx)))
returned-so from rax rcx page one restored level name spared =
    let s = from.state in
    let new : State = returned s (Some (rax, rcx)) in
    let apart = levels-apart s.active new.active one (pair-active (with_active (gone_on s) Zero) rax rcx) in
    let alone = subst (λ sets. (is_common s.active level name && sets) ≡ false) (leaving from VtlReturn new name apart) spared.alone in
    let pair = not-pair s.active level name (subst (λ (p : Option ℕ). (is_common s.active level name && (is_some p && (is_same names.Rax name || is_same names.Rcx name))) ≡ false) restored alone) in
    pair-so (with_active (gone_on s) Zero) rax rcx level name pair.0 pair.1 ∙ on-goes s level name spared.rip

returns-so : (from : Origin) (page : Option ℕ) → from.state.active ≡ One → restored_from from.pages from.state ≡ page → EndsIn (KeepsEnd from VtlReturn) (returns from page)
returns-so from None one restored = goes-so from VtlReturn (plain from (returned from.state None)) (on-goes from.state)
returns-so from (Some page) one restored = λ a. λ b. λ rax. λ rcx. λ d. returned-so from rax rcx page one restored

returns-one : (level : Vtl) (a b : Bool) → (a && (if is_zero level then false else true) && b) ≡ true → level ≡ One
returns-one One a b e = refl
returns-one Zero true b e = cc
returns-one Zero false b e = cc

EndsIn-if : (Q : Outcome → Type 0) (b : Bool) (t u : Tree Outcome) → (b ≡ true → EndsIn Q t) → EndsIn Q u → EndsIn Q (cond b t u)
EndsIn-if Q true t u h g = h refl
EndsIn-if Q false t u h g = g

return-so : (from : Origin) → EndsIn (KeepsEnd from VtlReturn) (attempt from VtlReturn)
return-so from =
    EndsIn-if (KeepsEnd from VtlReturn) (may_return from.state) (returns from (restored_from from.pages from.state)) (Ends (faulted from Undefined))
    (λ may. returns-so from (restored_from from.pages from.state) (returns-one from.state.active _ _ may) refl) (λ level name spared. refl)

-- a hypercall's result
result-keeps : (s : State) (value : ℕ) (level : Vtl) (name : Name) → Misses s names.Rip level name → Misses s names.Rax level name → get_in (with_result s value).registers level name ≡ get_in s.registers level name
result-keeps s value level name rip rax =
    let t : State = put_legal s names.Rax value in
    then-on s t level name (put_legal-stays s names.Rax value).active rip (legal-keeps s names.Rax value level name rax)

-- the registers that a hypercall sets by itself
abbrev Alone : Origin → State → Vtl → Name → Type 0
Alone from s level name = Misses s names.Rax level name × Misses s names.Rcx level name

pair-missed : (from : Origin) (s new : State) (level : Vtl) (name : Name) → s.active ≡ from.state.active → new.active ≡ s.active → Spared from Hypercall new level name → Alone from s level name
pair-missed from s new level name same stays spared =
    let pair = either-way (is_common from.state.active level name) (is_same names.Rax name) (is_same names.Rcx name) (staying from Hypercall new level name (stays ∙ same) spared) in
    (misses-as from.state s names.Rax level name same pair.0, misses-as from.state s names.Rcx level name same pair.1)

result-so : (from : Origin) (s : State) (value : ℕ) (level : Vtl) (name : Name) → s.active ≡ from.state.active → Spared from Hypercall (with_result s value) level name → get_in (with_result s value).registers level name ≡ get_in s.registers level name
result-so from s value level name same spared =
    let stays = (legal-then-on s names.Rax value).active in
    result-keeps s value level name (misses-as from.state s names.Rip level name same spared.rip) (pair-missed from s (with_result s value) level name same stays spared).0

slice-so : (from : Origin) (s : State) (does : List Cached) (end : RepEnd) (level : Vtl) (name : Name) → s.active ≡ from.state.active → Spared from Hypercall (slice_outcome from s does end).state level name → get_in (slice_outcome from s does end).state.registers level name ≡ get_in s.registers level name
slice-so from s does (Refused status done) level name same spared = result-so from s (result_value status done) level name same spared
slice-so from s does (Complete done) level name same spared = result-so from s (result_value statuses.SUCCESS done) level name same spared
slice-so from s does (GoesOn next) level name same spared =
    let value = with_start (input_value from.state) next in
    legal-keeps s names.Rcx value level name (pair-missed from s (put_legal s names.Rcx value) level name same (put_legal-stays s names.Rcx value).active spared).1

-- a context that is given is level 1's, and makes its registers new
fresh-level : (level : Vtl) (shared : Bool) (x y z w : ℕ) → (is_level One level && not shared) ≡ false → x ≡ y → (level ≡ Zero → z ≡ w) → cond shared x z ≡ cond shared y w
fresh-level level true x y z w h e f = e
fresh-level Zero false x y z w h e f = f refl
fresh-level One false x y z w h e f = cc

enabled-keeps : (s : State) (values : List ℕ) (level : Vtl) (name : Name) → (is_level One level && not (is_shared name)) ≡ false → get_in (enabled_by s One values).registers level name ≡ get_in s.registers level name
enabled-keeps s values Zero name h = refl
enabled-keeps s values One name h = fresh-level One (is_shared name) _ _ _ _ h refl (λ e. cc)

given-by : (has legal : Bool) (s new : State) (values : List ℕ) (level : Vtl) (name : Name) → s.enabled ≡ has → new.enabled ≡ (cond (not has && legal) (enabled_by s One values) s).enabled → is_new s new level name ≡ false
    → get_in (cond (not has && legal) (enabled_by s One values) s).registers level name ≡ get_in s.registers level name
given-by true legal s new values level name off on fresh = refl
given-by false false s new values level name off on fresh = refl
given-by false true s new values level name off on fresh =
    enabled-keeps s values level name (subst (λ b. (b && is_level One level && not (is_shared name)) ≡ false) on (subst (λ b. (not b && new.enabled && is_level One level && not (is_shared name)) ≡ false) off fresh))

given-so : (s new : State) (context : Option (Vtl × List ℕ)) (level : Vtl) (name : Name) → new.enabled ≡ (with_context s context).enabled → is_new s new level name ≡ false → get_in (with_context s context).registers level name ≡ get_in s.registers level name
given-so s new None level name on fresh = refl
given-so s new (Some (Zero, words)) level name on fresh = refl
given-so s new (Some (One, words)) level name on fresh = given-by s.enabled (is_legal_context words) s new (values_of words) level name refl on fresh

given-active : (s : State) (context : Option (Vtl × List ℕ)) → (with_context s context).active ≡ s.active
given-active s None = refl
given-active s (Some (Zero, words)) = refl
given-active s (Some (One, words)) = Q-cond (λ (t : State). t.active ≡ s.active) (not (has_level s One) && is_legal_context words) (enabled_by s One (values_of words)) s refl refl

replied-so : (from : Origin) (reply : Reply) (level : Vtl) (name : Name) → Spared from Hypercall (replied from reply).state level name → is_new from.state (replied from reply).state level name ≡ false
    → get_in (replied from reply).state.registers level name ≡ get_in from.state.registers level name
replied-so from reply level name spared fresh =
    let context = own_context reply.context in
    let s : State = with_context from.state context in
    let value = result_value reply.status reply.done in
    result-so from s value level name (given-active from.state context) spared
    ∙ given-so from.state (with_result s value) context level name (legal-then-on s names.Rax value).enabled fresh

-- elements that name another register
abbrev is_it : Name → Name → Bool
is_it name register = is_same register name

named-keeps : (target : Vtl) (s : State) (register : Option CallRegister) (value : ℕ) (level : Vtl) (name : Name) → (is_common target level name && names_one (is_kept (is_it name)) register) ≡ false
    → get_in (set_named s target register value).registers level name ≡ get_in s.registers level name
named-keeps target s (Some (Kept register)) value level name h = put-keeps s.registers target level register name value h
named-keeps target s _ value level name h = refl

all-keeps : (target : Vtl) (s : State) (elements : List Setting) (level : Vtl) (name : Name) → (is_common target level name && list_any (names_kept (is_it name)) elements) ≡ false
    → get_in (all_set target s elements).registers level name ≡ get_in s.registers level name
all-keeps target s [] level name h = refl
all-keeps target s (x ∷ elements) level name h =
    let both = either-way (is_common target level name) (names_kept (is_it name) x) (list_any (names_kept (is_it name)) elements) h in
    all-keeps target (set_one target s x) elements level name both.1 ∙ named-keeps target s (register_of x.number) x.value level name both.0

-- whatever is answered, a hypercall keeps what it may not change
abbrev Unnamed : Origin → Op → List ℕ → Vtl → Name → Type 0
Unnamed from op words level name = (is_common (level_named from words) level name && sets_some (is_it name) from op words) ≡ false

abbrev KeepsRead : Origin → Op → List ℕ → Outcome → Type 0
KeepsRead from op words o = (level : Vtl) (name : Name) → Spared from op o.state level name → Unnamed from op words level name → is_new from.state o.state level name ≡ false → get_in o.state.registers level name ≡ get_in from.state.registers level name

set-slice-so : (from : Origin) (header words : List ℕ) → code_in (input_value from.state) ≡ 0x0051 → length header ≡ 2 → header_refusal from header ≡ None
    → KeepsRead from Hypercall (header ++ words) (set_slice from (target_level from.state.active header) (settings words))
set-slice-so from header words code long good level name spared unnamed fresh =
    let target = target_level from.state.active header in
    let refusals = set_refusals from target (settings words) in
    let acted = take (acting refusals) (settings words) in
    let here = done-here from header words code long good in
    let none : (is_common target level name && list_any (names_kept (is_it name)) acted) ≡ false =
    subst (λ done. (is_common target level name && list_any (names_kept (is_it name)) done) ≡ false) here.0
    (subst (λ at. (is_common at level name && list_any (names_kept (is_it name)) (done_by from (header ++ words))) ≡ false) here.1 unnamed) in
    slice-so from (all_set target from.state acted) (all_emptied target acted) (slice_end from refusals) level name (all-active target from.state acted) spared
    ∙ all-keeps target from.state acted level name none

hypercall-keeps : (from : Origin) → EndsReading (KeepsRead from Hypercall) [] (attempt from Hypercall)
hypercall-keeps from =
    hypercall-so from (KeepsRead from Hypercall)
    (λ words level name spared unnamed fresh. refl)
    (λ words r. reading-so (λ read o. GoesEnd from.state o) (KeepsRead from Hypercall) (λ read o h level name spared unnamed fresh. h level name spared.rip) words (refused from None r [])
    (reading-any (GoesEnd from.state) words (refused from None r []) (refused-ends from (GoesEnd from.state) None r [] (same-goes from.state) (λ note slot level name rip. refl))))
    (λ words status done level name spared unnamed fresh. result-so from from.state (result_value status done) level name refl spared)
    (λ words reply level name spared unnamed fresh. replied-so from reply level name spared fresh)
    (λ words end level name spared unnamed fresh. slice-so from from.state [] end level name refl spared)
    (set-slice-so from)

-- operations of no hypercall
ends-so : (Q R : Outcome → Type 0) → ((o : Outcome) → Q o → R o) → (t : Tree Outcome) → EndsIn Q t → EndsIn R t
ends-so Q R so (Ends o) h = so o h
ends-so Q R so (Asks s k) h = λ x. ends-so Q R so (k x) (h x)
ends-so Q R so (Wants q k) h = λ r. ends-so Q R so (k r) (h r)

goes-op : (from : Origin) (op : Op) → EndsIn (GoesEnd from.state) (attempt from op) → EndsIn (KeepsEnd from op) (attempt from op)
goes-op from op h = ends-so (GoesEnd from.state) (KeepsEnd from op) (goes-so from op) (attempt from op) h

others-keep : (from : Origin) (op : Op) → is_hypercall op ≡ false → EndsIn (KeepsEnd from op) (attempt from op)
others-keep from Hypercall e = cc
others-keep from (Set name value) e = set-so from name value
others-keep from (Get name) e = goes-op from (Get name) (get-so from name)
others-keep from (Load name gva) e =
    let goal = goal_of from.pages from.state Read true gva.0 0 in
    begun-so from (KeepsEnd from (Load name gva)) (goes-so from (Load name gva)) (loaded from.state name) goal (start_fault goal) (λ grant does. legal-so from (Load name gva) name grant.value (λ other. refl))
others-keep from (Store gva what) e =
    let goal = goal_of from.pages from.state Write true gva.0 (operand from.state what) in
    goes-op from (Store gva what) (begun-so from (GoesEnd from.state) (λ o h. h) (passed from.state) goal (start_fault goal) (λ grant does. on-goes from.state))
others-keep from (Exec gva) e =
    let goal = goal_of from.pages from.state Execute false gva.0 0 in
    goes-op from (Exec gva) (begun-so from (GoesEnd from.state) (λ o h. h) (passed from.state) goal (start_fault goal) (λ grant does. on-goes from.state))
others-keep from (Spin gva value) e =
    let goal = goal_of from.pages from.state Read true gva.0 0 in
    goes-op from (Spin gva value) (begun-so from (GoesEnd from.state) (λ o h. h) (spun from.state value) goal (start_fault goal) (λ grant does. spun-goes (grant.value == value) from.state (gone_on from.state) grant (on-goes from.state)))
others-keep from (Jump rip) e = goes-op from (Jump rip) (to-goes from.state rip)
others-keep from (JumpNe name value rip) e = goes-op from (JumpNe name value rip) (jumped-goes (word_of from.state name == value) from.state rip)
others-keep from (ops.Invlpg gva) e = goes-op from (ops.Invlpg gva) (same-goes from.state)
others-keep from VtlCall e = goes-op from VtlCall
    (EndsIn-cond (GoesEnd from.state) (may_call from.state) (in_own_access (told_on (assist_page from.pages from.state) by_call) (plain from (called from.state))) (Ends (faulted from Undefined))
    (own-so (GoesEnd from.state) (assist_page from.pages from.state) by_call (plain from (called from.state)) (on-goes from.state)) (same-goes from.state))
others-keep from VtlReturn e = return-so from
others-keep from Poll e = goes-op from Poll (λ a. λ b. λ c. λ d. λ e. λ f. λ g. λ h. polled_on-so from _)
others-keep from (Ack name) e = legal-so from (Ack name) name (vector_or_zero (next_vector from)) (λ other. refl)
others-keep from Eoi e = goes-op from Eoi (on-goes from.state)
others-keep from ops.Eom e = goes-op from ops.Eom
    (EndsIn-cond (GoesEnd from.state) (is_zero from.state.active) (Ends (eom_outcome from None)) (eom_on from (message_page from.pages from.state) from.controllers.waiting) (eom-so from None) (eom_on-so from (message_page from.pages from.state) from.controllers.waiting))

-- by the operation
by-op : (from : Origin) (op : Op) (b : Bool) → is_hypercall op ≡ b → EndsReading (KeepsRead from op) [] (attempt from op)
by-op from op true e = subst (λ o. EndsReading (KeepsRead from o) [] (attempt from o)) (sym (is-hypercall op e)) (hypercall-keeps from)
by-op from op false e =
    reading-so (λ words o. KeepsEnd from op o) (KeepsRead from op) (λ words o keeps level name spared unnamed fresh. keeps level name spared) [] (attempt from op)
    (reading-any (KeepsEnd from op) [] (attempt from op) (others-keep from op e))

abbrev KeepsOthers : Origin → Op → List ℕ → State → Type 0
KeepsOthers from op words new = (level : Vtl) (name : Name) → may_change from op words new level name ≡ false → get_in new.registers level name ≡ get_in from.state.registers level name

kept-others : (from : Origin) (op : Op) (words : List ℕ) (o : Outcome) → KeepsRead from op words o → KeepsOthers from op words o.state
kept-others from op words o keeps level name may =
    let at = is_common from.state.active level name in
    let named = is_common (level_named from words) level name && sets_some (is_it name) from op words in
    let d = neither ((at && is_same names.Rip name) || (at && sets_alone from op o.state name) || named) (is_new from.state o.state level name) may in
    let c = neither ((at && is_same names.Rip name) || (at && sets_alone from op o.state name)) named d.0 in
    let b = neither (at && is_same names.Rip name) (at && sets_alone from op o.state name) c.0 in
    keeps level name (record { rip = b.0; alone = b.1 }) c.1 d.1

pub attempt-changes : (from : Origin) (op : Op) → EndsReading (λ words (o : Outcome). KeepsOthers from op words o.state) [] (attempt from op)
attempt-changes from op = reading-so (KeepsRead from op) (λ words o. KeepsOthers from op words o.state) (kept-others from op) [] (attempt from op) (by-op from op (is_hypercall op) refl)

-- attempts one after the other
once-changes : (program : Program) (v : Vp) (s : PartitionState) (flat : Flat) (level : Vtl) (name : Name) → v.started ≡ true
    → ((op : Op) → operation_at program v.state ≡ Some op → may_change (origin_of v) op (words_read program v s flat) (attempted program v s flat).vp.state level name ≡ false)
    → get_in (attempted program v s flat).vp.state.registers level name ≡ get_in v.state.registers level name
once-changes program v s flat level name started may =
    let from = origin_of v in
    let Keeping : List ℕ → State → Type 0 = λ words new. ((op : Op) → operation_at program v.state ≡ Some op → may_change from op words new level name ≡ false) → get_in new.registers level name ≡ get_in v.state.registers level name in
    attempted-so Keeping program v s flat started (λ words h. refl)
    (tree-so (λ words o. Keeping words o.state) from (operation_at program v.state) (λ h. refl)
    (λ op is. reading-so (λ words o. KeepsOthers from op words o.state) (λ words o. Keeping words o.state) (λ words o h none. h level name (none op is)) [] (attempt from op) (attempt-changes from op)))
    may

pub none-changes : (level : Vtl) (name : Name) (program : Program) (v : Vp) (es : List (PartitionState × Flat)) → NoneChanges level name program v es → get_in (after_attempts program v es).state.registers level name ≡ get_in v.state.registers level name
none-changes level name program v [] none = refl
none-changes level name program v (e ∷ es) none =
    none-changes level name program (attempted program v e.0 e.1).vp es none.2 ∙ once-changes program v e.0 e.1 level name none.0 none.1

-- a switch of levels
abbrev KeepsAtSwitch : Origin → Op → Outcome → Type 0
KeepsAtSwitch from op o = o.state.active ≢ from.state.active → (level : Vtl) (name : Name) → name ≢ names.Rip → sets_leaving from op name ≡ false → get_in o.state.registers level name ≡ get_in from.state.registers level name

rip-alone : (c : Bool) (name : Name) → name ≢ names.Rip → (c && is_same names.Rip name) ≡ false
rip-alone c names.Rip other = absurd (other refl)
rip-alone true _ other = refl
rip-alone false _ other = refl

level-apart : (one other : Vtl) → other ≢ one → is_level one other ≡ false
level-apart Zero Zero apart = absurd (apart refl)
level-apart One One apart = absurd (apart refl)
level-apart Zero One apart = refl
level-apart One Zero apart = refl

none-set : (c : Bool) (from : Origin) (op : Op) (new : State) (name : Name) → new.active ≢ from.state.active → sets_leaving from op name ≡ false → (c && sets_alone from op new name) ≡ false
none-set false from op new name other none = refl
none-set true from op new name other none = leaving from op new name (level-apart from.state.active new.active other) ∙ none

keeps-at-switch : (from : Origin) (op : Op) (o : Outcome) → KeepsEnd from op o → KeepsAtSwitch from op o
keeps-at-switch from op o keeps other level name not_rip none =
    let at = is_common from.state.active level name in
    keeps level name (record { rip = rip-alone at name not_rip; alone = none-set at from op o.state name other none })

stays-then-keeps : (from : Origin) (op : Op) (o : Outcome) → o.state.active ≡ from.state.active → KeepsAtSwitch from op o
stays-then-keeps from op o same other = absurd (other same)

slice-active : (from : Origin) (s : State) (does : List Cached) (end : RepEnd) → (slice_outcome from s does end).state.active ≡ s.active
slice-active from s does (Refused status done) = (legal-then-on s names.Rax (result_value status done)).active
slice-active from s does (Complete done) = (legal-then-on s names.Rax (result_value statuses.SUCCESS done)).active
slice-active from s does (GoesOn next) = (put_legal-stays s names.Rcx (with_start (input_value from.state) next)).active

hypercall-at-switch : (from : Origin) → EndsReading (λ words o. KeepsAtSwitch from Hypercall o) [] (attempt from Hypercall)
hypercall-at-switch from =
    let s = from.state in
    hypercall-so from (λ words o. KeepsAtSwitch from Hypercall o)
    (λ words. stays-then-keeps from Hypercall (faulted from Undefined) refl)
    (λ words r. reading-any (KeepsAtSwitch from Hypercall) words (refused from None r []) (refused-ends from (KeepsAtSwitch from Hypercall) None r [] (λ other level name not_rip none. refl) (λ note slot other level name not_rip none. refl)))
    (λ words status done. stays-then-keeps from Hypercall (result_outcome from s status done) (legal-then-on s names.Rax (result_value status done)).active)
    (λ words reply. let given : State = with_context s (own_context reply.context) in
    stays-then-keeps from Hypercall (replied from reply) ((legal-then-on given names.Rax (result_value reply.status reply.done)).active ∙ given-active s (own_context reply.context)))
    (λ words end. stays-then-keeps from Hypercall (slice_outcome from s [] end) (slice-active from s [] end))
    (λ header words code long good.
    let target = target_level s.active header in
    let refusals = set_refusals from target (settings words) in
    let acted = take (acting refusals) (settings words) in
    stays-then-keeps from Hypercall (set_slice from target (settings words)) (slice-active from (all_set target s acted) (all_emptied target acted) (slice_end from refusals) ∙ all-active target s acted))

ends-of : (Q : Outcome → Type 0) (words : List ℕ) (t : Tree Outcome) → EndsReading (λ read. Q) words t → EndsIn Q t
ends-of Q words (Ends o) h = h
ends-of Q words (Asks s k) h = λ x. ends-of Q (with_read words s x) (k x) (h x)
ends-of Q words (Wants q k) h = λ r. ends-of Q words (k r) (h r)

switch-by : (from : Origin) (op : Op) (b : Bool) → is_hypercall op ≡ b → EndsIn (KeepsAtSwitch from op) (attempt from op)
switch-by from op true e =
    subst (λ o. EndsIn (KeepsAtSwitch from o) (attempt from o)) (sym (is-hypercall op e)) (ends-of (KeepsAtSwitch from Hypercall) [] (attempt from Hypercall) (hypercall-at-switch from))
switch-by from op false e = ends-so (KeepsEnd from op) (KeepsAtSwitch from op) (keeps-at-switch from op) (attempt from op) (others-keep from op e)

pub switch-keeps : (from : Origin) (op : Op) → EndsIn (KeepsAtSwitch from op) (attempt from op)
switch-keeps from op = switch-by from op (is_hypercall op) refl
