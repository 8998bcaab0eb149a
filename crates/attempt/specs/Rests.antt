-- What is left of an attempt at its stages.
use Rattle.std.specs.Prelude.{◌≡◌, ℕ, ◌+◌, ◌*◌, ◌/◌, ◌%◌, ◌^◌, ◌<◌, ◌≤◌, true, false, is_some, Option, Some, None}
use Rattle.std.specs.Prelude.{IfSome, List, ◌++◌, take, drop}
use Rattle.vsm_base.specs.declared.places.Access.{Access as Reach}
use Rattle.vsm_base.specs.declared.places.Access.TheVariants.{Write}
use Rattle.vsm_base.specs.declared.name.Name.{Name}
use Rattle.vsm_core.specs.declared.note.Note.{Note}
use Rattle.vsm_core.specs.declared.operation.Op.{Op}
use Rattle.vsm_core.specs.Attempt.{left_with, in_access_from, posting, told_on, tells, hit_tells, sends, polled, leaves}
use Rattle.vsm_core.specs.Attempt.{by_page_mask, behind_page_mask, reads_input, reads_slice, by_input, by_access}
use Rattle.vsm_core.specs.Attempt.{goal_of}
use Rattle.vsm_core.specs.Controllers.{message_page, vector_words}
use Rattle.vsm_core.specs.Hypercalls.{has_output, output_address}
use Rattle.vsm_core.specs.Outcomes.{Origin, Outcome, note_of, plain, register_note}
use Rattle.vsm_core.specs.RegisterCalls.{count_of, start_of, past_of}
use Rattle.vsm_core.specs.Reps.{words_between}
use Rattle.vsm_core.specs.Switch.{assist_page, by_interrupt, may_enter, may_return, returned, rax_index, rcx_index}
use Rattle.vsm_core.specs.Tree.{Tree, Ends, Asks, Checking, Masking, Reading, Leaving, then_, asks_all, takes, reads}
use Rattle.hyper_abi.specs.Told.{row_for}
use Rattle.attempt.specs.declared.stage.Decided.{Decided}
use Rattle.attempt.specs.declared.stage.Decided.TheVariants.{Granted, Set}
use Rattle.attempt.specs.declared.stage.Reads.{Reads}
use Rattle.attempt.specs.declared.stage.Refusal.{Refusal}
use Rattle.attempt.specs.declared.stage.Site.{Site}
use Rattle.attempt.specs.declared.stage.Behind.{Behind}
use Rattle.attempt.specs.declared.stage.Behind.TheVariants as behinds
use Rattle.attempt.specs.declared.stage.Inner.{Inner}
use Rattle.attempt.specs.declared.stage.Inner.TheVariants as inners
use Rattle.attempt.specs.declared.stage.Matter.{Matter}
use Rattle.attempt.specs.declared.stage.Matter.TheVariants.{Denial, Hit, Ending}
use Rattle.attempt.specs.declared.stage.Stage.{Stage}
use Rattle.attempt.specs.declared.stage.Stage.TheVariants.{Access, Enter, Check, Mask, Look, Rax, Rcx, Header, Slice}
use Rattle.attempt.specs.declared.stage.Stage.TheVariants.{Make, Take, Depart, Want, Quit, Send, End}
use Rattle.attempt.specs.declared.under.Under.{Under}
use Rattle.attempt.specs.Calls.{AskedIs, SendIs, access_of, asks_for, header_of, header_words, sends_now}
use Rattle.attempt.specs.Paths.{IsPlaced, is_aligned, path_rest}
use Rattle.attempt.specs.Plans.{PlanIs, planned}
use Rattle.attempt.specs.Results.{done_by, granted_of, hit_note, refusal_of, result_of}
use Rattle.attempt.specs.Sends.{SendsIs, sends_rest}
use Rattle.attempt.specs.Views.{VpView, origin_of}

-- the planned steps, and then the leave and the end
abbrev pub made_rest : Origin → Under → Tree Outcome
made_rest from u = asks_all (planned from.number u.output u.plan) (left_with (result_of from u))

-- level 1 is told this, where the message slot has this first word, and entered
abbrev pub posts : Origin → Note → ℕ → Outcome → Tree Outcome
posts from note word o =
    asks_all (posting from (message_page from.pages from.state) note (Some word) ++ told_on
    (assist_page from.pages from.state) by_interrupt) (left_with o)

-- what level 1 is told of a register that is written with a value, or read
abbrev pub told_of : Origin → Name → Option ℕ → Note
told_of from name None = register_note from false name 0
told_of from name (Some value) = register_note from true name value

-- this was denied
abbrev pub with_refusal : Under → Refusal → Under
with_refusal u refusal = record u { refusal = refusal }

-- the first word of the message slot is read
abbrev pub by_word : Origin → Under → Matter → ℕ → Tree Outcome
by_word from u Denial word = tells from (refusal_of u.refusal) (note_of from u.refusal.gva (refusal_of u.refusal))
    (done_by from u) (Some word)
by_word from u Hit word = hit_tells from (hit_note from u.op) (Some word)
by_word from u Ending word = sends from word

-- the mask of the output's page decides at level 0, where there is an output
abbrev pub output_masked : Origin → Option Site → (generation : ℕ) → Tree Outcome → Tree Outcome
output_masked from None generation rest = rest
output_masked from (Some site) generation rest =
    behind_page_mask from.state.active from Write site.address generation rest

abbrev pub words_rest : Origin → Under → Tree Outcome
words_rest from u = reads_input from (row_for u.head.call) u.head.site.address

-- a return has read what becomes RAX, and then what becomes RCX
abbrev pub by_rcx : Origin → ℕ → ℕ → Tree Outcome
by_rcx from rax rcx = left_with (plain from (returned from.state (Some (rax, rcx))))

abbrev pub by_rax : Origin → ℕ → ℕ → Tree Outcome
by_rax from page rax = Asks (Reading page rcx_index) (by_rcx from rax)

-- what comes once a mask has allowed it
abbrev pub behind_rest : Origin → Under → Behind → (generation : ℕ) → Tree Outcome
behind_rest from u behinds.Input generation = output_masked from u.head.output generation (words_rest from u)
behind_rest from u behinds.Words generation = words_rest from u
behind_rest from u behinds.Make generation = made_rest from u

-- what comes once the generation is checked
abbrev pub inner_rest : Origin → Under → Inner → (generation : ℕ) → Tree Outcome
inner_rest from u (inners.Look page matter) generation = Asks (Reading page.0 0) (by_word from u matter)
inner_rest from u inners.Make generation = made_rest from u
inner_rest from u (inners.Restore page) generation = Asks (Reading page.0 rax_index) (by_rax from page.0)
inner_rest from u (inners.Page gate) generation =
    behind_page_mask from.state.active from (access_of gate.behind) gate.site.address generation
    (behind_rest from u gate.behind generation)

-- the rest of a run of reads, which has found these words so far
abbrev pub reads_rest : Reads → List ℕ → (List ℕ → Tree Outcome) → Tree Outcome
reads_rest r words rest = reads r.page.0 r.index r.left (take r.done words) rest

-- what is left of an operation that makes one access
abbrev pub reaching : Origin → Op → Reach → (gva value : ℕ) → Tree Outcome
reaching from op access gva value =
    by_access from (granted_of from.state op) (goal_of from.pages from.state access (is_aligned access) gva value)

-- what is left at a stage
abbrev pub stage_rest : Origin → Under → Stage → Tree Outcome
stage_rest from u Access = then_ (path_rest u.path) (leaves from u.path.aim.gva.0 (granted_of from.state u.op))
stage_rest from u (Enter inner) = in_access_from (inner_rest from u inner)
stage_rest from u (Check inner) = Asks Checking (inner_rest from u inner)
stage_rest from u (Mask gate generation) =
    Asks (Masking (gate.site.address / 4096))
    (by_page_mask from (access_of gate.behind) gate.site.address generation
    (behind_rest from u gate.behind generation))
stage_rest from u (Look page matter) = Asks (Reading page.0 0) (by_word from u matter)
stage_rest from u (Rax page) = Asks (Reading page.0 rax_index) (by_rax from page.0)
stage_rest from u (Rcx page rax) = Asks (Reading page.0 rcx_index) (by_rcx from rax)
stage_rest from u (Header reads) = reads_rest reads u.header
    (reads_slice from (row_for u.head.call) u.head.site.address)
stage_rest from u (Slice reads) = reads_rest reads u.slice (by_input from (row_for u.head.call).code (header_of u))
stage_rest from u Make = made_rest from u
stage_rest from u (Take count) = takes (drop count vector_words) (take count u.taken) (polled from)
stage_rest from u (Depart asked) = Asks Leaving (λ _. asks_for from u asked)
stage_rest from u (Want asked) = asks_for from u asked
stage_rest from u (Quit sends) = Asks Leaving (λ _. sends_rest from sends)
stage_rest from u (Send sending) = sends_now from sending
stage_rest from u End = Ends (result_of from u)

abbrev pub rest_of : Origin → Under → Tree Outcome
rest_of from u = stage_rest from u u.stage

-- the call is one that this processor makes, of at most eight, and its output is there where it has one
pub record IsHead (from : Origin) (u : Under) : Type 0 where
  pub vps : from.vps ≤ 8
  pub some : is_some u.head.output ≡ has_output (row_for u.head.call)
  pub output : IfSome u.head.output (λ site. site.address ≡ output_address from.state)
  pub room : IfSome u.head.output (λ site. site.address % 4096 / 8 + 2 * count_of from ≤ 512)
  pub below : (row_for u.head.call).is_rep ≡ true → start_of from < count_of from

-- a granted access has come to a page, and a slice that sets registers is one of its call
abbrev pub DecidedIs : Origin → Under → Decided → Type 0
DecidedIs from u (Granted value) = u.path.fill.to.page < 2 ^ 32
DecidedIs from u (Set target) = start_of from ≤ count_of from
DecidedIs from u _ = Unit {0}

pub record MakeIs (from : Origin) (u : Under) : Type 0 where
  pub plan : PlanIs u.plan
  pub decided : DecidedIs from u u.decided

-- level 1 is told of a denial only where it may be entered
abbrev pub MatterIs : Origin → Matter → Type 0
MatterIs from Denial = may_enter from.state ≡ true
MatterIs from Hit = may_enter from.state ≡ true
MatterIs from Ending = Unit {0}

abbrev pub BehindIs : Origin → Under → Behind → Type 0
BehindIs from u behinds.Input = IsHead from u
BehindIs from u behinds.Words = IsHead from u
BehindIs from u behinds.Make = MakeIs from u

abbrev pub InnerIs : Origin → Under → Inner → Type 0
InnerIs from u (inners.Look page matter) = MatterIs from matter
InnerIs from u inners.Make = MakeIs from u
InnerIs from u (inners.Restore page) = may_return from.state ≡ true
InnerIs from u (inners.Page gate) = BehindIs from u gate.behind

-- reads of so many words, all in a page
pub record ReadsIs (r : Reads) (total : ℕ) : Type 0 where
  pub all : r.done + r.left ≡ total
  pub few : total ≤ 32
  pub low : r.index + r.left < 65536

-- how many words the slice of a call has
abbrev pub slice_words : Origin → Under → ℕ
slice_words from u = words_between (row_for u.head.call).read (start_of from) (past_of from)

-- words of the input are still to be read
pub record IsReading (from : Origin) (u : Under) (r : Reads) (total : ℕ) : Type 0 where
  pub head : IsHead from u
  pub some : 0 < r.left
  pub reads : ReadsIs r total

-- a stage from which a step comes next has one
abbrev pub IsAt : Origin → Under → Stage → Type 0
IsAt from u Access = IsPlaced u.path
IsAt from u (Enter inner) = InnerIs from u inner
IsAt from u (Check inner) = InnerIs from u inner
IsAt from u (Mask gate generation) = BehindIs from u gate.behind
IsAt from u (Look page matter) = MatterIs from matter
IsAt from u (Rax page) = may_return from.state ≡ true
IsAt from u (Rcx page rax) = may_return from.state ≡ true
IsAt from u (Header reads) = IsReading from u reads (header_words u.head.call)
IsAt from u (Slice reads) = IsReading from u reads (slice_words from u)
IsAt from u Make = MakeIs from u
IsAt from u (Take count) = count < 8
IsAt from u (Depart asked) = AskedIs from asked
IsAt from u (Want asked) = AskedIs from asked
IsAt from u (Quit sends) = SendsIs from sends
IsAt from u (Send sending) = SendIs from sending
IsAt from u End = DecidedIs from u u.decided

abbrev pub StageIs : Origin → Under → Type 0
StageIs from u = IsAt from u u.stage

-- the attempt goes on at a stage where this is left of it
pub record LeadsTo (from : Origin) (old new : Under) (tree : Tree Outcome) : Type 0 where
  pub rest : rest_of from new ≡ tree
  pub is : StageIs from new
  pub op : new.op ≡ old.op

-- the same on a processor of this state, by what its attempts begin with
abbrev pub Moves : VpView → Under → Under → (Origin → Tree Outcome) → Type 0
Moves v old new tree = LeadsTo (origin_of v) old new (tree (origin_of v))
