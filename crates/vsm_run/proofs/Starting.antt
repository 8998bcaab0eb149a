-- A start, turn by turn, to its end.
use Rattle.std.proofs.Common.{◌≡◌, ◌≢◌, ◌+◌, ◌==◌, ◌⊎◌, inl, inr, eqb, ℕ, Bool, true, false, cond, None, List, [], ◌∷◌, ◌++◌, drop, get_or, map, length, slice_set, refl, sym, ap, subst, ◌∙◌, append-nil, arith}
use Rattle.std.proofs.Math.Seq.{drop-append_seam}
use Rattle.std.proofs.lemmas.Bool.Decides.{eqb_tells}
use Rattle.std.proofs.lemmas.List.{set-get_or}
use Rattle.vsm_base.specs.declared.places.Limits.{Limits}
use Rattle.vsm_core.specs.declared.event.Event.{Event}
use Rattle.vsm_core.specs.declared.event.PendingWord.TheVariants.{Start}
use Rattle.vsm_core.specs.declared.event.Phase.TheVariants.{Idle}
use Rattle.vsm_core.specs.declared.operation.Program.{Program}
use Rattle.vsm_core.specs.declared.partition_state.PartitionState.{PartitionState}
use Rattle.vsm_core.specs.declared.request.PartCall.TheVariants.{Fetch}
use Rattle.vsm_core.specs.declared.request.Reply.{Reply}
use Rattle.vsm_core.specs.declared.request.Request.{Request}
use Rattle.vsm_core.specs.Entries.{words_by_entries}
use Rattle.vsm_core.specs.Hypercalls.{asked_of}
use Rattle.vsm_core.specs.Processor.{Vp, Did, answered, answers_of, asking, does_all, origin_of, saw, settled, start_rest}
use Rattle.vsm_core.specs.Protection.{owed}
use Rattle.vsm_core.specs.Seat.{Seat, Fabric}
use Rattle.vsm_core.specs.Served.{after, answer, block}
use Rattle.vsm_core.specs.Starts.{start_outcome, start_tree}
use Rattle.vsm_core.specs.Steps.{learned, made}
use Rattle.vsm_core.specs.Tree.{Ends, Taking, follow, followed}
use Rattle.vsm_core.specs.Words.{answer_of, posted_at, words_by}
use Rattle.vsm_core.proofs.FewEntries.{few-entries}
use Rattle.cpu.specs.declared.cpu_turn.CpuTurn.{CpuTurn}
use Rattle.cpu.specs.declared.cpu_turn.CpuTurn.TheVariants as turns
use Rattle.cpu.specs.Turns.{AcceptsBy, LooksTo, Wakes, WakesBy}
use Rattle.partition.specs.PartView.{PartView}
use Rattle.vsm_report.specs.Trace.{made_steps}
use Rattle.vsm_run.specs.Rests.{IsAtRest}
use Rattle.vsm_run.specs.Serving.{AddsFew, Agrees, IsDone, with_served}
use Rattle.vsm_run.specs.Starting.{StartsBy, Takes, Waits, fetches, start_word}
use Rattle.vsm_run.proofs.BusyWords.{taking-agrees}
use Rattle.vsm_run.proofs.Finishes.{none-seen, picked}
use Rattle.vsm_run.proofs.Serves.{with_none}
use Rattle.vsm_run.proofs.Wholes.{SameParts, Stepped, Tells, makes-told}

passed_by : {A : Type 0} (b : Bool) (x y : A) → b ≡ false → cond b x y ≡ y
passed_by true x y e = cc
passed_by false x y e = refl

-- the processor once it took this from its start word
abbrev pub taken : ℕ → Vp → Vp
taken x v = saw None v (made (Taking Start) x)

-- the request of its start
abbrev pub fetch_of : Vp → Request
fetch_of v = asked_of (origin_of v) Fetch

-- at rest all of the start is left
rest-all : (v : Vp) → IsAtRest v → v.heard ≡ None → start_rest v ≡ start_tree (origin_of v)
rest-all v rests unheard =
    let t = start_tree (origin_of v) in
    ap (λ h. followed t h (answers_of v.seen v.first)) unheard ∙ ap (λ es. follow t (map learned es)) (none-seen v.seen v.first rests)

one-seen : (v : Vp) (e : Event) → IsAtRest v → drop v.first (v.seen ++ e ∷ []) ≡ e ∷ []
one-seen v e rests = ap (λ n. drop n (v.seen ++ e ∷ [])) rests ∙ drop-append_seam v.seen (e ∷ [])

-- then the fetch is left
rest-taken : (x : ℕ) (v : Vp) → IsAtRest v → v.heard ≡ None → start_rest (taken x v) ≡ fetches (origin_of v)
rest-taken x v rests unheard =
    let t = start_tree (origin_of v) in
    let e : Event = made (Taking Start) x in
    ap (λ h. followed t h (answers_of (v.seen ++ e ∷ []) v.first)) unheard ∙ ap (λ es. follow t (map learned es)) (one-seen v e rests)

starts-by : (turn answer : CpuTurn) (limits : Limits) (v n : Vp) (words now : List ℕ) → turn ≡ answer → StartsBy answer limits v n words now → StartsBy turn limits v n words now
starts-by turn answer limits v n words now e h = subst (λ t. StartsBy t limits v n words now) (sym e) h

-- a look at the start word
module _ (limits : Limits) (v n : Vp) (before now : Seat) (f g : Fabric) (turn : CpuTurn) (t : Tells limits v.number before now f g) where
  looks-to : (x : ℕ) → Stepped limits v.number (Taking Start) x before.phase f g → LooksTo (x == 0) (fetches (origin_of v)) (made (Taking Start) x) v n turn → StartsBy turn limits v n f.words g.words
  looks-to x step looks = go (eqb_tells x 0) where
    place : ℕ
    place = posted_at limits + v.number

    go : ((eqb x 0 ≡ true) × (x ≡ 0)) ⊎ ((eqb x 0 ≡ false) × (x ≢ 0)) → StartsBy turn limits v n f.words g.words
    go (inl zero) =
        let is : LooksTo true (fetches (origin_of v)) (made (Taking Start) x) v n turn = subst (λ b. LooksTo b (fetches (origin_of v)) (made (Taking Start) x) v n turn) zero.0 looks in
        let none : start_word limits v f.words ≡ 0 = sym step.answer ∙ zero.1 in
        starts-by turn turns.Idle limits v n f.words g.words is.1 (record {
          none = none;
          same = is.0;
          stays = step.words ∙ ap (slice_set f.words place) (sym none) ∙ set-get_or f.words place 0;
        })
    go (inr other) =
        let is : LooksTo false (fetches (origin_of v)) (made (Taking Start) x) v n turn = subst (λ b. LooksTo b (fetches (origin_of v)) (made (Taking Start) x) v n turn) other.0 looks in
        starts-by turn turns.Moved limits v n f.words g.words is.1 (record {
          some = λ e. other.1 (step.answer ∙ e);
          sees = is.0 ∙ ap (λ y. taken y v) step.answer;
          taken = step.words;
        })

  module _ (rests : IsAtRest v) (unheard : v.heard ≡ None) (woken : Wakes v before n now turn) where
    looked : WakesBy (start_tree (origin_of v)) v before n now turn
    looked = subst (λ tree. WakesBy tree v before n now turn) (rest-all v rests unheard) woken

    step : Stepped limits v.number (Taking Start) looked.0 before.phase f g
    step = makes-told limits v.number (Taking Start) looked.0 before now f g t looked.1

    pub turn-takes : (last : List ℕ) → g.words ≡ last → StartsBy turn limits v n f.words last
    turn-takes last e = subst (StartsBy turn limits v n f.words) e (looks-to looked.0 step looked.2)

    pub take-phases : before.phase ≡ get_or f.phases v.number Idle → g.phases ≡ f.phases
    take-phases phase = step.phases ∙ ap (slice_set f.phases v.number) phase ∙ set-get_or f.phases v.number Idle

    pub take-parts : SameParts f g
    take-parts = record { turns = step.turns; cleared = step.cleared }

    pub take-agrees : before.phase ≡ get_or f.phases v.number Idle → Agrees limits f → Agrees limits g
    take-agrees phase agrees = taking-agrees limits v.number Start f g step.words (take-phases phase) agrees

-- a turn that took no start
pub takes-none : (turn : CpuTurn) (limits : Limits) (v n : Vp) (words now : List ℕ) → turn ≢ turns.Moved → StartsBy turn limits v n words now → Waits limits v n words now
takes-none turns.Moved limits v n words now other h = absurd (other refl)
takes-none turns.Idle limits v n words now other h = h
takes-none _ limits v n words now other h = absurd h

-- the fetch is asked for with no step
pub record Fetches (v n : Vp) (before now : Seat) (turn : CpuTurn) : Type 0 where
  pub stays : now ≡ before
  pub asks : n ≡ asking None v
  pub wants : turn ≡ turns.Wants (fetch_of v)

pub turn-fetches : (v n : Vp) (before now : Seat) (turn : CpuTurn) → start_rest v ≡ fetches (origin_of v) → Wakes v before n now turn → Fetches v n before now turn
turn-fetches v n before now turn left woken =
    let turned : WakesBy (fetches (origin_of v)) v before n now turn = subst (λ tree. WakesBy tree v before n now turn) left woken in
    record { stays = turned.0; asks = turned.1; wants = turned.2 }

-- a processor at rest that hasn't started
module _ (program : Program) (limits : Limits) (v : Vp) (s : PartitionState) (words : List ℕ) (waits : v.started ≡ false) (same : v.limits ≡ limits) where
  abbrev reply : Reply
  reply = answer s (fetch_of v)

  abbrev does_start : Limits → Did (List ℕ)
  does_start l = does_all (answer_of l v.number) (words_by l v.number) (words_by_entries l) s None v words (start_tree (origin_of v))

  -- nothing where the start word is 0
  made-waits : start_word limits v words ≡ 0 → made_steps program v s words ≡ record { vp = v; words = words; served = [] }
  unfolding made_steps
  made-waits none =
      let zero : (start_word v.limits v words == 0) ≡ true = rw (same, none) refl in
      passed_by v.started _ _ waits ∙ picked (start_word v.limits v words == 0) _ _ zero

  is_other : ((eqb (start_word limits v words) 0 ≡ true) × (start_word limits v words ≡ 0)) ⊎ ((eqb (start_word limits v words) 0 ≡ false) × (start_word limits v words ≢ 0)) → start_word limits v words ≢ 0 → (start_word limits v words == 0) ≡ false
  is_other (inl zero) some = absurd (some zero.1)
  is_other (inr other) some = other.0

  -- a start where it was posted to
  made-starts : start_word limits v words ≢ 0 → made_steps program v s words ≡ does_start limits
  unfolding made_steps
  made-starts some =
      let other : (start_word v.limits v words == 0) ≡ false = rw same (is_other (eqb_tells (start_word limits v words) 0) some) in
      passed_by v.started _ _ waits ∙ passed_by (start_word v.limits v words == 0) _ _ other ∙ ap does_start same

  pub waits-done : (n : Vp) (now : List ℕ) (before : PartView) → Waits limits v n words now → IsDone (made_steps program v s words) n now before before
  waits-done n now before is =
      let e = made-waits is.none in
      record {
        vp = is.same ∙ sym (ap (λ (d : Did (List ℕ)). d.vp) e);
        words = is.stays ∙ sym (ap (λ (d : Did (List ℕ)). d.words) e);
        partition = sym (with_none before) ∙ sym (ap (λ (d : Did (List ℕ)). with_served before d.served) e);
      }

  pub waits-few : (each : ℕ) (before : PartView) → start_word limits v words ≡ 0 → AddsFew each (made_steps program v s words) before before
  waits-few each before none = subst (λ (d : Did (List ℕ)). AddsFew each d before before) (sym (made-waits none)) (omega arith)

-- a processor that took a start, m, and then asked, n, has its reply
module _ (program : Program) (limits : Limits) (v : Vp) (before : PartView) (words : List ℕ) (waits : v.started ≡ false) (same : v.limits ≡ limits) (rests : IsAtRest v) (unheard : v.heard ≡ None) where
  module _ (m n u : Vp) (now last : List ℕ) (q : Request) (got : Reply) (turn : CpuTurn) (part : PartView) (takes : Takes limits v m words now) (asks : n ≡ asking None m) (request : q ≡ fetch_of m) (replies : got ≡ answer before.state q) (serves : part ≡ with_served before ((q, block before.state q) ∷ [])) (accepts : AcceptsBy (start_rest n) got n u turn) (adds : last ≡ words_by_entries limits now (block before.state q)) where
    abbrev x : ℕ
    x = start_word limits v words

    abbrev did : Did (List ℕ)
    did = does_start program limits v before.state words waits same limits

    same_request : q ≡ fetch_of v
    same_request = request ∙ ap fetch_of takes.sees

    left : start_rest n ≡ fetches (origin_of v)
    left = ap start_rest (asks ∙ ap (asking None) takes.sees) ∙ rest-taken x v rests unheard

    began : u ≡ settled (Ends (start_outcome (origin_of v) got)) (answered got n)
    began = let a : AcceptsBy (fetches (origin_of v)) got n u turn = subst (λ t. AcceptsBy t got n u turn) left accepts in a.0

    -- so it is as after the whole start
    is_did : u ≡ did.vp
    is_did =
        began ∙ ap (λ r. settled (Ends (start_outcome (origin_of v) r)) (answered r n)) (replies ∙ ap (answer before.state) same_request)
        ∙ ap (λ w. settled (Ends (start_outcome (origin_of v) (answer before.state (fetch_of v)))) (answered (answer before.state (fetch_of v)) w)) (asks ∙ ap (asking None) takes.sees)

    is_made : made_steps program v before.state words ≡ did
    is_made = made-starts program limits v before.state words waits same takes.some

    pub starts-done : IsDone (made_steps program v before.state words) u last before part
    starts-done = subst (λ (d : Did (List ℕ)). IsDone d u last before part) (sym is_made) (record {
      vp = is_did;
      words = adds ∙ ap (λ ws. words_by_entries limits ws (block before.state q)) takes.taken ∙ ap (λ r. words_by_entries limits (words_by limits v.number words (Taking Start)) (block before.state r)) same_request;
      partition = serves ∙ ap (λ r. with_served before ((r, block before.state r) ∷ [])) same_request;
    })

    pub starts-few : AddsFew (length before.state.vps + 11) (made_steps program v before.state words) before part
    starts-few =
        let few = few-entries before.state (fetch_of v) tt in
        let none : length (block before.state (fetch_of v) ++ []) ≡ length (block before.state (fetch_of v)) = ap length (append-nil (block before.state (fetch_of v))) in
        let state : owed part.state ≡ owed (after before.state (fetch_of v)) = ap (λ (p : PartView). owed p.state) serves ∙ ap (λ r. owed (after before.state r)) same_request in
        subst (λ (d : Did (List ℕ)). AddsFew (length before.state.vps + 11) d before part) (sym is_made) (omega arith)
