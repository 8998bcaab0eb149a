-- A whole attempt, turn by turn, to its end.
use Rattle.std.proofs.Common.{◌≡◌, ◌≢◌, ◌<◌, ◌≤◌, ◌+◌, ◌*◌, ◌⊎◌, inl, inr, eqb, ℕ, Bool, true, false, cond, Option, Some, None, IfSome, List, [], ◌∷◌, ◌++◌, drop, get_or, map, length, reverse, refl, sym, ap, subst, ◌∙◌, append_assoc, length-append, arith}
use Rattle.std.proofs.Math.Seq.{drop-length}
use Rattle.std.proofs.lemmas.Bool.Decides.{eqb_tells}
use Rattle.std.proofs.lemmas.List.{append-nil}
use Rattle.vsm_base.specs.declared.places.Limits.{Limits}
use Rattle.vsm_core.specs.declared.event.Event.{Event}
use Rattle.vsm_core.specs.declared.event.Phase.{Phase}
use Rattle.vsm_core.specs.declared.event.Phase.TheVariants.{Idle}
use Rattle.vsm_core.specs.declared.journal.Entry.{Entry}
use Rattle.vsm_core.specs.declared.mark.Ending.{Ending}
use Rattle.vsm_core.specs.declared.mark.What.{What}
use Rattle.vsm_core.specs.declared.mark.What.TheVariants as whats
use Rattle.vsm_core.specs.declared.operation.Op.{Op}
use Rattle.vsm_core.specs.declared.operation.Program.{Program}
use Rattle.vsm_core.specs.declared.partition_state.PartitionState.{PartitionState}
use Rattle.vsm_core.specs.declared.request.Heard.{Heard}
use Rattle.vsm_core.specs.declared.request.Reply.{Reply}
use Rattle.vsm_core.specs.declared.request.Request.{Request}
use Rattle.vsm_core.specs.Attempt.{attempt}
use Rattle.vsm_core.specs.Entries.{words_by_entries}
use Rattle.vsm_core.specs.Keeps.{EndsIn}
use Rattle.vsm_core.specs.Outcomes.{Outcome, origin_in}
use Rattle.vsm_core.specs.Processor.{Vp, Did, IsSameProcessor, answered, answers_of, asking, does_all, operation_at, origin_of, rest_of, served_first, settled, tree_of}
use Rattle.vsm_core.specs.Seat.{Fabric}
use Rattle.vsm_core.specs.Protection.{IsSlice, owed}
use Rattle.vsm_core.specs.Served.{after, answer, block, joined}
use Rattle.vsm_core.specs.Sound.{Sound, IsOver}
use Rattle.vsm_core.specs.Steps.{learned, phase_of}
use Rattle.vsm_core.specs.Tree.{Tree, Ends, Asks, Wants, WordStep, by_reply, follow, followed}
use Rattle.vsm_core.specs.Words.{answer_of, words_by}
use Rattle.vsm_core.proofs.FewEntries.{few-entries}
use Rattle.vsm_core.proofs.Soundness.{attempt-sound}
use Rattle.vsm_core.proofs.Requests.{Unasked, NoAgain, own-requests}
use Rattle.cpu.specs.declared.cpu_turn.CpuTurn.{CpuTurn}
use Rattle.cpu.specs.declared.cpu_turn.CpuTurn.TheVariants as turns
use Rattle.cpu.specs.declared.cpu_turn.Pace.{Pace}
use Rattle.cpu.specs.declared.cpu_turn.Pace.TheVariants as paces
use Rattle.cpu.specs.Turns.{AcceptsBy, after_mark, answer_at, phase_at, turn_of}
use Rattle.partition.specs.PartView.{PartView}
use Rattle.vsm_report.specs.Trace.{made_steps}
use Rattle.vsm_report.proofs.Processors.{same_by}
use Rattle.vsm_report.proofs.Stepping.{joined-append}
use Rattle.vsm_run.specs.Fits.{FitsOne}
use Rattle.vsm_run.specs.Rests.{AllIdle, IsAtRest, IsInPlace}
use Rattle.vsm_run.specs.Serving.{Agrees, HasRoomForOne, IsDone, IsFree, IsPacedBy, NoneBusy, with_served}
use Rattle.vsm_run.specs.Wholes.{HasHeard, StaysSound, Moves, Stops, Hands, Leads, does_rest}
use Rattle.vsm_run.proofs.Asking.{AsksOnce, IsFirst, after-once, asks-first, came_to-over, ends-unheard}
use Rattle.vsm_run.proofs.Attempts.{keeps_same}
use Rattle.vsm_run.proofs.Serves.{served-free, state_after-vps, times-add, with_more, with_none}
use Rattle.vsm_run.proofs.Wholes.{SameParts}

-- these requests were served before
abbrev served_before : List (Request × List Entry) → Did (List ℕ) → Did (List ℕ)
served_before served did = record { vp = did.vp; words = did.words; served = served ++ did.served }

-- an attempt of this operation that began as `start` with these words and this partition and has come so far, by requests
-- that were served
pub record IsOn (op : Option Op) (start : Vp) (words : List ℕ) (before : PartView) (limits : Limits) (v : Vp) (fabric : Fabric) (now : PartView) : Type 0 where
  pub served : List (Request × List Entry)
  pub partition : now ≡ with_served before served
  pub same_end : served_before served (does_rest limits start.number op now.state v fabric.words) ≡ does_rest limits start.number op before.state start words
  pub same : IsSameProcessor start v
  pub state : v.state ≡ start.state
  pub kept : IfSome v.op (λ o. op ≡ Some o)
  pub going : v.ended ≡ None
  pub answered : v.owes ≡ false
  pub asks : AsksOnce start.number v.heard (rest_of v op)
  pub heard : HasHeard v
  pub room : v.heard ≡ None → length now.journal.entries + (length now.state.vps + 11) + owed now.state ≤ now.journal.room
  pub few : length (joined served) + owed now.state ≤ (length before.state.vps + 11) * length served + owed before.state
  pub sound : StaysSound limits op v
  pub agrees : Agrees limits fabric
  pub paced : IsPacedBy now (record { limits = limits; fabric = fabric })
  pub phase : get_or fabric.phases start.number Idle ≡ phase_at v.seen v.first
  pub others : (q : ℕ) → q ≢ start.number → get_or fabric.phases q Idle ≡ Idle

pub none-seen : (seen : List Event) (first : ℕ) → first ≡ length seen → drop first seen ≡ []
none-seen seen first e = rw e (drop-length seen)

-- at rest a processor is in no access
rest-idle : (v : Vp) → IsAtRest v → phase_at v.seen v.first ≡ Idle
rest-idle v rests = ap (λ es. phase_of (reverse es)) (none-seen v.seen v.first rests)

pub picked : {A : Type 0} (b : Bool) (x y : A) → b ≡ true → cond b x y ≡ x
picked true x y e = refl
picked false x y e = cc

-- from rest on, the rest of the attempt of a processor that has started is all of it
pub made-rest : (program : Program) (limits : Limits) (v : Vp) (s : PartitionState) (words : List ℕ) → v.started ≡ true → IsAtRest v → v.heard ≡ None → v.limits ≡ limits → made_steps program v s words ≡ does_rest limits v.number (operation_at program v.state) s v words
unfolding made_steps
made-rest program limits v s words started rests unheard same =
    let op = operation_at program v.state in
    let t = tree_of (origin_of v) op in
    let all : rest_of v op ≡ t = ap (λ h. followed t h (answers_of v.seen v.first)) unheard ∙ ap (λ es. follow t (map learned es)) (none-seen v.seen v.first rests) in
    picked v.started _ _ started ∙ ap (λ u. does_all (answer_of v.limits v.number) (words_by v.limits v.number) (words_by_entries v.limits) s op v words u) (sym all) ∙ ap (λ (l : Limits). does_all (answer_of l v.number) (words_by l v.number) (words_by_entries l) s op v words (rest_of v op)) same

-- where an attempt begins, all that it asks may be asked
tree-sound : (limits : Limits) (op : Option Op) (v : Vp) → v.number < limits.vps → v.limits ≡ limits → Sound limits IsOver [] (tree_of (origin_of v) op)
tree-sound limits None v low same = refl
tree-sound limits (Some op) v low same =
    subst (λ l. Sound limits IsOver [] (attempt (origin_in l v.number v.state v.controllers) op)) (sym same) (attempt-sound limits v.number v.state v.controllers op [] low refl)

sound-at-first : (limits : Limits) (op : Option Op) (v : Vp) → v.number < limits.vps → v.limits ≡ limits → IsAtRest v → v.heard ≡ None → StaysSound limits op v
sound-at-first limits op v low same rests unheard =
    let none = none-seen v.seen v.first rests in
    let t = tree_of (origin_of v) op in
    let all : rest_of v op ≡ t = ap (λ h. followed t h (answers_of v.seen v.first)) unheard ∙ ap (λ es. follow t (map learned es)) none in
    subst (λ es. Sound limits IsOver es (rest_of v op)) (sym (ap reverse none)) (subst (Sound limits IsOver []) (sym all) (tree-sound limits op v low same))

-- an attempt at its first turn
pub on-at-first : (program : Program) (limits : Limits) (start : Vp) (fabric : Fabric) (before : PartView) → FitsOne program start → IsInPlace limits start.number start → start.ended ≡ None → AllIdle fabric.phases → HasRoomForOne before → Agrees limits fabric → IsPacedBy before (record { limits = limits; fabric = fabric })
    → IsOn (operation_at program start.state) start fabric.words before limits start fabric before
on-at-first program limits start fabric before fits place going idle room agrees paced =
    let op = operation_at program start.state in
    let none = sym place.unheard in
    record {
      served = [];
      partition = sym (with_none before);
      same_end = refl;
      same = record { number = refl; limits = refl; zero_length = refl; one_length = refl; started = λ h. h };
      state = refl;
      kept = fits.kept;
      going = going;
      answered = place.answered;
      asks = subst (λ h. AsksOnce start.number h (rest_of start op)) none (own-requests (origin_of start) op start.heard (answers_of start.seen start.first));
      heard = subst (λ h. IfSome h (λ g. g.after + start.first ≤ length start.seen)) none tt;
      room = λ _. room;
      few = omega arith;
      sound = sound-at-first limits op start place.low place.limits_same place.rests place.unheard;
      agrees = agrees;
      paced = paced;
      phase = idle start.number ∙ sym (rest-idle start place.rests);
      others = λ q apart. idle q;
    }

-- the reply stays where it was had, as events come
nearer-heard : (heard : Option Heard) (first last : ℕ) (seen more : List Event) → length more + first ≡ length seen + last + 1 → IfSome heard (λ h. h.after + first ≤ length seen) → IfSome heard (λ h. h.after + last ≤ length more)
nearer-heard None first last seen more e le = tt
nearer-heard (Some h) first last seen more e le = omega (arith, e, le)

all-idle : (p : ℕ) (phases : List Phase) → get_or phases p Idle ≡ Idle → ((q : ℕ) → q ≢ p → get_or phases q Idle ≡ Idle) → AllIdle phases
all-idle p phases own others q = go (eqb_tells q p) where
  go : ((eqb q p ≡ true) × (q ≡ p)) ⊎ ((eqb q p ≡ false) × (q ≢ p)) → get_or phases q Idle ≡ Idle
  go (inl here) = ap (λ i. get_or phases i Idle) here.1 ∙ own
  go (inr other) = others q other.1

-- the phases of the processors, as this one was in the access and is now
pub record Phases (p : ℕ) (n : Vp) (before now : List Phase) : Type 0 where
  pub own : get_or now p Idle ≡ phase_at n.seen n.first
  pub others : (q : ℕ) → q ≢ p → get_or now q Idle ≡ get_or before q Idle

-- how a whole attempt ends
pub record IsFinished (limits : Limits) (did : Did (List ℕ)) (n : Vp) (last : Fabric) (before now : PartView) : Type 0 where
  pub done : IsDone did n last.words before now
  pub rests : IsAtRest n
  pub unheard : n.heard ≡ None
  pub idle : AllIdle last.phases
  pub few : length (joined did.served) + owed now.state ≤ (length before.state.vps + 11) * length did.served + owed before.state
  pub agrees : Agrees limits last
  pub paced : IsPacedBy now (record { limits = limits; fabric = last })

before-first : (served : List (Request × List Entry)) (q : Request) (entries : List Entry) (did : Did (List ℕ)) → served_before served (served_first q entries did) ≡ served_before (served ++ (q, entries) ∷ []) did
before-first served q entries did = ap (λ vs. record { vp = did.vp; words = did.words; served = vs }) (sym (append_assoc served ((q, entries) ∷ []) did.served))

-- what a request does to the rest of its attempt
does-asked : (limits : Limits) (p : ℕ) (op : Option Op) (s : PartitionState) (q : Request) (more : Reply → Tree Outcome) (v n : Vp) (words : List ℕ) (reply : Reply) → rest_of v op ≡ Wants q more → n ≡ asking op v → reply ≡ answer s q
    → does_rest limits p op s v words ≡ served_first q (block s q) (does_all (answer_of limits p) (words_by limits p) (words_by_entries limits) (after s q) op (answered reply n) (words_by_entries limits words (block s q)) (more reply))
does-asked limits p op s q more v n words reply left asks answers =
    ap (λ t. does_all (answer_of limits p) (words_by limits p) (words_by_entries limits) s op v words t) left ∙ rw (answers, asks) refl

marks-on : (what : What) (ended : Option Ending) → after_mark what ended ≢ turns.Moved
marks-on what (Some ending) e = cc
marks-on (whats.Again grant) None e = cc
marks-on what None e = cc

-- a processor's steps keep the pace
pub still-paced : (limits : Limits) (p : PartView) (f g : Fabric) → SameParts f g → IsPacedBy p (record { limits = limits; fabric = f }) → IsPacedBy p (record { limits = limits; fabric = g })
still-paced limits p f g parts paced = record { vps = paced.vps; pages = paced.pages; turns = parts.turns ∙ paced.turns; cleared = parts.cleared ∙ paced.cleared }

-- a step by which it asks this
pub asks-turn : (pace : Pace) (asked : Option Request) (q : Request) → pace ≡ paces.Wants → asked ≡ Some q → turn_of pace asked ≡ turns.Wants q
asks-turn pace asked q e is = rw (e, is) refl

-- a step with which it doesn't go on and by which it asks nothing
pub ends-pace : (pace : Pace) (asked : Option Request) (limits : Limits) (p : ℕ) (op : Option Op) (v n : Vp) (words now : List ℕ) → pace ≢ paces.Moved → pace ≢ paces.Wants → Leads (turn_of pace asked) limits p op v n words now → Stops limits p op v n words now
ends-pace paces.Moved asked limits p op v n words now on asks leads = absurd (on refl)
ends-pace paces.Wants asked limits p op v n words now on asks leads = absurd (asks refl)
ends-pace paces.Idle asked limits p op v n words now on asks leads = leads
ends-pace paces.Attempt asked limits p op v n words now on asks leads = leads
ends-pace paces.Again asked limits p op v n words now on asks leads = leads
ends-pace (paces.Ended ending) asked limits p op v n words now on asks leads = leads

-- the attempt of this operation has come so far
module _ (op : Option Op) (start : Vp) (words : List ℕ) (before : PartView) (limits : Limits) (v : Vp) (fabric : Fabric) (now : PartView) (on : IsOn op start words before limits v fabric now) where
  abbrev whole : Did (List ℕ)
  whole = does_rest limits start.number op before.state start words

  -- what the turn has done, said of the start
  pub led : (here : Option Op) (at : Limits) (n : Vp) (turned : List ℕ) (turn : CpuTurn) → at ≡ limits → here ≡ op → Leads turn at v.number here v n fabric.words turned → Leads turn limits start.number op v n fabric.words turned
  led here at n turned turn same own leads = subst (λ p. Leads turn limits p op v n fabric.words turned) on.same.number (rw (same, own) at leads)

  idle-now : (n : Vp) (phases : List Phase) → Phases v.number n fabric.phases phases → IsAtRest n → AllIdle phases
  idle-now n phases ph rests =
      all-idle v.number phases (ph.own ∙ rest-idle n rests) (λ q apart. ph.others q apart ∙ on.others q (λ e. apart (e ∙ sym on.same.number)))

  own-phase : (n : Vp) (phases : List Phase) → Phases v.number n fabric.phases phases → get_or phases start.number Idle ≡ phase_at n.seen n.first
  own-phase n phases ph = subst (λ p. get_or phases p Idle ≡ phase_at n.seen n.first) on.same.number ph.own

  other-phases : (n : Vp) (phases : List Phase) → Phases v.number n fabric.phases phases → (q : ℕ) → q ≢ start.number → get_or phases q Idle ≡ Idle
  other-phases n phases ph q apart = ph.others q (λ e. apart (e ∙ on.same.number)) ∙ on.others q apart

  -- after a step the attempt goes on
  pub still-on : (n : Vp) (next : Fabric) → Moves limits start.number op v n fabric.words next.words → n.owes ≡ false → Phases v.number n fabric.phases next.phases → Agrees limits next → SameParts fabric next → IsOn op start words before limits n next now
  still-on n next moves owes phases agrees parts = record {
    served = on.served;
    partition = on.partition;
    same_end = ap (served_before on.served) (moves.same_end now.state) ∙ on.same_end;
    same = same_by start v n on.same moves.same;
    state = moves.state ∙ on.state;
    kept = keeps_same op n.op (sym moves.kept);
    going = moves.ended ∙ on.going;
    answered = owes;
    asks = subst (λ h. AsksOnce start.number h (rest_of n op)) (sym moves.heard) (subst (AsksOnce start.number v.heard) (sym moves.goes_on) (after-once start.number v.heard (rest_of v op) moves.answer on.asks));
    heard = rw moves.heard (nearer-heard v.heard v.first n.first v.seen n.seen moves.nearer on.heard);
    room = λ e. on.room (sym moves.heard ∙ e);
    few = on.few;
    sound = moves.sound on.sound;
    agrees = agrees;
    paced = still-paced limits now fabric next parts on.paced;
    phase = own-phase n next.phases phases;
    others = other-phases n next.phases phases;
  }

  -- the end of the attempt by a turn
  pub stops-finished : (n : Vp) (next : Fabric) → Stops limits start.number op v n fabric.words next.words → Phases v.number n fabric.phases next.phases → Agrees limits next → SameParts fabric next → IsFinished limits whole n next before now
  stops-finished n next stops phases agrees parts =
      let e : whole ≡ record { vp = n; words = next.words; served = on.served ++ [] } = sym on.same_end ∙ ap (served_before on.served) (stops.does now.state) in
      record {
        done = record {
          vp = sym (ap (λ (d : Did (List ℕ)). d.vp) e);
          words = sym (ap (λ (d : Did (List ℕ)). d.words) e);
          partition = on.partition ∙ ap (with_served before) (sym (append-nil on.served)) ∙ ap (λ (d : Did (List ℕ)). with_served before d.served) (sym e);
        };
        rests = stops.rests;
        unheard = ap (λ (u : Vp). u.heard) stops.marked ∙ ends-unheard start.number v.heard (rest_of v op) stops.answer stops.outcome stops.last stops.ends stops.heard on.asks;
        idle = idle-now n next.phases phases stops.rests;
        few = subst (λ (d : Did (List ℕ)). length (joined d.served) + owed now.state ≤ (length before.state.vps + 11) * length d.served + owed before.state) (sym e) (subst (λ vs. length (joined vs) + owed now.state ≤ (length before.state.vps + 11) * length vs + owed before.state) (sym (append-nil on.served)) on.few);
        agrees = agrees;
        paced = still-paced limits now fabric next parts on.paced;
      }

  -- the request of the attempt
  module _ (q : Request) (n : Vp) (turned : List ℕ) (hands : Hands q op v n fabric.words turned) where
    first-asks : IsFirst start.number v.heard q hands.more
    first-asks = asks-first start.number v.heard q hands.more (rest_of v op) hands.left on.asks

    pub now-free : IsFree limits before → IsFree limits now
    now-free free = subst (IsFree limits) (sym on.partition) (served-free before on.served limits free)

    pub asks-by : start.number < limits.vps → IsFree limits before → q.by.0 < length now.state.vps
    asks-by low free = let by = first-asks.own.by in let all = (now-free free).vps_all in omega arith

    pub asks-room : IsSlice q.call → length now.journal.entries + length (block now.state q) ≤ now.journal.room
    asks-room slice = let few = few-entries now.state q slice in let room = on.room first-asks.none in omega arith

    own-sound : Sound limits IsOver (reverse (drop v.first v.seen)) (Wants q hands.more)
    own-sound = subst (Sound limits IsOver (reverse (drop v.first v.seen))) hands.left on.sound

    -- a request is made between two accesses
    pub asks-idle : (phases : List Phase) → Phases v.number n fabric.phases phases → AllIdle phases
    asks-idle phases ph =
        let own : phase_at n.seen n.first ≡ Idle = ap (λ (u : Vp). phase_at u.seen u.first) hands.asks ∙ own-sound.0 in
        all-idle v.number phases (ph.own ∙ own) (λ p apart. ph.others p apart ∙ on.others p (λ e. apart (e ∙ sym on.same.number)))

    pub none-busy : (at : Limits) (next : Fabric) → at ≡ limits → Agrees limits next → Phases v.number n fabric.phases next.phases → NoneBusy at next.words
    none-busy at next same agrees ph = subst (λ l. NoneBusy l next.words) (sym same) (λ p low. agrees p low (asks-idle next.phases ph p))

    few-more : IsSlice q.call → length (joined (on.served ++ (q, block now.state q) ∷ [])) + owed (after now.state q) ≤ (length before.state.vps + 11) * length (on.served ++ (q, block now.state q) ∷ []) + owed before.state
    few-more slice =
        let each : ℕ = length before.state.vps + 11 in
        let few = few-entries now.state q slice in
        let was = on.few in
        let many : length now.state.vps ≡ length before.state.vps = ap (λ (p : PartView). length p.state.vps) on.partition ∙ state_after-vps before.state on.served in
        let long : length (joined (on.served ++ (q, block now.state q) ∷ [])) ≡ length (joined on.served) + length (block now.state q) =
        ap length (joined-append on.served ((q, block now.state q) ∷ []) ∙ ap (λ es. joined on.served ++ es) (append-nil (block now.state q))) ∙ length-append (joined on.served) (block now.state q) in
        let times : each * length (on.served ++ (q, block now.state q) ∷ []) ≡ each * length on.served + each * 1 = ap (λ k. each * k) (length-append on.served ((q, block now.state q) ∷ [])) ∙ times-add each (length on.served) 1 in
        omega arith

    -- its reply
    module _ (reply : Reply) (m : Vp) (turn : CpuTurn) (part : PartView) (answers : reply ≡ answer now.state q) (slice : IsSlice q.call) (serves : part ≡ with_served now ((q, block now.state q) ∷ [])) (accepts : AcceptsBy (rest_of n n.op) reply n m turn) where
      abbrev words_then : List ℕ
      words_then = words_by_entries limits fabric.words (block now.state q)

      same-words : (last : Fabric) → last.words ≡ words_by_entries limits turned (block now.state q) → last.words ≡ words_then
      same-words last same = same ∙ ap (λ ws. words_by_entries limits ws (block now.state q)) hands.stays

      abbrev more : List (Request × List Entry)
      more = on.served ++ (q, block now.state q) ∷ []

      accepted : AcceptsBy (Wants q hands.more) reply n m turn
      accepted = subst (λ t. AcceptsBy t reply n m turn) (ap (λ (u : Vp). rest_of u u.op) hands.asks ∙ hands.left) accepts

      partition-now : part ≡ with_served before more
      partition-now = serves ∙ ap (λ p. with_served p ((q, block now.state q) ∷ [])) on.partition ∙ with_more before on.served ((q, block now.state q) ∷ [])

      few-now : length (joined more) + owed (after now.state q) ≤ (length before.state.vps + 11) * length more + owed before.state → length (joined more) + owed part.state ≤ (length before.state.vps + 11) * length more + owed before.state
      few-now few = subst (λ (p : PartView). length (joined more) + owed p.state ≤ (length before.state.vps + 11) * length more + owed before.state) (sym serves) few

      -- the rest of the attempt, where the reply leads to this
      does-on : (rest : Tree Outcome) → hands.more reply ≡ rest
          → whole ≡ served_before on.served (served_first q (block now.state q) (does_all (answer_of limits start.number) (words_by limits start.number) (words_by_entries limits) (after now.state q) op (answered reply n) words_then rest))
      does-on rest e =
          sym on.same_end
          ∙ ap (served_before on.served) (does-asked limits start.number op now.state q hands.more v n fabric.words reply hands.left hands.asks answers)
          ∙ ap (λ t. served_before on.served (served_first q (block now.state q) (does_all (answer_of limits start.number) (words_by limits start.number) (words_by_entries limits) (after now.state q) op (answered reply n) words_then t))) e

      heard-ends : (o : Outcome) (last : Fabric) → hands.more reply ≡ Ends o → last.words ≡ words_by_entries limits turned (block now.state q) → Phases v.number m fabric.phases last.phases → Agrees limits last → IsPacedBy part (record { limits = limits; fabric = last }) → IsFinished limits whole m last before part
      heard-ends o last e same phases agrees paced =
          let end : m ≡ settled (Ends o) (answered reply n) = accepted.0 ∙ ap (λ t. settled t (answered reply n)) e in
          let did : whole ≡ record { vp = m; words = words_then; served = more } = does-on (Ends o) e ∙ ap (λ u. record { vp = u; words = words_then; served = more }) (sym end) in
          let never : NoAgain o = subst (EndsIn NoAgain) e (first-asks.own.ends reply).1 in
          let over = came_to-over o.what (answered reply n) o never in
          let rests : IsAtRest m = subst IsAtRest (sym end) over.rests in
          record {
            done = record {
              vp = sym (ap (λ (d : Did (List ℕ)). d.vp) did);
              words = same-words last same ∙ sym (ap (λ (d : Did (List ℕ)). d.words) did);
              partition = partition-now ∙ ap (λ (d : Did (List ℕ)). with_served before d.served) (sym did);
            };
            rests = rests;
            unheard = ap (λ (u : Vp). u.heard) end ∙ over.unheard;
            idle = idle-now m last.phases phases rests;
            few = subst (λ (d : Did (List ℕ)). length (joined d.served) + owed part.state ≤ (length before.state.vps + 11) * length d.served + owed before.state) (sym did) (few-now (few-more slice));
            agrees = agrees;
            paced = paced;
          }

      -- the attempt came to its end by the reply
      pub heard-finished : (last : Fabric) → turn ≢ turns.Moved → last.words ≡ words_by_entries limits turned (block now.state q) → Phases v.number m fabric.phases last.phases → Agrees limits last → IsPacedBy part (record { limits = limits; fabric = last }) → IsFinished limits whole m last before part
      heard-finished last other same phases agrees paced = go (hands.more reply) refl where
        go : (rest : Tree Outcome) → hands.more reply ≡ rest → IsFinished limits whole m last before part
        go (Ends o) e = heard-ends o last e same phases agrees paced
        go (Asks s k) e = absurd (other (accepted.1 ∙ ap (λ t. answer_at t m.ended) e))
        go (Wants r k) e = absurd (other (accepted.1 ∙ ap (λ t. answer_at t m.ended) e))

      heard-moves : (s : WordStep) (k : ℕ → Tree Outcome) (next : Fabric) → hands.more reply ≡ Asks s k → rest_of (answered reply n) n.op ≡ by_reply (rest_of n n.op) reply → n.first ≤ length n.seen → next.words ≡ words_by_entries limits turned (block now.state q) → Phases v.number m fabric.phases next.phases → Agrees limits next → IsPacedBy part (record { limits = limits; fabric = next })
          → IsOn op start words before limits m next part
      heard-moves s k next e left inside same phases agrees paced =
          let u : Vp = answered reply (asking op v) in
          let new : m ≡ u = accepted.0 ∙ ap (λ t. settled t (answered reply n)) e ∙ ap (answered reply) hands.asks in
          let on_by : rest_of u op ≡ hands.more reply = ap (λ (w : Vp). rest_of (answered reply w) w.op) (sym hands.asks) ∙ left ∙ ap (λ (w : Vp). by_reply (rest_of w w.op) reply) hands.asks ∙ ap (λ t. by_reply t reply) hands.left in
          let state : part.state ≡ after now.state q = ap (λ (p : PartView). p.state) serves in
          let within : v.first ≤ length v.seen = subst (λ (w : Vp). w.first ≤ length w.seen) hands.asks inside in
          let ends = first-asks.own.ends reply in
          let answer_by = answer_of limits start.number in
          let change_by = words_by limits start.number in
          let adds_by = words_by_entries limits in
          let here : does_all answer_by change_by adds_by (after now.state q) op (answered reply n) words_then (hands.more reply) ≡ does_rest limits start.number op part.state u next.words =
          ap (λ w. does_all answer_by change_by adds_by (after now.state q) op (answered reply w) words_then (hands.more reply)) hands.asks
          ∙ ap (λ ps. does_all answer_by change_by adds_by ps op u words_then (hands.more reply)) (sym state)
          ∙ ap (λ ws. does_all answer_by change_by adds_by part.state op u ws (hands.more reply)) (sym (same-words next same))
          ∙ ap (does_all answer_by change_by adds_by part.state op u next.words) (sym on_by) in
          let did : whole ≡ served_before more (does_rest limits start.number op part.state u next.words) =
          does-on (hands.more reply) refl ∙ ap (λ d. served_before on.served (served_first q (block now.state q) d)) here ∙ before-first on.served q (block now.state q) (does_rest limits start.number op part.state u next.words) in
          subst (λ w. IsOn op start words before limits w next part) (sym new) (record {
            served = more;
            partition = partition-now;
            same_end = sym did;
            same = record { number = on.same.number; limits = on.same.limits; zero_length = on.same.zero_length; one_length = on.same.one_length; started = on.same.started };
            state = on.state;
            kept = keeps_same op op refl;
            going = on.going;
            answered = refl;
            asks = (subst Unasked (sym on_by) ends.0, subst (EndsIn NoAgain) (sym on_by) ends.1);
            heard = omega (arith, within);
            room = λ none. cc;
            few = few-now (few-more slice);
            sound = subst (Sound limits IsOver (reverse (drop v.first v.seen))) (sym on_by) (own-sound.1 reply);
            agrees = agrees;
            paced = paced;
            phase = subst (λ (w : Vp). get_or next.phases start.number Idle ≡ phase_at w.seen w.first) new (own-phase m next.phases phases);
            others = other-phases m next.phases phases;
          })

      -- the attempt goes on by the reply
      pub heard-on : (next : Fabric) → turn ≡ turns.Moved → rest_of (answered reply n) n.op ≡ by_reply (rest_of n n.op) reply → n.first ≤ length n.seen → next.words ≡ words_by_entries limits turned (block now.state q) → Phases v.number m fabric.phases next.phases → Agrees limits next → IsPacedBy part (record { limits = limits; fabric = next }) → IsOn op start words before limits m next part
      heard-on next moves left inside same phases agrees paced = go (hands.more reply) refl where
        go : (rest : Tree Outcome) → hands.more reply ≡ rest → IsOn op start words before limits m next part
        go (Ends o) e = absurd (marks-on o.what m.ended (sym (accepted.1 ∙ ap (λ t. answer_at t m.ended) e) ∙ moves))
        go (Asks s k) e = heard-moves s k next e left inside same phases agrees paced
        go (Wants r k) e = absurd (subst Unasked e (first-asks.own.ends reply).0)
