-- A turn, by what its step did, and the turn that takes a reply.
use Rattle.std.proofs.Common.{◌≡◌, ◌∙◌, ◌+◌, ◌<◌, ℕ, true, false, length, length-drop, refl, sym, ap, subst, arith}
use Rattle.std.proofs.Common.{Option, Some, None}
use Rattle.vsm_core.specs.declared.event.Event.{Event}
use Rattle.vsm_core.specs.declared.event.Event.TheVariants as events
use Rattle.vsm_core.specs.declared.mark.Ending.{Ending}
use Rattle.vsm_core.specs.declared.mark.Grant.{Grant}
use Rattle.vsm_core.specs.declared.mark.What.{What}
use Rattle.vsm_core.specs.declared.mark.What.TheVariants as whats
use Rattle.vsm_core.specs.declared.operation.Op.{Op}
use Rattle.vsm_core.specs.declared.request.Heard.{Heard}
use Rattle.vsm_core.specs.declared.request.Reply.{Reply}
use Rattle.vsm_core.specs.Outcomes.{Outcome}
use Rattle.vsm_core.specs.Processor.{Vp, came_to, ending_after, marked_or_ended, rest_of, saw, settled}
use Rattle.vsm_core.specs.Processor.{standing}
use Rattle.vsm_core.specs.Seat.{Seat, Makes, MayMake}
use Rattle.vsm_core.specs.Steps.{made}
use Rattle.vsm_core.specs.Tree.{Tree, Asks, Wants, WordStep, after}
use Rattle.attempt.specs.declared.stage.Asked.{Asked}
use Rattle.attempt.specs.declared.stage.Next.TheVariants.{Ask}
use Rattle.attempt.specs.declared.stage.Stage.TheVariants as stages
use Rattle.attempt.specs.declared.stage.Step.{Step}
use Rattle.attempt.specs.declared.under.Under.{Under}
use Rattle.attempt.specs.Asked.{word_step}
use Rattle.attempt.specs.Calls.{by_answer, request_for}
use Rattle.attempt.specs.Heads.{IsHeadOf}
use Rattle.attempt.specs.Rests.{StageIs, rest_of as stage_left}
use Rattle.attempt.specs.Views.{origin_of}
use Rattle.cpu.specs.declared.cpu_turn.CpuTurn.{CpuTurn}
use Rattle.cpu.specs.declared.log.Log.{Log}
use Rattle.cpu.specs.declared.processor.Cpu.TheInside.{Inside}
use Rattle.cpu.specs.Logs.{HasRoom, saw_in, stood}
use Rattle.cpu.specs.Sound.{IsOwing, IsSound, view_of}
use Rattle.cpu.specs.Turns.{AcceptsBy, IsGoing, TurnsBy, VpServes, answer_at}
use Rattle.cpu.specs.UnderWay.{Means, Way, op_of}
use Rattle.cpu.proofs.Leading.{few-on, heard_at, replied, step-of, stepped}

-- a processor that has started, with what is under way at its next turn
pub record Going (i : Inside) (u : Under) : Type 0 where
  pub is : IsGoing (view_of i)
  pub way : Way i.state u i.heard i.log
  pub left : rest_of (view_of i) (Some u.op) ≡ stage_left (origin_of i.state) u

pub going-on : (i : Inside) (v : Vp) (u : Under) → view_of i ≡ v → IsSound i → IsGoing v
    → ((heard : Option Heard) (log : Log) → Means i.acting i.state i.under heard log → Way i.state u heard log)
    → Going i u
going-on i v u e sound goes means =
    let is : IsGoing (view_of i) = rw (← e) at goes in
    let way = means i.heard i.log (sound.means is.started) in
    record { is = is; way = way; left = sym way.rest }

-- the next is this step, which may be made and leaves room
pub record Steps (i : Inside) (u : Under) (before : Seat) (s : WordStep) : Type 0 where
  pub k : ℕ → Tree Outcome
  pub asks : stage_left (origin_of i.state) u ≡ Asks s k
  pub serves : VpServes (view_of i) before
  pub may : MayMake before s
  pub few : length i.log.seen.0 < i.log.first + 38

pub steps-on : (i : Inside) (v : Vp) (u : Under) (before : Seat) (step : Step) → view_of i ≡ v → IsSound i → Going i u
    → VpServes v before → IsHeadOf (origin_of i.state) u (stage_left (origin_of i.state) u) (Ask step)
    → Steps i u before (word_step step)
steps-on i v u before step e sound on at_port head =
    let next = step-of (origin_of i.state) u _ step head in
    let serves : VpServes (view_of i) before = rw (← e) at at_port in
    let fine = rw next.1 at on.way.fine in
    record {
      k = next.0;
      asks = next.1;
      serves = serves;
      may = (rw (serves.vp, serves.limits) sound.made.vp, rw (serves.limits, serves.phase) fine.sound.0);
      few = omega (arith, few-on _ _ _ _ _ _ _ _ next.1 on.way.fine, length-drop i.log.first i.log.seen.0);
    }

-- what is under way after the step
pub way-on : (i : Inside) (u next : Under) (before after_it : Seat) (s : WordStep) (x : ℕ) → IsSound i → Going i u
    → Steps i u before s → Makes before s x after_it → next.op ≡ u.op → StageIs (origin_of i.state) next
    → stage_left (origin_of i.state) next ≡ after (stage_left (origin_of i.state) u) x
    → Way i.state next i.heard (saw_in i.log (made s x))
way-on i u next before after_it s x sound on steps makes op is rest =
    stepped i.state u next i.heard i.log s steps.k x sound.has on.way steps.asks makes.learns op is rest

-- the processor before its next step
abbrev pub acting_inside : Inside → Under → Log → Inside
acting_inside i u log = record {
  state = i.state;
  lengths = i.lengths;
  started = i.started;
  under = u;
  acting = true;
  owes = i.owes;
  heard = i.heard;
  log = log;
}

pub acting-sound : (i : Inside) (u : Under) (log : Log) (e : Event) → IsSound i → IsGoing (view_of i)
    → log ≡ saw_in (stood i.log) e → HasRoom log → Way i.state u i.heard (saw_in i.log e)
    → IsSound (acting_inside i u log)
acting-sound i u log e sound is same has way = record {
  made = rw same sound.made;
  has = has;
  notes = rw same sound.notes;
  running = rw same sound.running;
  owing = λ owes. cc;
  waits = λ off. cc;
  waiting = λ off. cc;
  means = λ _. rw same way;
}

saw-so : (op : Op) (i : Inside) (next : Under) (e : Event) → next.op ≡ op
    → view_of (acting_inside i next (saw_in (stood i.log) e)) ≡ saw (Some op) (view_of i) e
saw-so op i next (events.Check generation) same = rw same refl
saw-so op i next e same = rw same refl

-- the turn that makes a step and settles
pub turned-by : (i : Inside) (u next : Under) (before after_it : Seat) (s : WordStep) (x : ℕ) (log : Log) (n : Vp)
    (turn : CpuTurn) → Going i u → Steps i u before s → Makes before s x after_it
    → log ≡ saw_in (stood i.log) (made s x)
    → next.op ≡ u.op → Way i.state next i.heard (saw_in i.log (made s x))
    → stage_left (origin_of i.state) next ≡ after (stage_left (origin_of i.state) u) x
    → n ≡ settled (rest_of (view_of (acting_inside i next log)) (Some next.op)) (view_of (acting_inside i next log))
    → turn ≡ answer_at (rest_of (view_of (acting_inside i next log)) (Some next.op)) n.ended
    → TurnsBy (rest_of (view_of i) (Some u.op)) (Some u.op) (view_of i) before n after_it turn
turned-by i u next before after_it s x log n turn on steps makes same op way rest en et =
    let more : rest_of (view_of (acting_inside i next (saw_in (stood i.log) (made s x)))) (Some next.op) ≡ steps.k x =
    sym way.rest ∙ rest ∙ ap (λ t. after t x) steps.asks in
    rw (on.left, steps.asks)
    (x, makes, rw (same, more, saw-so u.op i next (made s x) op) at en, rw (same, more) at et)

-- the turn that only settles
abbrev pub stood_so : Op → Vp → Vp
stood_so op v = record v { op = Some op; marks = standing v; again = false }

again-stood : (v : Vp) (op : Op) (o : Outcome) (ending : Option Ending) → v.op ≡ Some op
    → marked_or_ended (stood_so op v) o ending ≡ marked_or_ended v o ending
again-stood v op o None e = rw (← e) refl
again-stood v op o (Some ending) e = refl

pub came-stood : (what : What) (v : Vp) (op : Op) (o : Outcome) → ((grant : Grant) → what ≡ whats.Again grant
    → v.op ≡ Some op)
    → came_to what (stood_so op v) o ≡ came_to what v o
came-stood (whats.Again grant) v op o kept =
    again-stood v op o (ending_after v o.what o.state (length (standing v)) (v.spins + 1)) (kept grant refl)
came-stood _ v op o kept = refl

-- a processor that waits for the reply to the request of its attempt
pub record InReply (i : Inside) (asked : Asked) : Type 0 where
  pub started : i.started ≡ true
  pub owing : IsOwing i
  pub acting : i.acting ≡ true
  pub way : Way i.state i.under i.heard i.log
  pub wants : stage_left (origin_of i.state) i.under ≡ Wants (request_for (origin_of i.state) i.under asked) (by_answer
      (origin_of i.state) asked)

pub in-reply : (i : Inside) (v : Vp) (asked : Asked) → view_of i ≡ v → IsSound i → v.started ≡ true → v.owes ≡ true
    → i.under.stage ≡ stages.Want asked → InReply i asked
in-reply i v asked e sound is_started is_owing at =
    let started : i.started ≡ true = rw (← e) at is_started in
    let owing = sound.owing (rw (← e) at is_owing) in
    let acting = owing.acting started in
    record {
      started = started;
      owing = owing;
      acting = acting;
      way = subst (λ b. Means b i.state i.under i.heard i.log) acting (sound.means started);
      wants = rw at refl;
    }

-- the processor once it has the reply
abbrev pub replied_inside : Inside → Under → Reply → Inside
replied_inside i u reply = record {
  state = i.state;
  lengths = i.lengths;
  started = i.started;
  under = u;
  acting = i.acting;
  owes = false;
  heard = heard_at i.log reply;
  log = i.log;
}

module _ (i : Inside) (asked : Asked) (next : Under) (reply : Reply) (in_ : InReply i asked) (op : next.op ≡ i.under.op)
    (rest : stage_left (origin_of i.state) next ≡ by_answer (origin_of i.state) asked reply) where
  way-replied : StageIs (origin_of i.state) next → Way i.state next (heard_at i.log reply) i.log
  way-replied is = replied i.state i.under next i.heard i.log _ _ reply in_.owing.unheard in_.way in_.wants op is rest

  pub replied-sound : IsSound i → StageIs (origin_of i.state) next → IsSound (replied_inside i next reply)
  replied-sound sound is = record {
    made = sound.made;
    has = sound.has;
    notes = sound.notes;
    running = sound.running;
    owing = λ owes. cc;
    waits = λ off. cc;
    waiting = λ off. cc;
    means = λ _. rw in_.acting (way-replied is);
  }

  -- the turn that takes it and settles
  pub accepted-by : (n : Vp) (turn : CpuTurn) → StageIs (origin_of i.state) next
      → n ≡ settled (rest_of (view_of (replied_inside i next reply)) (op_of i.acting next)) (view_of
      (replied_inside i next reply))
      → turn ≡ answer_at (rest_of (view_of (replied_inside i next reply)) (op_of i.acting next)) n.ended
      → AcceptsBy (rest_of (view_of i) (op_of i.acting i.under)) reply (view_of i) n turn
  accepted-by n turn is en et =
      let left = sym in_.way.rest ∙ in_.wants in
      let more = sym (way-replied is).rest ∙ rest in
      rw (in_.acting, left) (rw (in_.acting, more, op) at en, rw (in_.acting, more) at et)
