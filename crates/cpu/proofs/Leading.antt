-- What is under way: how a step, a reply and a new attempt lead on.
use Rattle.std.proofs.Common.{◌≡◌, ◌≢◌, ◌∙◌, ◌-◌, ◌<◌, ◌≤◌, ℕ, suc, List, [], ◌∷◌, ◌++◌, length}
use Rattle.std.proofs.Common.{map}
use Rattle.std.proofs.Common.{drop, take, refl, sym, ap, subst, inl, inr, arith, Option, Some, None, IfSome}
use Rattle.std.proofs.Common.{length-append}
use Rattle.std.proofs.Common.{length-drop, append_assoc, add-one}
use Rattle.std.proofs.lemmas.List.{drop-append-le, drop_all, drop_at, length-map, length-take-le, map-append}
use Rattle.std.proofs.lemmas.List.{reverse-append}
use Rattle.std.proofs.lemmas.List.{take_all}
use Rattle.vsm_base.specs.declared.places.Limits.{Limits}
use Rattle.vsm_core.specs.declared.event.Event.{Event}
use Rattle.vsm_core.specs.declared.event.Event.TheVariants as events
use Rattle.vsm_core.specs.declared.mark.Grant.{Grant}
use Rattle.vsm_core.specs.declared.mark.What.{What}
use Rattle.vsm_core.specs.declared.mark.What.TheVariants.{Again}
use Rattle.vsm_core.specs.declared.operation.Op.{Op}
use Rattle.vsm_core.specs.declared.request.Heard.{Heard}
use Rattle.vsm_core.specs.declared.request.Reply.{Reply}
use Rattle.vsm_core.specs.declared.request.Request.{Request}
use Rattle.vsm_core.specs.Attempt.{attempt, most_steps}
use Rattle.vsm_core.specs.Keeps.{EndsIn}
use Rattle.vsm_core.specs.Outcomes.{Origin, Outcome}
use Rattle.vsm_core.specs.Steps.{learned, made, phase_after, phase_of}
use Rattle.vsm_core.specs.Tree.{Tree, Ends, Asks, Wants, WordStep, Entering, Checking, after, by_reply, followed}
use Rattle.vsm_core.proofs.Bounds.{followed-append, Counts-most, attempt-counts, most_steps-few}
use Rattle.vsm_core.proofs.Requests.{IsNoAgain, IsOwnRequest, NoAgain, Unasked, own-requests}
use Rattle.vsm_core.proofs.Soundness.{attempt-sound}
use Rattle.attempt.specs.declared.stage.Asked.{Asked}
use Rattle.attempt.specs.declared.stage.Next.TheVariants.{Ask, Want, End}
use Rattle.attempt.specs.declared.stage.Step.{Step}
use Rattle.attempt.specs.declared.under.Under.{Under}
use Rattle.attempt.specs.Asked.{word_step}
use Rattle.attempt.specs.Calls.{request_for}
use Rattle.attempt.specs.Heads.{IsHeadOf}
use Rattle.attempt.specs.Rests.{StageIs, rest_of}
use Rattle.attempt.specs.Results.{result_of}
use Rattle.attempt.specs.Views.{VpView, origin_of}
use Rattle.cpu.specs.declared.log.Log.{Log}
use Rattle.cpu.specs.Logs.{HasRoom, first_by, saw_in, seen_by}
use Rattle.cpu.specs.Turns.{phase_at}
use Rattle.cpu.specs.UnderWay.{IsFine, IsHeard, IsLate, IsTidy, Way, led_to}

-- what comes next of a tree: a step, a request, or its end
pub step-of : (from : Origin) (u : Under) (t : Tree Outcome) (step : Step) → IsHeadOf from u t (Ask step)
    → (k : ℕ → Tree Outcome) × (t ≡ Asks (word_step step) k)
step-of from u (Asks s k) step h = (k, ap (λ r. Asks r k) h)
step-of from u _ step h = absurd h

pub request-of : (from : Origin) (u : Under) (t : Tree Outcome) (asked : Asked) → IsHeadOf from u t (Want asked)
    → (k : Reply → Tree Outcome) × (t ≡ Wants (request_for from u asked) k)
request-of from u (Wants q k) asked h = (k, ap (λ r. Wants r k) h)
request-of from u _ asked h = absurd h

pub end-of : (from : Origin) (u : Under) (t : Tree Outcome) → IsHeadOf from u t End → t ≡ Ends (result_of from u)
end-of from u (Ends o) h = ap Ends h
end-of from u _ h = absurd h

-- a check drops the events of earlier spins
tidy-on : (part first : ℕ) (s : WordStep) (k : ℕ → Tree Outcome) (x : ℕ) → IsTidy part first (Asks s k)
    → IsTidy part (first_by part first (made s x)) (k x)
tidy-on part first Checking k x t = inl refl
tidy-on part first s k x (inl e) = inl e
tidy-on part first s k x (inr h) = inr (h x)

tidy-reply : (part first : ℕ) (q : Request) (k : Reply → Tree Outcome) (reply : Reply) → IsTidy part first (Wants q k)
    → IsTidy part first (k reply)
tidy-reply part first q k reply (inl e) = inl e
tidy-reply part first q k reply (inr h) = absurd h

pub tidy-end : (part first : ℕ) (t : Tree Outcome) (o : Outcome) → t ≡ Ends o → IsTidy part first t → part ≡ first
tidy-end part first t o e (inl same) = same
tidy-end part first t o e (inr h) = absurd (rw e at h)

heard-on : (heard : Option Heard) (own : ℕ) (s : WordStep) (k : ℕ → Tree Outcome) (x : ℕ)
    → IfSome heard (IsHeard (Asks s k) own) → IfSome heard (IsHeard (k x) (suc own))
heard-on None own s k x is = tt
heard-on (Some h) own s k x is = let low : h.after ≤ own = is.after in record { after = omega arith; late = is.late x }

heard-within : (heard : Option Heard) (t : Tree Outcome) (own : List Event) → IfSome heard (IsHeard t (length own))
    → IfSome heard (λ h. h.after ≤ length (map learned own))
heard-within None t own is = tt
heard-within (Some h) t own is = rw (length-map own learned) is.after

-- no reply was had where one is asked for, nor by a spin in vain
pub unheard : (heard : Option Heard) (t : Tree Outcome) (own : ℕ) (q : Request) (k : Reply → Tree Outcome)
    → t ≡ Wants q k
    → IfSome heard (IsHeard t own) → heard ≡ None
unheard None t own q k e is = refl
unheard (Some h) t own q k e is = absurd (rw e at is.late)

pub heard-again : (heard : Option Heard) (t : Tree Outcome) (own : ℕ) (o : Outcome) (grant : Grant) → t ≡ Ends o
    → o.what ≡ Again grant → IfSome heard (IsHeard t own) → heard ≡ None
heard-again None t own o grant e again is = refl
heard-again (Some h) t own o grant e again is = absurd ((rw e at is.late) grant again)

no-again : (what : What) (grant : Grant) → IsNoAgain what → what ≢ Again grant
no-again (Again found) grant h = absurd h
no-again _ grant h = λ e. cc

late-of : (t : Tree Outcome) → Unasked t → EndsIn NoAgain t → IsLate t
late-of (Ends o) unasked ends = λ grant. no-again o.what grant ends
late-of (Asks s k) unasked ends = λ x. late-of (k x) (unasked x) (ends x)
late-of (Wants q k) unasked ends = unasked

-- a reply is the last
late-reply : (from : Origin) (op : Op) (own : List Event) (q : Request) (k : Reply → Tree Outcome) (reply : Reply)
    → led_to from op None own ≡ Wants q k → IsLate (k reply)
late-reply from op own q k reply e =
    let is : IsOwnRequest from.number q k = rw e at (own-requests from (Some op) None (map learned own)) in
    late-of (k reply) (is.ends reply).0 (is.ends reply).1

some-reply : Reply
some-reply = record { status = record { 0 = 0 }; done = 0; value = 0; context = None }

module _ (limits : Limits) (heard : Option Heard) (own : List Event) (part first : ℕ) where
  fine-on : (s : WordStep) (k : ℕ → Tree Outcome) (x : ℕ) → IsFine limits heard own part first (Asks s k)
      → IsFine limits heard (own ++ made s x ∷ []) part (first_by part first (made s x)) (k x)
  fine-on s k x f = record {
    sound = rw (reverse-append own (made s x ∷ [])) (f.sound.1 x);
    counts = rw (length-append own (made s x ∷ []), add-one) (f.counts x);
    hears = rw (length-append own (made s x ∷ []), add-one) (heard-on heard _ s k x f.hears);
    tidy = tidy-on part first s k x f.tidy;
  }

  -- there is room for the next event
  pub few-on : (t : Tree Outcome) (s : WordStep) (k : ℕ → Tree Outcome) → t ≡ Asks s k
      → IsFine limits heard own part first t
      → length own < 38
  few-on t s k e f = Counts-most most_steps 38 some-reply _ (k 0) most_steps-few ((rw e at f.counts) 0)

fine-reply : (limits : Limits) (own : List Event) (part first : ℕ) (q : Request) (k : Reply
    → Tree Outcome) (reply : Reply)
    → IsFine limits None own part first (Wants q k) → IsLate (k reply)
    → IsFine limits (Some (record { after = length own; reply = reply })) own part first (k reply)
fine-reply limits own part first q k reply f late = record {
  sound = f.sound.1 reply;
  counts = f.counts reply;
  hears = record { after = omega arith; late = late };
  tidy = tidy-reply part first q k reply f.tidy;
}

-- the attempt's own events are one more
pub own-by : (l : Log) (e : Event) → HasRoom l
    → drop (first_by l.part l.first e) (seen_by l.seen.0 l.part l.first e) ≡ drop l.first l.seen.0 ++ e ∷ []
own-by l (events.Check generation) has =
    rw append_assoc (drop_at (take l.part l.seen.0) (drop l.first l.seen.0 ++ events.Check generation ∷ []) l.part
    (length-take-le l.part l.seen.0 (omega (arith, has.part_le, has.first_le))))
own-by l e has = drop-append-le l.first l.seen.0 (e ∷ []) has.first_le

phase-made : (s : WordStep) (x : ℕ) (es : List Event) → phase_of (made s x ∷ es) ≡ phase_after (phase_of es) s x
phase-made Entering x es = refl
phase-made _ x es = refl

pub phase-by : (l : Log) (s : WordStep) (x : ℕ) → HasRoom l
    → phase_at (saw_in l (made s x)).seen.0 (saw_in l (made s x)).first ≡ phase_after (phase_at l.seen.0 l.first) s x
phase-by l s x has =
    rw (own-by l (made s x) has, reverse-append (drop l.first l.seen.0) (made s x ∷ [])) (phase-made s x _)

-- the step has led on
pub stepped : (v : VpView) (u next : Under) (heard : Option Heard) (l : Log) (s : WordStep) (k : ℕ
    → Tree Outcome) (x : ℕ)
    → HasRoom l → Way v u heard l → rest_of (origin_of v) u ≡ Asks s k → learned (made s x) ≡ x → next.op ≡ u.op
    → StageIs (origin_of v) next → rest_of (origin_of v) next ≡ after (rest_of (origin_of v) u) x
    → Way v next heard (saw_in l (made s x))
stepped v u next heard l s k x has way asks learns op is rest =
    let own = drop l.first l.seen.0 in
    let more : rest_of (origin_of v) next ≡ k x = rest ∙ ap (λ t. after t x) asks in
    let within = heard-within heard _ own way.fine.hears in
    let led : led_to (origin_of v) u.op heard (own ++ made s x ∷ []) ≡ after (led_to (origin_of v) u.op heard own) x =
    rw (map-append learned own (made s x ∷ []), learns) (followed-append (attempt (origin_of v) u.op) heard
    (map learned own) x within) in
    rw (own-by l (made s x) has) (record {
      is = is;
      rest = subst (λ (o : Op). rest_of (origin_of v) next ≡ led_to (origin_of v) o heard (own ++ made s x ∷ []))
          (sym op) (rw (led, ← way.rest) rest);
      fine = rw more (fine-on v.limits heard own l.part l.first s k x (rw asks at way.fine));
    })

-- the reply has led on
abbrev pub heard_at : Log → Reply → Option Heard
heard_at l reply = Some (record { after = length l.seen.0 - l.first; reply = reply })

pub reply-led : (t : Tree Outcome) (heard : Option Heard) (l : Log) (reply : Reply) → heard ≡ None
    → followed t (heard_at l reply) (map learned (drop l.first l.seen.0))
    ≡ by_reply (followed t heard (map learned (drop l.first l.seen.0))) reply
reply-led t heard l reply quiet =
    let xs = map learned (drop l.first l.seen.0) in
    let long : length l.seen.0 - l.first ≡ length xs = sym (length-map (drop l.first l.seen.0) learned
    ∙ length-drop l.first l.seen.0) in
    rw (quiet, long, take_all (length xs) xs (omega arith), drop_all (length xs) xs (omega arith)) refl

pub replied : (v : VpView) (u next : Under) (heard : Option Heard) (l : Log) (q : Request) (k : Reply
    → Tree Outcome) (reply : Reply)
    → heard ≡ None → Way v u heard l → rest_of (origin_of v) u ≡ Wants q k → next.op ≡ u.op → StageIs (origin_of v) next
    → rest_of (origin_of v) next ≡ k reply → Way v next (heard_at l reply) l
replied v u next heard l q k reply quiet under wants op is rest =
    let way = rw quiet at under in
    let e : led_to (origin_of v) u.op None (drop l.first l.seen.0) ≡ Wants q k = sym way.rest ∙ wants in
    record {
      is = is;
      rest = subst (λ (o : Op). rest_of (origin_of v) next ≡ led_to (origin_of v) o (heard_at l reply)
          (drop l.first l.seen.0)) (sym op) (rw (reply-led (attempt (origin_of v) u.op) None l reply refl, e) rest);
      fine = rw (rest, ← length-drop l.first l.seen.0)
          (fine-reply v.limits (drop l.first l.seen.0) l.part l.first q k reply (rw wants at way.fine) (late-reply
          (origin_of v) u.op (drop l.first l.seen.0) q k reply e));
    }

-- the first stage of an attempt is where no events lead, and no reply
pub begun : (v : VpView) (u : Under) (heard : Option Heard) (l : Log) → v.number < v.limits.vps → v.limits.vps ≤ 8
    → heard ≡ None → l.first ≡ length l.seen.0 → StageIs (origin_of v) u
    → rest_of (origin_of v) u ≡ attempt (origin_of v) u.op
    → IsTidy l.part l.first (attempt (origin_of v) u.op) → Way v u heard l
begun v u heard l low few quiet e is rest tidy =
    let none : drop l.first l.seen.0 ≡ [] = drop_all l.first l.seen.0 (omega arith) in
    rw (quiet, none) (record {
      is = is;
      rest = rest;
      fine = rw rest (record {
        sound = attempt-sound v.limits v.number v.state v.controllers u.op [] low refl;
        counts = attempt-counts (origin_of v) u.op few;
        hears = tt;
        tidy = tidy;
      });
    })
