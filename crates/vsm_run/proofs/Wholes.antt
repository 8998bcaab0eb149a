-- One turn of an attempt.
use Rattle.std.proofs.Common.{◌≡◌, ◌≢◌, ◌<◌, ◌≤◌, ◌+◌, ℕ, Option, Some, None, IfSome, List, [], ◌∷◌, ◌++◌, length, map, take, drop, reverse, get_or, slice_set, refl, sym, ap, subst, ◌∙◌, append_assoc, length-append, length-drop, arith}
use Rattle.std.proofs.Math.Seq.{drop-append_seam}
use Rattle.std.proofs.lemmas.List.{reverse-append, drop-append-le, length-map, length-take-le, map-append, get_or-set_other}
use Rattle.vsm_base.specs.declared.places.Limits.{Limits}
use Rattle.vsm_core.specs.declared.event.Event.{Event}
use Rattle.vsm_core.specs.declared.event.Event.TheVariants as events
use Rattle.vsm_core.specs.declared.event.Phase.{Phase}
use Rattle.vsm_core.specs.declared.event.Phase.TheVariants.{Idle}
use Rattle.vsm_core.specs.declared.mark.Ending.{Ending}
use Rattle.vsm_core.specs.declared.mark.What.{What}
use Rattle.vsm_core.specs.declared.mark.What.TheVariants.{Again}
use Rattle.vsm_core.specs.declared.operation.Op.{Op}
use Rattle.vsm_core.specs.declared.partition_state.PartitionState.{PartitionState}
use Rattle.vsm_core.specs.Entries.{words_by_entries}
use Rattle.vsm_core.specs.Outcomes.{Outcome}
use Rattle.vsm_core.specs.declared.request.Heard.{Heard}
use Rattle.vsm_core.specs.declared.request.Request.{Request}
use Rattle.vsm_core.specs.Processor.{Vp, Did, IsSameProcessor, saw, came_to, does_all, marked_or_ended, settled, origin_of, rest_of, tree_of}
use Rattle.vsm_core.specs.Seat.{Seat, Fabric, Makes, fabric_after, told_after}
use Rattle.vsm_core.specs.Sound.{Sound, IsOver}
use Rattle.vsm_core.specs.Steps.{made, learned, phase_after}
use Rattle.vsm_core.specs.Tree.{Tree, Ends, Asks, Wants, WordStep, after, followed}
use Rattle.vsm_core.specs.Words.{answer_of, busy_at, words_by}
use Rattle.vsm_core.proofs.Bounds.{followed-append}
use Rattle.cpu.specs.declared.cpu_turn.CpuTurn.{CpuTurn}
use Rattle.cpu.specs.declared.cpu_turn.CpuTurn.TheVariants as turns
use Rattle.cpu.specs.Turns.{TurnsBy, after_mark, answer_at}
use Rattle.vsm_run.specs.Rests.{IsAtRest}
use Rattle.vsm_run.specs.Serving.{Agrees}
use Rattle.vsm_run.specs.Wholes.{HasHeard, StaysSound, Moves, Stops, Hands, Leads}
use Rattle.vsm_run.proofs.BusyWords.{step-agrees}

-- the places of a processor's events are in order
pub record IsOrdered (v : Vp) : Type 0 where
  pub part : v.part ≤ length v.seen
  pub first : v.first ≤ length v.seen
  pub heard : HasHeard v

-- events that were taken out of the middle
drop-forgot : {A : Type 0} (part : ℕ) (xs ys zs : List A) → part ≤ length xs → drop part ((take part xs ++ ys) ++ zs) ≡ ys ++ zs
drop-forgot part xs ys zs le =
    ap (drop part) (append_assoc (take part xs) ys zs) ∙ ap (λ n. drop n (take part xs ++ (ys ++ zs))) (sym (length-take-le part xs le)) ∙ drop-append_seam (take part xs) (ys ++ zs)

-- the events of the attempt under way after one more
saw-events : (op : Option Op) (v : Vp) (e : Event) → IsOrdered v → drop (saw op v e).first (saw op v e).seen ≡ drop v.first v.seen ++ e ∷ []
saw-events op v (events.Check generation) is = drop-forgot v.part v.seen (drop v.first v.seen) (events.Check generation ∷ []) is.part
saw-events op v e is = drop-append-le v.first v.seen (e ∷ []) is.first

saw-tree : (op : Option Op) (v : Vp) (e : Event) → tree_of (origin_of (saw op v e)) op ≡ tree_of (origin_of v) op
saw-tree op v (events.Check generation) = refl
saw-tree op v e = refl

saw-heard : (op : Option Op) (v : Vp) (e : Event) → (saw op v e).heard ≡ v.heard
saw-heard op v (events.Check generation) = refl
saw-heard op v e = refl

heard-within : (heard : Option Heard) (first : ℕ) (seen : List Event) → IfSome heard (λ h. h.after + first ≤ length seen) → IfSome heard (λ h. h.after ≤ length (map learned (drop first seen)))
heard-within None first seen le = tt
heard-within (Some h) first seen le = omega (arith, le, length-map (drop first seen) learned, length-drop first seen)

answers-more : {A : Type 0} (t : Tree A) (heard : Option Heard) (es : List Event) (e : Event) → IfSome heard (λ h. h.after ≤ length (map learned es)) → followed t heard (map learned (es ++ e ∷ [])) ≡ after (followed t heard (map learned es)) (learned e)
answers-more t heard es e le = ap (followed t heard) (map-append learned es (e ∷ [])) ∙ followed-append t heard (map learned es) (learned e) le

-- an event more, and one answer more
saw-rest : (op : Option Op) (v : Vp) (e : Event) → IsOrdered v → rest_of (saw op v e) op ≡ after (rest_of v op) (learned e)
saw-rest op v e is =
    let t = tree_of (origin_of v) op in
    let m = saw op v e in
    ap (λ u. followed u m.heard (map learned (drop m.first m.seen))) (saw-tree op v e)
    ∙ ap (λ h. followed t h (map learned (drop m.first m.seen))) (saw-heard op v e)
    ∙ ap (λ es. followed t v.heard (map learned es)) (saw-events op v e is)
    ∙ answers-more t v.heard (drop v.first v.seen) e (heard-within v.heard v.first v.seen is.heard)

-- what an event keeps, and that it is one more
record Sees (op : Option Op) (v n : Vp) : Type 0 where
  same : IsSameProcessor v n
  state : n.state ≡ v.state
  kept : n.op ≡ op
  ended : n.ended ≡ v.ended
  part : n.part ≤ length n.seen
  nearer : length n.seen + v.first ≡ length v.seen + n.first + 1

saw-sees : (op : Option Op) (v : Vp) (e : Event) → IsOrdered v → Sees op v (saw op v e)
saw-sees op v (events.Check generation) is =
    let part = is.part in let first = is.first in
    let long : length ((take v.part v.seen ++ drop v.first v.seen) ++ events.Check generation ∷ []) + v.first ≡ length v.seen + v.part + 1 =
    omega (arith, length-append (take v.part v.seen ++ drop v.first v.seen) (events.Check generation ∷ []), length-append (take v.part v.seen) (drop v.first v.seen), length-take-le v.part v.seen part, length-drop v.first v.seen) in
    record { same = record { number = refl; limits = refl; zero_length = refl; one_length = refl; started = λ h. h }; state = refl; kept = refl; ended = refl; part = omega arith; nearer = long }
saw-sees op v e is =
    let part = is.part in let first = is.first in let long = length-append v.seen (e ∷ []) in
    record { same = record { number = refl; limits = refl; zero_length = refl; one_length = refl; started = λ h. h }; state = refl; kept = refl; ended = refl; part = omega arith; nearer = omega arith }

again-rests : (v : Vp) (o : Outcome) (ending : Option Ending) → v.part ≤ length v.seen → IsAtRest (marked_or_ended v o ending)
again-rests v o None le = refl
again-rests v o (Some ending) le =
    sym (length-take-le v.part v.seen le)

came_to-rests : (what : What) (v : Vp) (o : Outcome) → v.part ≤ length v.seen → IsAtRest (came_to what v o)
came_to-rests (Again grant) v o le = again-rests v o _ le
came_to-rests _ v o le = refl

module _ (limits : Limits) (p : ℕ) (op : Option Op) where
  -- a tree is done from this processor on
  abbrev does : PartitionState → Vp → List ℕ → Tree Outcome → Did (List ℕ)
  does ps v words t = does_all (answer_of limits p) (words_by limits p) (words_by_entries limits) ps op v words t

  does-step : (ps : PartitionState) (s : WordStep) (k : ℕ → Tree Outcome) (v : Vp) (words : List ℕ) (x : ℕ) → x ≡ answer_of limits p words s
      → does ps (saw op v (made s x)) (words_by limits p words s) (k x) ≡ does ps v words (Asks s k)
  does-step ps s k v words x e = rw e refl

  -- a step that was answered so
  module _ (s : WordStep) (k : ℕ → Tree Outcome) (v n : Vp) (words : List ℕ) (x : ℕ) (rest : rest_of v op ≡ Asks s k) (is : IsOrdered v) (learns : learned (made s x) ≡ x) (told : x ≡ answer_of limits p words s) where
    abbrev m : Vp
    m = saw op v (made s x)

    goes_on : rest_of m op ≡ after (rest_of v op) x
    goes_on = saw-rest op v (made s x) is ∙ ap (λ y. after (rest_of v op) y) learns

    left : after (rest_of v op) x ≡ k x
    left = ap (λ t. after t x) rest

    still-sound : Sound limits IsOver (reverse (drop v.first v.seen)) (Asks s k) → StaysSound limits op m
    still-sound h =
        let events : reverse (drop m.first m.seen) ≡ made s x ∷ reverse (drop v.first v.seen) = ap reverse (saw-events op v (made s x) is) ∙ reverse-append (drop v.first v.seen) (made s x ∷ []) in
        subst (λ es. Sound limits IsOver es (rest_of m op)) (sym events) (subst (Sound limits IsOver (made s x ∷ reverse (drop v.first v.seen))) (sym (goes_on ∙ left)) (h.1 x))

    moved : n ≡ m → Moves limits p op v n words (words_by limits p words s)
    moved new =
        let sees = saw-sees op v (made s x) is in
        rw new (record {
          answer = x;
          goes_on = goes_on;
          same_end = λ ps. ap (does ps m (words_by limits p words s)) (goes_on ∙ left) ∙ does-step ps s k v words x told ∙ ap (does ps v words) (sym rest);
          same = sees.same;
          state = sees.state;
          kept = sees.kept;
          ended = sees.ended;
          heard = saw-heard op v (made s x);
          nearer = sees.nearer;
          sound = λ h. still-sound (subst (Sound limits IsOver (reverse (drop v.first v.seen))) rest h);
        })

    stopped : (o : Outcome) → k x ≡ Ends o → n ≡ settled (Ends o) m → Stops limits p op v n words (words_by limits p words s)
    stopped o end new = record {
      answer = x;
      outcome = o;
      last = m;
      ends = left ∙ end;
      marked = new;
      heard = saw-heard op v (made s x);
      does = λ ps. ap (does ps v words) rest ∙ sym (does-step ps s k v words x told) ∙ ap (does ps m (words_by limits p words s)) end ∙ ap (λ u. record { vp = u; words = words_by limits p words s; served = [] }) (sym new);
      rests = rw new (came_to-rests o.what m o (saw-sees op v (made s x) is).part);
    }

  stopped-at-once : (o : Outcome) (v n : Vp) (words : List ℕ) → rest_of v op ≡ Ends o → IsOrdered v → n ≡ settled (Ends o) v → Stops limits p op v n words words
  stopped-at-once o v n words rest is new = record {
    answer = 0;
    outcome = o;
    last = v;
    ends = ap (λ t. after t 0) rest;
    marked = new;
    heard = refl;
    does = λ ps. ap (does ps v words) rest ∙ ap (λ u. record { vp = u; words = words; served = [] }) (sym new);
    rests = rw new (came_to-rests o.what v o is.part);
  }

pub same-some : {A : Type 0} (a b : A) → Some a ≡ Some b → a ≡ b
same-some a b e = cc

-- two ways to a fabric that tells its words, of the same processor
pub record Tells (limits : Limits) (p : ℕ) (before now : Seat) (f g : Fabric) : Type 0 where
  pub told : before.told ≡ Some f
  pub tells : now.told ≡ Some g
  pub limits_same : before.limits ≡ limits
  pub number : before.vp ≡ p

-- a step at such a way
pub record Stepped (limits : Limits) (p : ℕ) (s : WordStep) (x : ℕ) (phase : Phase) (f g : Fabric) : Type 0 where
  pub answer : x ≡ answer_of limits p f.words s
  pub words : g.words ≡ words_by limits p f.words s
  pub phases : g.phases ≡ slice_set f.phases p (phase_after phase s x)
  pub turns : g.turns ≡ f.turns
  pub cleared : g.cleared ≡ f.cleared

pub makes-told : (limits : Limits) (p : ℕ) (s : WordStep) (x : ℕ) (before now : Seat) (f g : Fabric) → Tells limits p before now f g → Makes before s x now → Stepped limits p s x before.phase f g
makes-told limits p s x before now f g t makes =
    let answer : x ≡ answer_of before.limits before.vp f.words s = rw t.told at makes.answer in
    let known : Some g ≡ Some (fabric_after before.limits before.vp (phase_after before.phase s x) s f) =
    sym t.tells ∙ ap (λ (z : Seat). z.told) makes.after ∙ ap (told_after before.limits before.vp (phase_after before.phase s x) s) t.told in
    let is = same-some g _ known in
    record {
      answer = rw (t.limits_same, t.number) at answer;
      words = ap (λ (z : Fabric). z.words) is ∙ rw (t.limits_same, t.number) refl;
      phases = ap (λ (z : Fabric). z.phases) is ∙ ap (λ q. slice_set f.phases q (phase_after before.phase s x)) t.number;
      turns = ap (λ (z : Fabric). z.turns) is;
      cleared = ap (λ (z : Fabric). z.cleared) is;
    }

leads-moves : (turn : CpuTurn) (limits : Limits) (p : ℕ) (op : Option Op) (v n : Vp) (words now : List ℕ) → turn ≡ turns.Moved → Moves limits p op v n words now → Leads turn limits p op v n words now
leads-moves turn limits p op v n words now e moves = rw e moves

leads-stops : (what : What) (ended : Option Ending) (turn : CpuTurn) (limits : Limits) (p : ℕ) (op : Option Op) (v n : Vp) (words now : List ℕ) → turn ≡ after_mark what ended → Stops limits p op v n words now → Leads turn limits p op v n words now
leads-stops what (Some ending) turn limits p op v n words now e stops = rw e stops
leads-stops (Again grant) None turn limits p op v n words now e stops = rw e stops
leads-stops what None turn limits p op v n words now e stops = rw e stops

leads-hands : (q : Request) (turn : CpuTurn) (limits : Limits) (p : ℕ) (op : Option Op) (v n : Vp) (words now : List ℕ) → turn ≡ turns.Wants q → Hands q op v n words now → Leads turn limits p op v n words now
leads-hands q turn limits p op v n words now e hands = rw e hands

-- the turns and the cleared processors are as they were
pub record SameParts (f g : Fabric) : Type 0 where
  pub turns : g.turns ≡ f.turns
  pub cleared : g.cleared ≡ f.cleared

module _ (limits : Limits) (p : ℕ) (op : Option Op) (v n : Vp) (before now : Seat) (f g : Fabric) (turn : CpuTurn) (t : Tells limits p before now f g) (is : IsOrdered v) where
  -- where a step has led to this rest
  leads-to : (s : WordStep) (k : ℕ → Tree Outcome) (x : ℕ) (rest : Tree Outcome) → rest_of v op ≡ Asks s k → learned (made s x) ≡ x → x ≡ answer_of limits p f.words s → k x ≡ rest → n ≡ settled rest (saw op v (made s x)) → turn ≡ answer_at rest n.ended
      → Leads turn limits p op v n f.words (words_by limits p f.words s)
  leads-to s k x (Ends o) asks learns told here new answer =
      leads-stops o.what n.ended turn limits p op v n f.words _ answer (stopped limits p op s k v n f.words x asks is learns told o here new)
  leads-to s k x (Asks s' k') asks learns told here new answer =
      leads-moves turn limits p op v n f.words _ answer (moved limits p op s k v n f.words x asks is learns told new)
  leads-to s k x (Wants q k') asks learns told here new answer =
      leads-moves turn limits p op v n f.words _ answer (moved limits p op s k v n f.words x asks is learns told new)

  same-fabric : now ≡ before → g ≡ f
  same-fabric e = same-some g f (sym t.tells ∙ ap (λ (z : Seat). z.told) e ∙ t.told)

  leads-at : (tree : Tree Outcome) → rest_of v op ≡ tree → TurnsBy tree op v before n now turn → Leads turn limits p op v n f.words g.words
  leads-at (Ends o) rest turned =
      rw (same-fabric turned.0) (leads-stops o.what n.ended turn limits p op v n f.words f.words turned.2 (stopped-at-once limits p op o v n f.words rest is turned.1))
  leads-at (Asks s k) rest turned =
      let x = turned.0 in
      let step = makes-told limits p s x before now f g t turned.1 in
      rw step.words (leads-to s k x (k x) rest turned.1.learns step.answer refl turned.2 turned.3)
  leads-at (Wants q k) rest turned =
      rw (same-fabric turned.0) (leads-hands q turn limits p op v n f.words f.words turned.2 (record { more = k; left = rest; asks = turned.1; stays = refl }))

  -- a turn leads on, to the end or to a request
  pub turn-leads : TurnsBy (rest_of v op) op v before n now turn → (words : List ℕ) → g.words ≡ words → Leads turn limits p op v n f.words words
  turn-leads turned words e = rw (← e) (leads-at (rest_of v op) refl turned)

  phases-at : (tree : Tree Outcome) → TurnsBy tree op v before n now turn → (q : ℕ) → q ≢ p → get_or g.phases q Idle ≡ get_or f.phases q Idle
  phases-at (Ends o) turned q apart = rw (same-fabric turned.0) refl
  phases-at (Asks s k) turned q apart =
      let step = makes-told limits p s turned.0 before now f g t turned.1 in
      ap (λ phases. get_or phases q Idle) step.phases ∙ get_or-set_other f.phases p q _ Idle apart
  phases-at (Wants r k) turned q apart = rw (same-fabric turned.0) refl

  -- no other processor's phase changes
  pub turn-phases : TurnsBy (rest_of v op) op v before n now turn → (phases : List Phase) → g.phases ≡ phases → (q : ℕ) → q ≢ p → get_or phases q Idle ≡ get_or f.phases q Idle
  turn-phases turned phases e q apart = rw (← e) (phases-at (rest_of v op) turned q apart)

  same-parts : now ≡ before → SameParts f g
  same-parts e = let same = same-fabric e in record { turns = ap (λ (z : Fabric). z.turns) same; cleared = ap (λ (z : Fabric). z.cleared) same }

  parts-at : (tree : Tree Outcome) → TurnsBy tree op v before n now turn → SameParts f g
  parts-at (Ends o) turned = same-parts turned.0
  parts-at (Asks s k) turned = let step = makes-told limits p s turned.0 before now f g t turned.1 in record { turns = step.turns; cleared = step.cleared }
  parts-at (Wants r k) turned = same-parts turned.0

  -- a processor neither turns nor clears
  pub turn-parts : TurnsBy (rest_of v op) op v before n now turn → SameParts f g
  turn-parts turned = parts-at (rest_of v op) turned

  agrees-at : (tree : Tree Outcome) → before.phase ≡ get_or f.phases p Idle → p < length f.phases → busy_at limits p < length f.words → TurnsBy tree op v before n now turn → Agrees limits f → Agrees limits g
  agrees-at (Ends o) phase low long turned agrees = rw (same-fabric turned.0) agrees
  agrees-at (Asks s k) phase low long turned agrees =
      let step = makes-told limits p s turned.0 before now f g t turned.1 in
      step-agrees limits p s turned.0 f g low long step.words (step.phases ∙ ap (λ ph. slice_set f.phases p (phase_after ph s turned.0)) phase) agrees
  agrees-at (Wants r k) phase low long turned agrees = rw (same-fabric turned.0) agrees

  -- a busy word is 0 in no access, as before
  pub turn-agrees : before.phase ≡ get_or f.phases p Idle → p < length f.phases → busy_at limits p < length f.words → TurnsBy (rest_of v op) op v before n now turn → Agrees limits f → Agrees limits g
  turn-agrees phase low long turned agrees = agrees-at (rest_of v op) phase low long turned agrees
