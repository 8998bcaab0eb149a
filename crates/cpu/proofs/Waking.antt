-- A processor that waits for its start, and how it starts.
use Rattle.std.proofs.lemmas.Bool.Decides.{nat_tests}
use Rattle.std.proofs.Common.{◌≡◌, ◌∙◌, ◌==◌, ℕ, arith, true, false, List, [], ◌∷◌, ◌++◌, length, refl}
use Rattle.std.proofs.Common.{None}
use Rattle.vsm_core.specs.declared.event.Event.{Event}
use Rattle.vsm_core.specs.declared.mark.What.TheVariants.{Started}
use Rattle.vsm_core.specs.declared.request.PartCall.TheVariants.{Fetch}
use Rattle.vsm_core.specs.declared.request.Reply.{Reply}
use Rattle.vsm_core.specs.Hypercalls.{asked_of}
use Rattle.vsm_core.specs.Outcomes.{Origin, Outcome}
use Rattle.vsm_core.specs.Processor.{Vp, answers_of, answered, origin_of, settled}
use Rattle.vsm_core.specs.Processor.{start_rest}
use Rattle.vsm_core.specs.Seat.{Seat, Makes}
use Rattle.vsm_core.specs.Steps.{made}
use Rattle.vsm_core.specs.declared.event.PendingWord.TheVariants.{Start}
use Rattle.vsm_core.specs.Starts.{start_outcome, start_tree}
use Rattle.vsm_core.specs.Tree.{Tree, Ends, Wants, Taking, followed}
use Rattle.cpu.specs.declared.cpu_turn.CpuTurn.{CpuTurn}
use Rattle.cpu.specs.declared.cpu_turn.CpuTurn.TheVariants as turns
use Rattle.cpu.specs.declared.cpu_turn.Pace.TheVariants as paces
use Rattle.cpu.specs.Turns.{AcceptsBy, IsWaiting, Wakes, after_mark, asked_next, turn_of}

-- what a start asks for, and what it comes to
abbrev pub fetches : Origin → Tree Outcome
fetches from = Wants (asked_of from Fetch) (λ reply. Ends (start_outcome from reply))

after-look : (from : Origin) (seen : List Event) → length seen ≡ 1
    → followed (start_tree from) None (answers_of seen 0) ≡ fetches from
after-look from [] e = cc
after-look from (x ∷ []) e = refl
after-look from (x ∷ y ∷ seen) e = cc

before-look : (from : Origin) (seen : List Event) → length seen ≡ 0
    → followed (start_tree from) None (answers_of seen 0) ≡ start_tree from
before-look from [] e = refl
before-look from (x ∷ seen) e = cc

-- what is left once it has taken its start word
pub looked-rest : (v : Vp) → IsWaiting v → length v.seen ≡ 1 → start_rest v ≡ fetches (origin_of v)
looked-rest v w one = rw (w.heard, w.first) (after-look (origin_of v) v.seen one)

waiting-rest : (v : Vp) → IsWaiting v → length v.seen ≡ 0 → start_rest v ≡ start_tree (origin_of v)
waiting-rest v w none = rw (w.heard, w.first) (before-look (origin_of v) v.seen none)

-- the turn that hands out the request
pub woken-asks : (v n : Vp) (seat : Seat) → v.started ≡ false → IsWaiting v → length v.seen ≡ 1
    → n ≡ record v { owes = true } → Wakes v seat n seat (turn_of paces.Wants (asked_next n))
woken-asks v n seat off w one en =
    let left = looked-rest v w one in
    rw (left, en, off, left) (refl, rw (w.op, w.again) refl, refl)

-- the turn that starts it
pub begun-by : (v : Vp) (reply : Reply) (n : Vp) (turn : CpuTurn) → IsWaiting v → length v.seen ≡ 1
    → n ≡ settled (Ends (start_outcome (origin_of v) reply)) (answered reply v) → turn ≡ after_mark Started n.ended
    → AcceptsBy (start_rest v) reply v n turn
begun-by v reply n turn w one en et = rw (looked-rest v w one) (en, et)

zero-off : (n : ℕ) → (n ≡ 0 → ⊥) → (n == 0) ≡ false
zero-off n some = grind (arith, nat_tests)

-- the turn that takes the start word, which was posted to
pub woken-looks : (v n : Vp) (before after : Seat) (bits : ℕ) → IsWaiting v → length v.seen ≡ 0
    → Makes before (Taking Start) bits after → (bits ≡ 0 → ⊥)
    → n ≡ record v { seen = v.seen ++ made (Taking Start) bits ∷ [] }
    → Wakes v before n after turns.Moved
woken-looks v n before after bits w none makes some e =
    rw (waiting-rest v w none) (bits, makes, rw (zero-off bits some) (e ∙ rw (w.op, w.again) refl, refl))
