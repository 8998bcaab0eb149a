-- A processor in an attempt, and one whose attempt has come to its end.
use Rattle.std.proofs.Common.{◌≡◌, ◌≢◌, ◌∙◌, Bool, true, false, length, drop, refl, sym, ap, subst}
use Rattle.std.proofs.Common.{arith, Option, Some, None, length-append, length-drop}
use Rattle.std.specs.List.{All}
use Rattle.vsm_core.specs.declared.mark.Ending.{Ending}
use Rattle.vsm_core.specs.declared.mark.Grant.{Grant}
use Rattle.vsm_core.specs.Outcomes.{Origin, Outcome, fills}
use Rattle.vsm_core.specs.Processor.{Vp, IsShort, marked, rest_of, settled}
use Rattle.vsm_core.specs.Tree.{Tree, Ends}
use Rattle.attempt.specs.declared.stage.Stage.TheVariants as stages
use Rattle.attempt.specs.declared.under.Under.{Under}
use Rattle.attempt.specs.Comings.{Comes}
use Rattle.attempt.specs.Heads.{GoesOn}
use Rattle.attempt.specs.Paths.{fill_of}
use Rattle.attempt.specs.Rests.{DecidedIs, IsAt, rest_of as stage_left}
use Rattle.attempt.specs.Results.{again_by, result_of}
use Rattle.attempt.specs.Views.{VpView, origin_of}
use Rattle.cpu.specs.declared.cpu_turn.CpuTurn.TheVariants.{Moved}
use Rattle.cpu.specs.declared.log.Log.{Log}
use Rattle.cpu.specs.declared.processor.Cpu.TheInside.{Inside}
use Rattle.cpu.specs.Ends.{SpinsInVain}
use Rattle.cpu.specs.Logs.{HasRoom, MayMark}
use Rattle.cpu.specs.Marks.{IsMarked}
use Rattle.cpu.specs.Sound.{IsSound, view_of}
use Rattle.cpu.specs.Turns.{IsActing, answer_at}
use Rattle.cpu.specs.UnderWay.{Means, Way, op_of}
use Rattle.cpu.proofs.Ends.{came-marked, result-again, result-stays, spin-anew, vain_outcome}
use Rattle.cpu.proofs.Leading.{heard-again, tidy-end}
use Rattle.cpu.proofs.Lists.{one-new}

-- a processor in an attempt
pub record InAttempt (i : Inside) : Type 0 where
  pub is : IsActing (view_of i)
  pub acting : i.acting ≡ true
  pub way : Way i.state i.under i.heard i.log
  pub left : rest_of (view_of i) (op_of i.acting i.under) ≡ stage_left (origin_of i.state) i.under

acting-on : (b : Bool) (u : Under) → op_of b u ≢ None → b ≡ true
acting-on true u some = refl
acting-on false u some = absurd (some refl)

pub in-attempt : (i : Inside) (v : Vp) → view_of i ≡ v → IsSound i → IsActing v → InAttempt i
in-attempt i v e sound acts =
    let is : IsActing (view_of i) = rw (← e) at acts in
    let on = acting-on i.acting i.under is.under in
    let way : Way i.state i.under i.heard i.log =
    subst (λ b. Means b i.state i.under i.heard i.log) on (sound.means is.is.started) in
    record { is = is; acting = on; way = way; left = rw on (sym way.rest) }

stays : (from : Origin) (u : Under) (t : Tree Outcome) (v : Vp) → GoesOn from u t true
    → (v ≡ settled t v) × ((ended : Option Ending) → Moved ≡ answer_at t ended)
stays from u (Ends o) v h = absurd h
stays from u _ v h = (refl, λ ended. refl)

-- where it goes on nothing is settled
pub goes-so : (i : Inside) → InAttempt i
    → GoesOn (origin_of i.state) i.under (stage_left (origin_of i.state) i.under) true
    → (view_of i ≡ settled (rest_of (view_of i) (op_of i.acting i.under)) (view_of i))
    × ((ended : Option Ending) → Moved ≡ answer_at (rest_of (view_of i) (op_of i.acting i.under)) ended)
goes-so i on goes = rw on.left (stays (origin_of i.state) i.under _ (view_of i) goes)

over-on : (from : Origin) (u : Under) (t : Tree Outcome) → GoesOn from u t false → t ≡ Ends (result_of from u)
over-on from u (Ends o) h = ap Ends h
over-on from u _ h = absurd h

pub decided-at : (i : Inside) → InAttempt i → i.under.stage ≡ stages.End
    → DecidedIs (origin_of i.state) i.under i.under.decided
decided-at i on e = subst (IsAt (origin_of i.state) i.under) e on.way.is

-- its attempt is at its end
pub record AtEnd (i : Inside) : Type 0 where
  pub on : InAttempt i
  pub over : stage_left (origin_of i.state) i.under ≡ Ends (result_of (origin_of i.state) i.under)
  pub ends : rest_of (view_of i) (op_of i.acting i.under) ≡ Ends (result_of (origin_of i.state) i.under)
  pub may : MayMark i.log

pub at-end : (i : Inside) (v : Vp) → view_of i ≡ v → IsSound i → IsActing v
    → GoesOn (origin_of i.state) i.under (stage_left (origin_of i.state) i.under) false → AtEnd i
at-end i v e sound acts goes =
    let on = in-attempt i v e sound acts in
    let over = over-on (origin_of i.state) i.under _ goes in
    record {
      on = on;
      over = over;
      ends = on.left ∙ over;
      may = record {
        has = sound.has;
        going = on.is.is.going;
        fresh = on.is.fresh;
        tidy = tidy-end i.log.part i.log.first _ _ over on.way.fine.tidy;
      };
    }

-- a spin was in vain
pub vain : (i : Inside) (grant : Grant) → AtEnd i → again_by i.under i.under.op i.under.decided ≡ Some grant
    → SpinsInVain (view_of i) grant
vain i grant end some =
    let from = origin_of i.state in
    let same = ap Ends (result-again from i.under grant some) in
    let fine = rw (end.over ∙ same) at end.on.way.fine in
    let led = sym end.on.way.rest ∙ end.over ∙ same in
    record {
      does = fills from.state.active (Some (fill_of i.under.path.fill));
      ends = end.ends ∙ same;
      anew = rw end.on.acting (spin-anew from i.under i.under.op i.under.decided i.heard _ grant some led);
      tidy = end.may.tidy;
      few = omega (arith, fine.counts, length-drop i.log.first i.log.seen.0);
      heard = heard-again i.heard _ _ (vain_outcome from i.under grant) grant refl refl fine.hears;
      idle = fine.sound;
    }

-- the processor after its mark
abbrev pub marked_inside : Inside → VpView → Log → Inside
marked_inside i n log = record {
  state = n;
  lengths = i.lengths;
  started = i.started;
  under = i.under;
  acting = false;
  owes = i.owes;
  heard = None;
  log = log;
}

marked-so : (i : Inside) (n : VpView) (o : Outcome) (log : Log) → i.log.again ≡ false → Comes i.state n o.what o
    → IsMarked i.lengths i.state.state n o.what i.log log → view_of (marked_inside i n log) ≡ marked (view_of i) o
marked-so i n o log fresh comes is = rw (is.log, comes.limits, comes.number, comes.state, comes.controllers, fresh) refl

module _ (i : Inside) (n : VpView) (log : Log) (end : AtEnd i)
    (comes : Comes i.state n (result_of (origin_of i.state) i.under).what (result_of (origin_of i.state) i.under))
    (is : IsMarked i.lengths i.state.state n (result_of (origin_of i.state) i.under).what i.log log) where
  pub settled-so : again_by i.under i.under.op i.under.decided ≡ None
      → view_of (marked_inside i n log) ≡ settled (rest_of (view_of i) (view_of i).op) (view_of i)
  settled-so none =
      let o = result_of (origin_of i.state) i.under in
      marked-so i n o log end.on.is.fresh comes is ∙ sym (came-marked o.what (view_of i) o
      (result-stays (origin_of i.state) i.under none))
      ∙ ap (λ t. settled t (view_of i)) (sym end.ends)

  pub marked-sound : IsSound i → HasRoom log → IsSound (marked_inside i n log)
  marked-sound sound has =
      let on = end.on.is in
      let notes = rw on.fresh at sound.notes in
      record {
        made = record {
          vp = rw (comes.limits, comes.number) sound.made.vp;
          vps = rw comes.limits sound.made.vps;
          budget = rw (is.log, comes.limits) sound.made.budget;
        };
        has = has;
        notes = rw (is.log, on.fresh, length-append, comes.limits) (omega (arith, notes, comes.room));
        running = λ _. is.goes;
        owing = λ owes. cc;
        waits = λ off. refl;
        waiting = λ off. cc;
        means = λ _. rw is.log (refl, refl, refl);
      }

  -- its mark has no more events than it may have
  pub short-so : All IsShort (drop (length i.log.marks.0) log.marks.0)
  short-so =
      let few = rw end.over at end.on.way.fine.counts in
      rw is.log (one-new IsShort i.log.marks.0 _ (omega (
        arith,
        few,
        end.may.tidy,
        length-drop i.log.first i.log.seen.0,
      )))
