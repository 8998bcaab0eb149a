use Rattle.std.proofs.Common.{◌≡◌, ◌+◌, ℕ, true, List, length, refl, sym, ap, subst, ◌∙◌}
use Rattle.vsm_core.specs.Entries.{words_by_entries}
use Rattle.vsm_core.specs.Processor.{Vp, Did, operation_at}
use Rattle.vsm_core.specs.Served.{answer, block}
use Rattle.vsm_core.specs.State.{State}
use Rattle.cpu.specs.Turns.{asked_next, turn_of}
use Rattle.vsm_run.specs.Serving.{AddsFew, Agrees, IsDone, IsFree, IsPacedBy, NoneBusy}
use Rattle.vsm_run.specs.Wholes.{Hands, Moves, Leads, does_rest}
use Rattle.vsm_run.proofs.Finishes.{IsFinished, Phases, on-at-first, made-rest, led, still-on, still-paced, stops-finished, now-free, none-busy, asks-by, asks-room, asks-turn, ends-pace, heard-on, heard-finished}
use Rattle.vsm_run.proofs.Wholes.{SameParts}
use Rattle.vsm_run.proofs.acting.attempt_at.Goals as goal

pub turns-init : goal.turns-init
turns-init c = record {
  on = on-at-first c.args.program.now c.args.fabric.now.limits c.args.cpu.now c.args.fabric.now.fabric c.args.partition.now c.requires.fits c.requires.place c.requires.going c.requires.idle c.requires.room c.requires.agrees c.requires.paced;
  limits = refl;
}

pub turns-preserved-in-Moved : goal.turns-preserved-in-Moved
turns-preserved-in-Moved c =
    let program = c.args.program.now in
    let start = c.args.cpu.now in
    let limits = c.args.fabric.now.limits in
    let op = operation_at program start.state in
    let words = c.args.fabric.now.fabric.words in
    let before = c.args.partition.now in
    let now = c.turns.partition in
    let v = c.turns.cpu in
    let n = c.turn_at.new.cpu in
    let fabric = c.turns.fabric.fabric in
    let turned = c.turn_at.new.fabric.fabric in
    let on = c.turns.invariant.on in
    let same = ap (λ (s : State). operation_at program s) on.state in
    let agrees : Agrees limits turned = subst (λ l. Agrees l fabric → Agrees l turned) c.turns.invariant.limits c.turn_at.ensures.agrees on.agrees in
    let parts : SameParts fabric turned = record { turns = c.turn_at.ensures.turns; cleared = c.turn_at.ensures.cleared } in
    let leads = led op start words before limits v fabric now on (operation_at program v.state) c.turns.fabric.limits n turned.words (turn_of c.turn_at.result (asked_next n)) c.turns.invariant.limits same c.turn_at.ensures.leads in
    let moves : Moves limits start.number op v n fabric.words turned.words = subst (λ pace. Leads (turn_of pace (asked_next n)) limits start.number op v n fabric.words turned.words) c.in-Moved.is leads in
    record {
      on = still-on op start words before limits v fabric now on n turned moves c.in-Moved.ensures.owes (record { own = c.turn_at.ensures.phase; others = c.turn_at.ensures.others }) agrees parts;
      limits = c.turn_at.ensures.limits ∙ c.turns.invariant.limits;
    }

pub turn_at-requires-clause-started : goal.turn_at-requires-clause-started
turn_at-requires-clause-started c = c.turns.invariant.on.same.started c.requires.started

pub ask_at-goes_on-requires-clause-serves : goal.ask_at-goes_on-requires-clause-serves
ask_at-goes_on-requires-clause-serves c = λ q asks slice.
    let program = c.args.program.now in
    let start = c.args.cpu.now in
    let limits = c.args.fabric.now.limits in
    let op = operation_at program start.state in
    let words = c.args.fabric.now.fabric.words in
    let before = c.args.partition.now in
    let now = c.turns.partition in
    let v = c.turns.cpu in
    let n = c.turn_at.new.cpu in
    let fabric = c.turns.fabric.fabric in
    let turned = c.turn_at.new.fabric.fabric in
    let on = c.turns.invariant.on in
    let same = ap (λ (s : State). operation_at program s) on.state in
    let agrees : Agrees limits turned = subst (λ l. Agrees l fabric → Agrees l turned) c.turns.invariant.limits c.turn_at.ensures.agrees on.agrees in
    let parts : SameParts fabric turned = record { turns = c.turn_at.ensures.turns; cleared = c.turn_at.ensures.cleared } in
    let leads = led op start words before limits v fabric now on (operation_at program v.state) c.turns.fabric.limits n turned.words (turn_of c.turn_at.result (asked_next n)) c.turns.invariant.limits same c.turn_at.ensures.leads in
    let lims : c.turn_at.new.fabric.limits ≡ limits = c.turn_at.ensures.limits ∙ c.turns.invariant.limits in
    let hands : Hands q op v n fabric.words turned.words = subst (λ turn. Leads turn limits start.number op v n fabric.words turned.words) (asks-turn c.turn_at.result (asked_next n) q c.in-Wants.is asks) leads in
    record {
      free = subst (λ l. IsFree l now) (sym lims) (now-free op start words before limits v fabric now on q n turned.words hands c.requires.free);
      by = asks-by op start words before limits v fabric now on q n turned.words hands c.requires.place.low c.requires.free;
      room = asks-room op start words before limits v fabric now on q n turned.words hands slice;
      idle = none-busy op start words before limits v fabric now on q n turned.words hands c.turn_at.new.fabric.limits turned lims agrees (record { own = c.turn_at.ensures.phase; others = c.turn_at.ensures.others });
    }

pub ask_at-goes_on-requires-clause-paced : goal.ask_at-goes_on-requires-clause-paced
ask_at-goes_on-requires-clause-paced c =
    let limits = c.args.fabric.now.limits in
    let now = c.turns.partition in
    let fabric = c.turns.fabric.fabric in
    let turned = c.turn_at.new.fabric.fabric in
    let parts : SameParts fabric turned = record { turns = c.turn_at.ensures.turns; cleared = c.turn_at.ensures.cleared } in
    let lims : c.turn_at.new.fabric.limits ≡ limits = c.turn_at.ensures.limits ∙ c.turns.invariant.limits in
    subst (λ l. IsPacedBy now (record { limits = l; fabric = turned })) (sym lims) (still-paced limits now fabric turned parts c.turns.invariant.on.paced)

pub turns-preserved : goal.turns-preserved
turns-preserved c =
    let program = c.args.program.now in
    let start = c.args.cpu.now in
    let limits = c.args.fabric.now.limits in
    let op = operation_at program start.state in
    let words = c.args.fabric.now.fabric.words in
    let before = c.args.partition.now in
    let now = c.turns.partition in
    let v = c.turns.cpu in
    let n = c.turn_at.new.cpu in
    let fabric = c.turns.fabric.fabric in
    let turned = c.turn_at.new.fabric.fabric in
    let on = c.turns.invariant.on in
    let same = ap (λ (s : State). operation_at program s) on.state in
    let agrees : Agrees limits turned = subst (λ l. Agrees l fabric → Agrees l turned) c.turns.invariant.limits c.turn_at.ensures.agrees on.agrees in
    let parts : SameParts fabric turned = record { turns = c.turn_at.ensures.turns; cleared = c.turn_at.ensures.cleared } in
    let leads = led op start words before limits v fabric now on (operation_at program v.state) c.turns.fabric.limits n turned.words (turn_of c.turn_at.result (asked_next n)) c.turns.invariant.limits same c.turn_at.ensures.leads in
    let lims : c.turn_at.new.fabric.limits ≡ limits = c.turn_at.ensures.limits ∙ c.turns.invariant.limits in
    let h = c.ask_at-goes_on.ensures.asked in
    let q = h.request in
    let hands : Hands q op v n fabric.words turned.words = subst (λ turn. Leads turn limits start.number op v n fabric.words turned.words) (asks-turn c.turn_at.result (asked_next n) q c.in-Wants.is h.asks) leads in
    let now_started : n.started ≡ true = ap (λ (u : Vp). u.started) hands.asks ∙ on.same.started c.requires.started in
    let m = c.ask_at-goes_on.new.cpu in
    let part = c.ask_at-goes_on.new.partition in
    let next = c.ask_at-goes_on.new.fabric.fabric in
    let lims_next : c.ask_at-goes_on.new.fabric.limits ≡ limits = c.ask_at-goes_on.ensures.limits ∙ lims in
    let words_next = h.steps ∙ ap (λ l. words_by_entries l turned.words (block now.state q)) lims in
    let idle_next : NoneBusy limits next.words = subst (λ l. NoneBusy l next.words) lims c.ask_at-goes_on.ensures.idle in
    let agrees_next : Agrees limits next = λ p low idle. idle_next p low in
    let paced_next : IsPacedBy part (record { limits = limits; fabric = next }) = subst (λ l. IsPacedBy part (record { limits = l; fabric = next })) lims_next c.ask_at-goes_on.ensures.paced in
    let stays : next.phases ≡ turned.phases = c.ask_at-goes_on.ensures.phases in
    let phases : Phases v.number m fabric.phases next.phases = rw stays (record { own = c.turn_at.ensures.phase ∙ sym c.ask_at-goes_on.ensures.phase; others = c.turn_at.ensures.others }) in
    record {
      on = heard-on op start words before limits v fabric now on q n turned.words hands (answer now.state q) m h.turn part refl h.slice h.serves (h.accepts now_started) next (h.moves c.if-not-goes_on.false) (h.left now_started) c.turn_at.ensures.first words_next phases agrees_next paced_next;
      limits = lims_next;
    }

pub returns-then-not-goes_on : goal.returns-then-not-goes_on
returns-then-not-goes_on c =
    let program = c.args.program.now in
    let start = c.args.cpu.now in
    let limits = c.args.fabric.now.limits in
    let op = operation_at program start.state in
    let words = c.args.fabric.now.fabric.words in
    let before = c.args.partition.now in
    let now = c.turns.partition in
    let v = c.turns.cpu in
    let n = c.turn_at.new.cpu in
    let fabric = c.turns.fabric.fabric in
    let turned = c.turn_at.new.fabric.fabric in
    let on = c.turns.invariant.on in
    let same = ap (λ (s : State). operation_at program s) on.state in
    let agrees : Agrees limits turned = subst (λ l. Agrees l fabric → Agrees l turned) c.turns.invariant.limits c.turn_at.ensures.agrees on.agrees in
    let parts : SameParts fabric turned = record { turns = c.turn_at.ensures.turns; cleared = c.turn_at.ensures.cleared } in
    let leads = led op start words before limits v fabric now on (operation_at program v.state) c.turns.fabric.limits n turned.words (turn_of c.turn_at.result (asked_next n)) c.turns.invariant.limits same c.turn_at.ensures.leads in
    let lims : c.turn_at.new.fabric.limits ≡ limits = c.turn_at.ensures.limits ∙ c.turns.invariant.limits in
    let h = c.ask_at-goes_on.ensures.asked in
    let q = h.request in
    let hands : Hands q op v n fabric.words turned.words = subst (λ turn. Leads turn limits start.number op v n fabric.words turned.words) (asks-turn c.turn_at.result (asked_next n) q c.in-Wants.is h.asks) leads in
    let now_started : n.started ≡ true = ap (λ (u : Vp). u.started) hands.asks ∙ on.same.started c.requires.started in
    let m = c.ask_at-goes_on.new.cpu in
    let part = c.ask_at-goes_on.new.partition in
    let next = c.ask_at-goes_on.new.fabric.fabric in
    let lims_next : c.ask_at-goes_on.new.fabric.limits ≡ limits = c.ask_at-goes_on.ensures.limits ∙ lims in
    let words_next = h.steps ∙ ap (λ l. words_by_entries l turned.words (block now.state q)) lims in
    let idle_next : NoneBusy limits next.words = subst (λ l. NoneBusy l next.words) lims c.ask_at-goes_on.ensures.idle in
    let agrees_next : Agrees limits next = λ p low idle. idle_next p low in
    let paced_next : IsPacedBy part (record { limits = limits; fabric = next }) = subst (λ l. IsPacedBy part (record { limits = l; fabric = next })) lims_next c.ask_at-goes_on.ensures.paced in
    let stays : next.phases ≡ turned.phases = c.ask_at-goes_on.ensures.phases in
    let phases : Phases v.number m fabric.phases next.phases = rw stays (record { own = c.turn_at.ensures.phase ∙ sym c.ask_at-goes_on.ensures.phase; others = c.turn_at.ensures.others }) in
    let place = c.requires.place in
    let finished : IsFinished limits (does_rest limits start.number op before.state start words) m next before part =
    heard-finished op start words before limits v fabric now on q n turned.words hands (answer now.state q) m h.turn part refl h.slice h.serves (h.accepts now_started) next (h.ends c.if-not-goes_on.true) words_next phases agrees_next paced_next in
    let made = made-rest program limits start before.state words c.requires.started place.rests place.unheard place.limits_same in
    record {
      done = subst (λ (d : Did (List ℕ)). IsDone d m next.words before part) (sym made) finished.done;
      few = subst (λ (d : Did (List ℕ)). AddsFew (length before.state.vps + 11) d before part) (sym made) finished.few;
      limits = lims_next;
      rests = finished.rests;
      unheard = finished.unheard;
      idle = finished.idle;
      agrees = finished.agrees;
      paced = c.ask_at-goes_on.ensures.paced;
    }

pub returns-in_default : goal.returns-in_default
returns-in_default c =
    let program = c.args.program.now in
    let start = c.args.cpu.now in
    let limits = c.args.fabric.now.limits in
    let op = operation_at program start.state in
    let words = c.args.fabric.now.fabric.words in
    let before = c.args.partition.now in
    let now = c.turns.partition in
    let v = c.turns.cpu in
    let n = c.turn_at.new.cpu in
    let fabric = c.turns.fabric.fabric in
    let turned = c.turn_at.new.fabric.fabric in
    let on = c.turns.invariant.on in
    let same = ap (λ (s : State). operation_at program s) on.state in
    let agrees : Agrees limits turned = subst (λ l. Agrees l fabric → Agrees l turned) c.turns.invariant.limits c.turn_at.ensures.agrees on.agrees in
    let parts : SameParts fabric turned = record { turns = c.turn_at.ensures.turns; cleared = c.turn_at.ensures.cleared } in
    let leads = led op start words before limits v fabric now on (operation_at program v.state) c.turns.fabric.limits n turned.words (turn_of c.turn_at.result (asked_next n)) c.turns.invariant.limits same c.turn_at.ensures.leads in
    let lims : c.turn_at.new.fabric.limits ≡ limits = c.turn_at.ensures.limits ∙ c.turns.invariant.limits in
    let place = c.requires.place in
    let stops = ends-pace c.turn_at.result (asked_next n) limits start.number op v n fabric.words turned.words c.in_default.not-Moved c.in_default.not-Wants leads in
    let finished : IsFinished limits (does_rest limits start.number op before.state start words) n turned before now =
    stops-finished op start words before limits v fabric now on n turned stops (record { own = c.turn_at.ensures.phase; others = c.turn_at.ensures.others }) agrees parts in
    let made = made-rest program limits start before.state words c.requires.started place.rests place.unheard place.limits_same in
    record {
      done = subst (λ (d : Did (List ℕ)). IsDone d n turned.words before now) (sym made) finished.done;
      few = subst (λ (d : Did (List ℕ)). AddsFew (length before.state.vps + 11) d before now) (sym made) finished.few;
      limits = lims;
      rests = finished.rests;
      unheard = finished.unheard;
      idle = finished.idle;
      agrees = finished.agrees;
      paced = subst (λ l. IsPacedBy now (record { limits = l; fabric = turned })) (sym lims) finished.paced;
    }
