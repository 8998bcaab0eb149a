use Rattle.std.proofs.Common.{◌≡◌, ◌+◌, false, length, sym, ap, subst, ◌∙◌}
use Rattle.vsm_core.specs.Entries.{words_by_entries}
use Rattle.vsm_core.specs.Processor.{Vp}
use Rattle.vsm_core.specs.Served.{block}
use Rattle.fabric.specs.Plain.{Plain}
use Rattle.vsm_run.specs.Rests.{AllIdle, IsAtRest}
use Rattle.vsm_run.specs.Serving.{IsPacedBy}
use Rattle.vsm_run.specs.Starting.{StartsBy, Takes}
use Rattle.vsm_run.proofs.Finishes.{still-paced}
use Rattle.vsm_run.proofs.Starting.{starts-done, starts-few, takes-none, waits-done, waits-few}
use Rattle.vsm_run.proofs.acting.start_at.Goals as goal

pub returns-in_default : goal.returns-in_default
returns-in_default c =
    let program = c.args.program.now in
    let v = c.args.cpu.now in
    let limits = c.args.fabric.now.limits in
    let fabric = c.args.fabric.now.fabric in
    let before = c.args.partition.now in
    let n = c.take_at.new.cpu in
    let last = c.take_at.new.fabric.fabric in
    let did = c.take_at.ensures in
    let place = c.requires.place in
    let none = takes-none c.take_at.result limits v n fabric.words last.words c.in_default.not-Moved did.takes in
    record {
      done = waits-done program limits v before.state fabric.words c.requires.waits place.limits_same n last.words before none;
      few = waits-few program limits v before.state fabric.words c.requires.waits place.limits_same (length before.state.vps + 11) before none.none;
      limits = did.limits;
      rests = subst IsAtRest (sym none.same) place.rests;
      unheard = ap (λ (u : Vp). u.heard) none.same ∙ place.unheard;
      idle = subst AllIdle (sym did.phases) c.requires.idle;
      agrees = did.agrees c.requires.agrees;
      paced = subst (λ l. IsPacedBy before (record { limits = l; fabric = last })) (sym did.limits) (still-paced limits before fabric last (record { turns = did.turns; cleared = did.cleared }) c.requires.paced);
    }

pub returns-clause-done : goal.returns-clause-done
returns-clause-done c =
    let program = c.args.program.now in
    let v = c.args.cpu.now in
    let limits = c.args.fabric.now.limits in
    let words = c.args.fabric.now.fabric.words in
    let before = c.args.partition.now in
    let place = c.requires.place in
    let m = c.take_at.new.cpu in
    let n = c.fetch_at-request.new.cpu in
    let q = c.fetch_at-request.result in
    let took : Plain = c.take_at.new.fabric in
    let takes : Takes limits v m words took.fabric.words = subst (λ turn. StartsBy turn limits v m words took.fabric.words) c.in-Moved.is c.take_at.ensures.takes in
    let asks = c.fetch_at-request.ensures.asks in
    let waits : n.started ≡ false = ap (λ (u : Vp). u.started) asks ∙ ap (λ (u : Vp). u.started) takes.sees ∙ c.requires.waits in
    let adds = c.serve-reply.ensures.words ∙ ap (λ (f : Plain). words_by_entries f.limits f.fabric.words (block before.state q)) c.fetch_at-request.ensures.stays ∙ ap (λ l. words_by_entries l took.fabric.words (block before.state q)) c.take_at.ensures.limits in
    starts-done program limits v before words c.requires.waits place.limits_same place.rests place.unheard m n c.accept-turn.new.self took.fabric.words c.serve-reply.new.fabric.fabric.words q c.serve-reply.result c.accept-turn.result c.serve-reply.new.partition takes asks c.fetch_at-request.ensures.request c.serve-reply.ensures.reply c.serve-reply.ensures.served (c.accept-turn.ensures.begun waits) adds

pub returns-clause-few : goal.returns-clause-few
returns-clause-few c =
    let program = c.args.program.now in
    let v = c.args.cpu.now in
    let limits = c.args.fabric.now.limits in
    let words = c.args.fabric.now.fabric.words in
    let before = c.args.partition.now in
    let place = c.requires.place in
    let m = c.take_at.new.cpu in
    let n = c.fetch_at-request.new.cpu in
    let q = c.fetch_at-request.result in
    let took : Plain = c.take_at.new.fabric in
    let takes : Takes limits v m words took.fabric.words = subst (λ turn. StartsBy turn limits v m words took.fabric.words) c.in-Moved.is c.take_at.ensures.takes in
    let asks = c.fetch_at-request.ensures.asks in
    let waits : n.started ≡ false = ap (λ (u : Vp). u.started) asks ∙ ap (λ (u : Vp). u.started) takes.sees ∙ c.requires.waits in
    let adds = c.serve-reply.ensures.words ∙ ap (λ (f : Plain). words_by_entries f.limits f.fabric.words (block before.state q)) c.fetch_at-request.ensures.stays ∙ ap (λ l. words_by_entries l took.fabric.words (block before.state q)) c.take_at.ensures.limits in
    starts-few program limits v before words c.requires.waits place.limits_same place.rests place.unheard m n c.accept-turn.new.self took.fabric.words c.serve-reply.new.fabric.fabric.words q c.serve-reply.result c.accept-turn.result c.serve-reply.new.partition takes asks c.fetch_at-request.ensures.request c.serve-reply.ensures.reply c.serve-reply.ensures.served (c.accept-turn.ensures.begun waits) adds
