use Rattle.std.proofs.Common.{◌≡◌, ◌∙◌, Some, refl, sym}
use Rattle.vsm_core.specs.Processor.{operation_at}
use Rattle.attempt.specs.Views.{origin_of}
use Rattle.cpu.specs.Sound.{view_of}
use Rattle.cpu.specs.Turns.{asked_next}
use Rattle.cpu.proofs.Leading.{end-of, phase-by, request-of}
use Rattle.cpu.proofs.Turning.{acting-sound, came-stood, going-on, steps-on, turned-by, way-on}
use Rattle.cpu.proofs.processor.Cpu.advance.Goals as goal

pub ask-answer-requires : goal.ask-answer-requires
ask-answer-requires g c =
    let on = going-on _ _ c.begun.new.under c.self.view_is c.self.invariant c.requires.is c.begun.ensures.means in
    (steps-on _ _ _ _ _ c.self.view_is c.self.invariant on c.requires.serves c.in-Ask.ensures.head).may

pub see-requires-clause-few : goal.see-requires-clause-few
see-requires-clause-few g c =
    let on = going-on _ _ c.begun.new.under c.self.view_is c.self.invariant c.requires.is c.begun.ensures.means in
    rw c.stand.ensures.log (steps-on _ _ _ _ _ c.self.view_is c.self.invariant on c.requires.serves
    c.in-Ask.ensures.head).few

pub resume-requires-clause-answer : goal.resume-requires-clause-answer
resume-requires-clause-answer g c =
    let on = going-on _ _ c.begun.new.under c.self.view_is c.self.invariant c.requires.is c.begun.ensures.means in
    let next = steps-on _ _ _ _ _ c.self.view_is c.self.invariant on c.requires.serves c.in-Ask.ensures.head in
    rw next.asks c.ask-answer.ensures.answer

pub invariant_of-self-in-Ask : goal.invariant_of-self-in-Ask
invariant_of-self-in-Ask g c =
    let on = going-on _ _ c.begun.new.under c.self.view_is c.self.invariant c.requires.is c.begun.ensures.means in
    let next = steps-on _ _ _ _ _ c.self.view_is c.self.invariant on c.requires.serves c.in-Ask.ensures.head in
    let same = rw (c.ask-answer.ensures.event, c.stand.ensures.log) at c.see.ensures.log in
    acting-sound _ _ _ _ c.self.invariant on.is same c.see.ensures.has
    (way-on _ _ _ _ _ _ _ c.self.invariant on next c.ask-answer.ensures.makes c.resume.ensures.op
    c.resume.ensures.is c.resume.ensures.rest)

pub returns-in-Ask-clause-turned : goal.returns-in-Ask-clause-turned
returns-in-Ask-clause-turned g c =
    let on = going-on _ _ c.begun.new.under c.self.view_is c.self.invariant c.requires.is c.begun.ensures.means in
    let next = steps-on _ _ _ _ _ c.self.view_is c.self.invariant on c.requires.serves c.in-Ask.ensures.head in
    let same = rw (c.ask-answer.ensures.event, c.stand.ensures.log) at c.see.ensures.log in
    let way = way-on _ _ _ _ _ _ _ c.self.invariant on next c.ask-answer.ensures.makes c.resume.ensures.op
    c.resume.ensures.is c.resume.ensures.rest in
    let own : operation_at c.args.program.now (view_of c.self.inside).state ≡ Some c.begun.new.under.op =
    c.begun.ensures.op in
    rw (← c.self.view_is, own) (turned-by _ _ c.resume.new.under _ _ _ _ _ _ _ on next c.ask-answer.ensures.makes same
    c.resume.ensures.op way
    c.resume.ensures.rest c.settle-in-Ask.ensures.new (c.settle-in-Ask.ensures.turn _))

pub returns-in-Ask-clause-serves : goal.returns-in-Ask-clause-serves
returns-in-Ask-clause-serves g c =
    let on = going-on _ _ c.begun.new.under c.self.view_is c.self.invariant c.requires.is c.begun.ensures.means in
    let next = steps-on _ _ _ _ _ c.self.view_is c.self.invariant on c.requires.serves c.in-Ask.ensures.head in
    let same = rw (c.ask-answer.ensures.event, c.stand.ensures.log) at c.see.ensures.log in
    let kept = c.settle-in-Ask.ensures.same in
    rw c.ask-answer.ensures.makes.after (record {
      phase = rw next.serves.phase (sym (c.settle-in-Ask.ensures.phase
          ∙ rw same (phase-by c.self.inside.log _ _ c.self.invariant.has)));
      limits = next.serves.limits ∙ sym kept.limits;
      vp = next.serves.vp ∙ sym kept.number;
    })

pub returns-in-End-clause-turned : goal.returns-in-End-clause-turned
returns-in-End-clause-turned g c =
    let u = c.begun.new.under in
    let v = view_of c.self.inside in
    let on = going-on _ _ u c.self.view_is c.self.invariant c.requires.is c.begun.ensures.means in
    let over = end-of (origin_of c.self.inside.state) u _ c.in-End.ensures.head in
    let own : operation_at c.args.program.now v.state ≡ Some u.op = c.begun.ensures.op in
    let ends = on.left ∙ over in
    rw (← c.self.view_is, own, ends) (
      refl,
      (rw (c.stand.ensures.log, ends) at c.settle.ensures.new)
          ∙ came-stood _ v u.op _
          (λ grant. c.begun.ensures.kept grant over),
      rw (
        c.stand.ensures.log,
        ends,
      ) at (c.settle.ensures.turn (asked_next c.settle.new.self)),
    )

pub returns-in-Want-clause-turned : goal.returns-in-Want-clause-turned
returns-in-Want-clause-turned g c =
    let u = c.begun.new.under in
    let v = view_of c.self.inside in
    let on = going-on _ _ u c.self.view_is c.self.invariant c.requires.is c.begun.ensures.means in
    let wants = on.left ∙ (request-of (origin_of c.self.inside.state) u _ _ c.in-Want.ensures.head).1 in
    let own : operation_at c.args.program.now v.state ≡ Some u.op = c.begun.ensures.op in
    rw (← c.self.view_is, own, c.stand.ensures.log, on.is.started, wants) (refl, refl, refl)
