use Rattle.std.proofs.Common.{◌≡◌, ◌∙◌, None, refl, sym, ap, inr}
use Rattle.vsm_core.specs.Attempt.{attempt}
use Rattle.attempt.specs.Views.{origin_of}
use Rattle.cpu.specs.UnderWay.{IsUnchecked}
use Rattle.cpu.proofs.Leading.{begun}
use Rattle.cpu.proofs.Lists.{all-but-last}
use Rattle.cpu.proofs.Settled.{in-attempt}
use Rattle.cpu.proofs.processor.Cpu.mark_again.Goals as goal

pub invariant_of-self : goal.invariant_of-self
invariant_of-self c =
    let i = c.self.inside in
    let w = c.self.invariant in
    let on = in-attempt _ _ c.self.view_is w c.requires.acting in
    let left = c.leave_again.ensures in
    let anew : IsUnchecked (attempt (origin_of i.state) i.under.op) =
    rw (← c.self.view_is, on.acting) at c.requires.spins.anew in
    let quiet : i.heard ≡ None = rw (← c.self.view_is) at c.requires.spins.heard in
    record {
      made = rw left.log w.made;
      has = left.has;
      notes = rw (left.log, all-but-last) (rw on.is.fresh at w.notes);
      running = rw left.log w.running;
      owing = λ owes. cc;
      waits = λ off. cc;
      waiting = λ off. cc;
      means = λ _. rw on.acting (begun i.state c.leave_again.new.under i.heard c.leave_again.new.log w.made.vp
          w.made.vps
          quiet (rw left.log refl) left.is (left.rest ∙ ap (attempt (origin_of i.state)) (sym left.op))
          (rw left.op (inr anew)));
    }
