use Rattle.std.proofs.Common.{sym, ◌∙◌, arith, refl}
use Rattle.vsm_core.specs.State.{opening_state}
use Rattle.cpu.proofs.Openings.{rip-opening, ran_out-none, spins-open}
use Rattle.cpu.proofs.processor.Cpu.new.Goals as goal

pub invariant_of-result : goal.invariant_of-result
unfolding opening_state
invariant_of-result c = rw (c.in_ok-state.ensures, c.in_ok-marks.ensures, c.in_ok-seen.ensures) (record {
  made = record { vp = c.requires.vp; vps = c.requires.vps_few; budget = refl };
  has = record {
    budget = c.requires.budget_few;
    seen_room = refl;
    marks_few = omega arith;
    part_few = omega arith;
    part_le = omega arith;
    first_few = omega arith;
    first_le = omega arith;
    seen_few = omega arith;
    room = λ e. c.requires.budget_some;
    spins = λ e. spins-open;
  };
  notes = omega arith;
  running = λ started ended. rw rip-opening (ran_out-none _ c.args.limits.now.budget c.requires.budget_some
      (sym (rw started at c.at_opening.ensures.is) ∙ ended));
  owing = λ e. cc;
  waits = λ e. refl;
  waiting = λ e. record {
    op = refl;
    marks = refl;
    part = refl;
    first = refl;
    again = refl;
    heard = refl;
    ended = rw e at c.at_opening.ensures.is;
    few = omega arith;
    phase = refl;
  };
  means = λ e. (refl, refl, refl);
})
