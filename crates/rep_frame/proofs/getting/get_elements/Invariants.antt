use Rattle.rep_frame.specs.Slices.{state_with}
use Rattle.rep_frame.proofs.Numbers.{IsGotTo}
use Rattle.rep_frame.proofs.getting.get_elements.Given as goal

abbrev pub invariant-loop-index : goal.invariant-loop-index
invariant-loop-index l = IsGotTo l.status.active l.target (state_with l.bank l.status.active l.status.one_enabled) l.frame l.words l.fn.output l.output l.index
