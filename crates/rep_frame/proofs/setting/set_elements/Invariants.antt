use Rattle.rep_frame.proofs.Settings.{IsSetTo}
use Rattle.rep_frame.proofs.setting.set_elements.Given as goal

abbrev pub invariant-loop-index : goal.invariant-loop-index
invariant-loop-index l = IsSetTo l.caller l.target l.frame l.words l.fn.bank l.bank l.index
