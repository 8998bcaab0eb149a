use Rattle.std.proofs.Common.{◌≡◌}
use Rattle.std.specs.Prelude.{slice_index}
use Rattle.vsm_report.proofs.MaskTurns.{masks_so_far}
use Rattle.vsm_report.proofs.opening.opening_mask.Given as goal

abbrev pub invariant-loop-given : goal.invariant-loop-given
invariant-loop-given l = slice_index (masks_so_far l.script l.given-index) l.page ≡ l.mask
