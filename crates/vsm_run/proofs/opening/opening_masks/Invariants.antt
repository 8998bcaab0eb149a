use Rattle.std.proofs.Common.{◌≡◌, length, drop, replicate, fold}
use Rattle.vsm_report.specs.Opening.{with_mask}
use Rattle.vsm_run.proofs.opening.opening_masks.Given as goal

abbrev pub invariant-loop-page : goal.invariant-loop-page
invariant-loop-page l = record {
  masks : fold with_mask l.masks.items (drop l.page-index l.script.masks) ≡ fold with_mask (replicate l.script.limits.pages 15) l.script.masks;
  all : length l.masks.items ≡ l.script.limits.pages;
}
