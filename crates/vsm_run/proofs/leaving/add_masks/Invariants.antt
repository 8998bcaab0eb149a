use Rattle.std.proofs.Common.{◌≡◌, ◌++◌, take}
use Rattle.vsm_run.proofs.leaving.add_masks.Given as goal

abbrev pub invariant-loop-word : goal.invariant-loop-word
invariant-loop-word l = l.masks ≡ (l.fn.masks.0 ++ take l.word-index l.words, l.fn.masks.1)
