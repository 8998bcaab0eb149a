use Rattle.vsm_report.specs.Opening.{IsStretch}
use Rattle.vsm_report.proofs.StretchWords.{words_so_far}
use Rattle.vsm_report.proofs.opening.fill_stretch.Given as goal

abbrev pub invariant-loop-word : goal.invariant-loop-word
invariant-loop-word l = IsStretch (words_so_far l.script l.word-index) l.stretch l.words
