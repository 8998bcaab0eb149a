use Rattle.std.proofs.Common.{◌≡◌, ◌*◌, length, drop, replicate, fold}
use Rattle.vsm_report.specs.Opening.{with_word, word_count}
use Rattle.vsm_run.proofs.opening.opening_words.Given as goal

abbrev pub invariant-loop-page : goal.invariant-loop-page
invariant-loop-page l = record {
  words : fold with_word l.words.items (drop l.page-index l.script.words) ≡ fold with_word (replicate (word_count l.script) 0) l.script.words;
  all : length l.words.items ≡ 512 * l.script.limits.pages;
}
