use Rattle.std.proofs.Common.{◌≡◌, find, drop}
use Rattle.guest_script.specs.Keywords.{is_spelled}
use Rattle.guest_script.proofs.keyword.with_spelling.Given as goal

abbrev pub invariant-loop-keyword : goal.invariant-loop-keyword
invariant-loop-keyword l =
    find (is_spelled l.word) (drop l.keyword-index l.all) ≡ find (is_spelled l.word) l.all
