use Rattle.std.proofs.Common.{◌≡◌, find, drop}
use Rattle.vsm_base.specs.Names.{is_spelled}
use Rattle.vsm_base.proofs.name.with_spelling.Given as goal

abbrev pub invariant-loop-name : goal.invariant-loop-name
invariant-loop-name l =
    find (is_spelled l.word) (drop l.name-index l.all) ≡ find (is_spelled l.word) l.all
