use Rattle.std.proofs.Common.{◌≡◌, ◌==◌, find, drop}
use Rattle.vsm_base.specs.Names.{number_of}
use Rattle.vsm_base.proofs.name.with_number.Given as goal

abbrev pub invariant-loop-name : goal.invariant-loop-name
invariant-loop-name l =
    find (λ name. number_of name == l.number) (drop l.name-index l.all) ≡ find (λ name. number_of name == l.number) l.all
