-- What a level's own registers, lent, come back as.
use Rattle.std.specs.Borrow.{Lends, MutBor, Fml}
use Rattle.vsm_base.specs.declared.places.Vtl.{Vtl}
use Rattle.vsm_core.specs.Registers.{Registers, with_private}
use Rattle.register_file.specs.Values.{private_values}
use Rattle.register_file.specs.declared.private_set.PrivateSet.{PrivateSet}
use Rattle.register_file.specs.contracts.bank.Bank as bank
use Rattle.register_file.specs.contracts.private_set.PrivateSet as private_set

-- the level's own registers become what was left behind the loan, and all others stay
abbrev pub LendsPrivate : MutBor Registers → Vtl → MutBor PrivateSet → Fml
LendsPrivate registers level set = Lends bank.the_row private_set.the_row registers set (λ last. with_private registers.now level (private_values last))
