use Rattle.std.proofs.Common.{◌≡◌, true, false, Some, rules}
use Rattle.vsm_core.specs.Calls.{row_of, code_in, is_malformed}
use Rattle.hyper_abi.specs.Told.{row_from}
use Rattle.hyper_abi.proofs.Checks.{read-malformed, read-well}
use Rattle.hyper_abi.proofs.control.Control.read.Goals as goal

pub returns-then-is_malformed-clause-read : goal.returns-then-is_malformed-clause-read
returns-then-is_malformed-clause-read c =
    let row : row_of (code_in c.args.value) ≡ Some (row_from c.in-Some.form) = search rules in
    let bad : is_malformed (row_from c.in-Some.form) c.args.value ≡ true = search rules in
    read-malformed _ _ row bad

pub returns-else-is_malformed-clause-read : goal.returns-else-is_malformed-clause-read
returns-else-is_malformed-clause-read c =
    let row : row_of (code_in c.args.value) ≡ Some (row_from c.in-Some.form) = search rules in
    let well : is_malformed (row_from c.in-Some.form) c.args.value ≡ false = search rules in
    rw c.of-control.ensures (read-well _ _ row well)
