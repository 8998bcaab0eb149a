use Rattle.std.proofs.Common.{◌≡◌, length, ◌==◌, true, rules}
use Rattle.guest_script.proofs.Ends.{cut_at_end}
use Rattle.guest_script.proofs.reader.read.Goals as goal

pub returns-then-not-is_done-clause-said : goal.returns-then-not-is_done-clause-said
returns-then-not-is_done-clause-said c =
    let empty : (length c.loop-rest.rest.now == 0) ≡ true = cc c.is_empty.ensures in
    cut_at_end c.loop-rest.reading c.loop-rest.number c.loop-rest.rest.now c.args.bytes.now c.loop-rest.invariant.0 empty (search rules)
