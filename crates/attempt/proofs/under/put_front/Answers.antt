use Rattle.std.proofs.Common.{rules}
use Rattle.attempt.proofs.Puts.{two-set}
use Rattle.attempt.proofs.under.put_front.Goals as goal

pub returns : goal.returns
returns g c = two-set c.args.words.now _ _ (search rules)
