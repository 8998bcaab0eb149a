use Rattle.std.proofs.Common.{arith}
use Rattle.std.proofs.lemmas.List.{take-take}
use Rattle.attempt.proofs.hypercall.pages_of.Goals as goal

pub returns : goal.returns
returns c = rw (c.truncate.ensures.items, c.from.ensures, c.from-pages.ensures.0, c.front_of.ensures)
    (take-take c.args.length 8 c.args.words.now (omega arith))
