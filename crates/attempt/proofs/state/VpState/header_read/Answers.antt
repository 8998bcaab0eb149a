use Rattle.std.proofs.Common.{◌≡◌, arith, rules}
use Rattle.attempt.specs.Calls.{header_words}
use Rattle.attempt.proofs.state.VpState.header_read.Goals as goal

pub returns-else-reads-gt0 : goal.returns-else-reads-gt0
returns-else-reads-gt0 c =
    let none : c.args.reads.left ≡ 0 = omega arith in
    let all : c.args.reads.done ≡ header_words c.args.under.now.head.call = omega (arith, c.requires.reads.all) in
    record {
      rest = rw (none, all) c.sliced.ensures.rest;
      is = search rules;
      op = search rules;
    }
