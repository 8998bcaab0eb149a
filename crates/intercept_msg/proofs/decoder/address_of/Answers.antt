use Rattle.std.proofs.Common.{ap, Some, lit≤}
use Rattle.intercept_msg.proofs.Parts.{part}
use Rattle.intercept_msg.proofs.decoder.address_of.Goals as goal

pub returns-then-bytes-eq1 : goal.returns-then-bytes-eq1
returns-then-bytes-eq1 c =
    rw (c.if-bytes-eq1.true, c.read_u64.ensures) (ap Some (part 8 64 32 c.args.bytes.now (lit≤ tt)))
