use Rattle.std.proofs.Common.{refl, lit≤, ◌∙◌}
use Rattle.intercept_msg.proofs.Parts.{part}
use Rattle.intercept_msg.proofs.decoder.memory_note.Goals as goal

pub returns-clause-read : goal.returns-clause-read
returns-clause-read c =
    let bytes = c.args.bytes.now in
    rw (
      c.access_of.ensures,
      c.address_of.ensures,
      c.read_u128.ensures ∙ part 16 24 72 bytes (lit≤ tt),
      c.read_u64.ensures ∙ part 8 40 56 bytes (lit≤ tt),
      c.read_u64-2.ensures ∙ part 8 48 48 bytes (lit≤ tt),
      c.read_u64-3.ensures ∙ part 8 72 24 bytes (lit≤ tt),
    ) refl
