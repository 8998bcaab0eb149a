use Rattle.std.proofs.Common.{refl, lit≤, ◌∙◌}
use Rattle.intercept_msg.proofs.Parts.{part}
use Rattle.intercept_msg.proofs.decoder.register_note.Goals as goal

pub returns-clause-read : goal.returns-clause-read
returns-clause-read c =
    let bytes = c.args.bytes.now in
    rw (
      c.read_u128.ensures ∙ part 16 24 72 bytes (lit≤ tt),
      c.read_u64.ensures ∙ part 8 40 56 bytes (lit≤ tt),
      c.read_u64-2.ensures ∙ part 8 48 48 bytes (lit≤ tt),
      c.read_u32.ensures ∙ part 4 56 40 bytes (lit≤ tt),
      c.read_u128-2.ensures ∙ part 16 64 32 bytes (lit≤ tt),
    ) refl
