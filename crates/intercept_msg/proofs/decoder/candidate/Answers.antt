use Rattle.std.proofs.Common.{◌≡◌, ◌==◌, false, refl, ◌∙◌}
use Rattle.std.proofs.lemmas.Bool.{ne_eqb}
use Rattle.vsm_core.specs.Messages.{memory_type}
use Rattle.intercept_msg.specs.Candidate.{number_at}
use Rattle.intercept_msg.proofs.decoder.candidate.Goals as goal

pub returns-else-read_u32-eq-MEMORY-clause-read : goal.returns-else-read_u32-eq-MEMORY-clause-read
returns-else-read_u32-eq-MEMORY-clause-read c =
    let other : (number_at 4 0 c.args.bytes.now == memory_type) ≡ false =
    ne_eqb (number_at 4 0 c.args.bytes.now) memory_type (λ e. c.if-read_u32-eq-MEMORY.false (c.read_u32.ensures ∙ e)) in
    rw (c.register_note.ensures.read, other) refl
