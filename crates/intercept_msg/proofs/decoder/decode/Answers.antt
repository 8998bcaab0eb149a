use Rattle.std.proofs.Common.{◌≡◌, Some, sym, ap, ◌∙◌}
use Rattle.std.proofs.lemmas.Slice.Eq.{bytes_eq-Decides}
use Rattle.intercept_msg.proofs.Decoded.{long, only, refused, no-value}
use Rattle.intercept_msg.proofs.decoder.decode.Goals as goal

pub returns-in_err-bytes-clause-none : goal.returns-in_err-bytes-clause-none
returns-in_err-bytes-clause-none c = rw c.from_residual.ensures (λ n fits same. c.in_err-bytes.ensures.short (long c.args.bytes.now n same))

pub returns-in_err-bytes-clause-told : goal.returns-in_err-bytes-clause-told
returns-in_err-bytes-clause-told c = λ n fits same. absurd (c.in_err-bytes.ensures.short (long c.args.bytes.now n same))

pub returns-then-eq-clause-value : goal.returns-then-eq-clause-value
returns-then-eq-clause-value c =
    let same : c.encode.result ≡ c.in_ok-bytes.bytes = (bytes_eq-Decides c.encode.result c.in_ok-bytes.bytes).0 (sym c.eq.ensures ∙ c.if-eq.true) in
    no-value c.in_ok-bytes.bytes c.candidate-note.result c.candidate-note.ensures.read c.candidate-note.ensures.fits (sym c.encode.ensures.bytes ∙ same)

pub returns-then-eq-clause-told : goal.returns-then-eq-clause-told
returns-then-eq-clause-told c = λ n fits same.
    ap Some (only c.in_ok-bytes.bytes c.candidate-note.result n c.candidate-note.ensures.read fits (same ∙ sym c.in_ok-bytes.ensures.cleared))

pub returns-else-eq-clause-none : goal.returns-else-eq-clause-none
returns-else-eq-clause-none c = λ n fits same.
    refused c.in_ok-bytes.bytes c.encode.result c.candidate-note.result n c.candidate-note.ensures.read c.encode.ensures.bytes (sym c.eq.ensures ∙ c.if-eq.false) fits (same ∙ sym c.in_ok-bytes.ensures.cleared)

pub returns-else-eq-clause-told : goal.returns-else-eq-clause-told
returns-else-eq-clause-told c = λ n fits same.
    absurd (refused c.in_ok-bytes.bytes c.encode.result c.candidate-note.result n c.candidate-note.ensures.read c.encode.ensures.bytes (sym c.eq.ensures ∙ c.if-eq.false) fits (same ∙ sym c.in_ok-bytes.ensures.cleared))
