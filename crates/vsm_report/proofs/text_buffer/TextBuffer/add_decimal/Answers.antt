use Rattle.std.proofs.Common.{◌+◌, ◌/◌, ◌%◌, [], ◌∷◌, ◌++◌, sym, ap, ◌∙◌, arith}
use Rattle.std.proofs.lemmas.Fmt.{decimal_digit, decimal_step}
use Rattle.vsm_report.proofs.Gathering.{added_then}
use Rattle.vsm_report.proofs.text_buffer.TextBuffer.add_decimal.Goals as goal

pub returns-then-n-lt10-clause-text : goal.returns-then-n-lt10-clause-text
returns-then-n-lt10-clause-text c = c.add_byte.ensures.text ∙ ap (λ x. c.args.self.now ++ x) (sym (decimal_digit c.args.n (omega arith)))

pub returns-then-n-lt100-clause-text : goal.returns-then-n-lt100-clause-text
returns-then-n-lt100-clause-text c =
    let n = c.args.n in
    let low = (48 + n % 10) ∷ [] in
    let digits = decimal_step n (omega arith) (omega arith) ∙ ap (λ x. x ++ low) (decimal_digit (n / 10) (omega arith)) in
    added_then c.args.self.now ((48 + n / 10) ∷ []) low c.add_byte-then-n-lt100.ensures.text c.add_byte-then-n-lt100-2.ensures.text ∙ ap (λ x. c.args.self.now ++ x) (sym digits)
