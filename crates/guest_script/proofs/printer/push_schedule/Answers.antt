use Rattle.std.proofs.Common.{◌++◌, ap, ◌∙◌, arith}
use Rattle.guest_script.specs.Print.{line_text, schedule_words}
use Rattle.guest_script.proofs.Mapped.{all_mapped}
use Rattle.guest_script.proofs.printer.push_schedule.Goals as goal

pub returns : goal.returns
returns c =
    c.loop-turns.invariant ∙ ap (λ text. c.args.text.now.items ++ text) (all_mapped line_text schedule_words c.args.schedule.now c.loop-turns.turns-index (omega arith))
