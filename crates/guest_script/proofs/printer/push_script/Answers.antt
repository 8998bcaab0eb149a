use Rattle.std.proofs.Common.{◌∙◌}
use Rattle.std.proofs.lemmas.Result.{on_ok_weaker}
use Rattle.guest_script.proofs.Parts.{IsPut, printed_whole}
use Rattle.guest_script.proofs.printer.push_script.Goals as goal

pub returns : goal.returns
returns c =
    let parts : IsPut c.args.script.now c.args.text.now.items c.push_head.new.text.items c.push_masks.new.text.items c.push_words.new.text.items c.push_programs.new.text.items c.push_schedule.new.text.items = record {
      head_put = c.in_ok-push_head.ensures;
      masks_put = rw c.as_slice.ensures at c.in_ok-push_masks.ensures;
      words_put = rw c.as_slice-2.ensures at c.in_ok-push_words.ensures;
      programs_put = rw c.as_slice-3.ensures at c.in_ok-push_programs.ensures;
      schedule_put = rw c.as_slice-4.ensures at c.in_ok-push_schedule.ensures;
    } in
    on_ok_weaker c.push_line.result (λ last. rw c.text.ensures at last ∙ printed_whole _ _ _ _ _ _ _ parts) c.push_line.ensures
