use Rattle.std.proofs.Common.{length, ap, arith}
use Rattle.std.specs.Prelude.{slice_index}
use Rattle.std.proofs.lemmas.Result.{err_from_is_err_and}
use Rattle.vsm_report.proofs.Gathering.{gathers_and, gathers_cut, gathers_same}
use Rattle.vsm_report.specs.Opening.{opening_words}
use Rattle.vsm_report.specs.Text.{changed_text, word_text}
use Rattle.vsm_report.proofs.StretchWords.{stretch_at, stretch_still}
use Rattle.vsm_report.proofs.Spelling.{flat_map_range_cut, flat_map_range_more, flat_map_range_all}
use Rattle.vsm_report.proofs.writer.put_words.Goals as goal

pub returns-in_err-put_word : goal.returns-in_err-put_word
returns-in_err-put_word g c =
    let p = err_from_is_err_and c.from_residual.result c.from_residual.ensures.1 in
    let at = c.loop-at.at in
    let words = c.args.words.now in
    let opening = opening_words c.args.script.now in
    let e = ap (λ o. changed_text at o (slice_index words at)) (stretch_at opening c.go_on_to.new.words at c.go_on_to.ensures) in
    rw p.1 (gathers_same (flat_map_range_cut (word_text opening words) (length words) at (omega arith)) (gathers_cut _ (gathers_and c.loop-at.invariant.text (gathers_same e c.in_err-put_word.ensures))))

pub loop-at-preserved : goal.loop-at-preserved
loop-at-preserved g c =
    let at = c.loop-at.at in
    let words = c.args.words.now in
    let opening = opening_words c.args.script.now in
    let e = ap (λ o. changed_text at o (slice_index words at)) (stretch_at opening c.go_on_to.new.words at c.go_on_to.ensures) in
    record {
      text = gathers_same (flat_map_range_more (word_text opening words) (length words) at (omega arith)) (gathers_and c.loop-at.invariant.text (gathers_same e c.in_ok-put_word.ensures));
      stretch = stretch_still opening c.go_on_to.new.words at c.go_on_to.ensures;
    }

pub returns : goal.returns
returns g c =
    gathers_same (flat_map_range_all (word_text (opening_words c.args.script.now) c.args.words.now) (length c.args.words.now) c.loop-at.at (omega arith)) c.loop-at.invariant.text
