use Rattle.std.proofs.Common.{◌≡◌, length, refl, ap, ◌∙◌, arith}
use Rattle.std.specs.Prelude.{slice_index}
use Rattle.std.proofs.lemmas.List.{get_or_read_under}
use Rattle.std.proofs.lemmas.Result.{err_from_is_err_and}
use Rattle.vsm_report.proofs.Gathering.{gathers_and, gathers_cut, gathers_same}
use Rattle.vsm_report.specs.Opening.{opening_masks}
use Rattle.vsm_report.specs.Text.{changed_mask_text, mask_text}
use Rattle.vsm_report.proofs.Spelling.{flat_map_range_cut, flat_map_range_more, flat_map_range_all}
use Rattle.vsm_report.proofs.writer.put_masks.Goals as goal

pub returns-in_err-put_mask : goal.returns-in_err-put_mask
returns-in_err-put_mask g c =
    let p = err_from_is_err_and c.from_residual.result c.from_residual.ensures.1 in
    let page = c.loop-page.page in
    let masks = c.args.masks.now in
    let opening = opening_masks c.args.script.now in
    let now : c.index-masks-page.result ≡ slice_index masks page = get_or_read_under masks page (length masks) c.index-masks-page.result 0 c.index-masks-page.is (omega arith) refl in
    let e = ap (λ o. changed_mask_text page o c.bits-mask.result) c.opening_mask-opening.ensures ∙ ap (changed_mask_text page (slice_index opening page)) (c.bits-mask.ensures.value ∙ now) in
    rw p.1 (gathers_same (flat_map_range_cut (mask_text opening masks) (length masks) page (omega arith)) (gathers_cut _ (gathers_and c.loop-page.invariant (gathers_same e c.in_err-put_mask.ensures))))

pub loop-page-preserved : goal.loop-page-preserved
loop-page-preserved g c =
    let page = c.loop-page.page in
    let masks = c.args.masks.now in
    let opening = opening_masks c.args.script.now in
    let now : c.index-masks-page.result ≡ slice_index masks page = get_or_read_under masks page (length masks) c.index-masks-page.result 0 c.index-masks-page.is (omega arith) refl in
    let e = ap (λ o. changed_mask_text page o c.bits-mask.result) c.opening_mask-opening.ensures ∙ ap (changed_mask_text page (slice_index opening page)) (c.bits-mask.ensures.value ∙ now) in
    gathers_same (flat_map_range_more (mask_text opening masks) (length masks) page (omega arith)) (gathers_and c.loop-page.invariant (gathers_same e c.in_ok-put_mask.ensures))

pub returns : goal.returns
returns g c =
    gathers_same (flat_map_range_all (mask_text (opening_masks c.args.script.now) c.args.masks.now) (length c.args.masks.now) c.loop-page.page (omega arith)) c.loop-page.invariant
