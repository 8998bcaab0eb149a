use Rattle.std.proofs.Common.{◌<◌, subst, length-take, arith}
use Rattle.std.proofs.lemmas.List.{get_or-take}
use Rattle.vsm_base.specs.declared.places.Limits.{Limits}
use Rattle.vsm_run.proofs.leaving.left.Goals as goal

pub add_masks-requires-clause-valid : goal.add_masks-requires-clause-valid
add_masks-requires-clause-valid c = λ k low.
    let pages = c.args.limits.now.pages in
    let words = c.words-words.result.now in
    let less : k < pages = omega (arith, length-take pages words) in
    let masked = c.words-words.ensures.whole.masked k (subst (λ (l : Limits). k < l.pages) c.requires.limits less) in
    rw (get_or-take pages words k 0 less, c.words-words.ensures.words) masked
