use Rattle.std.proofs.Common.{◌≡◌, ◌∙◌, rules, arith}
use Rattle.secure_intr.proofs.Joining.{partly, partly-none, partly-more, partly-all}
use Rattle.secure_intr.proofs.sets.join.Goals as goal

pub loop-index-init : goal.loop-index-init
loop-index-init c = partly-none c.args.set.now c.args.others.now

pub loop-index-preserved : goal.loop-index-preserved
loop-index-preserved c = partly-more c.loop-index.index c.args.set.now c.args.others.now c.loop-index.set c.loop-index.invariant

pub returns : goal.returns
returns c =
    let all : c.loop-index.index ≡ 4 = omega arith in
    let whole : c.loop-index.set ≡ partly 4 c.args.set.now c.args.others.now = rw all at c.loop-index.invariant in
    whole ∙ partly-all c.args.set.now c.args.others.now (search rules) (search rules)
