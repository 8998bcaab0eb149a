use Rattle.std.proofs.Common.{◌≡◌, ◌∙◌, ◌+◌, ◌-◌, ◌^◌, ◌<◌, ◌≤◌, get_or, sym, rules, arith}
use Rattle.vsm_core.specs.Vectors.{highest}
use Rattle.secure_intr.proofs.Tops.{highest_within, whole, no-words, word-empty, word-top}
use Rattle.secure_intr.proofs.sets.highest.Goals as goal

pub loop-index-init : goal.loop-index-init
loop-index-init c = whole c.args.set.now

pub loop-index-preserved : goal.loop-index-preserved
loop-index-preserved c =
    let empty : get_or c.args.set.now (c.loop-index.index - 1) 0 ≡ 0 = search rules in
    c.loop-index.invariant ∙ word-empty c.args.set.now c.loop-index.index c.loop-index-test.true empty

pub returns-in-Some : goal.returns-in-Some
returns-in-Some c =
    let bit = c.in-Some.bit in
    let word = get_or c.args.set.now (c.loop-index.index - 1) 0 in
    let within : bit < 64 = search rules in
    let reached : 2 ^ bit ≤ word = search rules in
    let highest_bit : word < 2 ^ (bit + 1) = search rules in
    sym (c.loop-index.invariant ∙ word-top c.args.set.now c.loop-index.index bit c.loop-index-test.true within reached highest_bit)

pub returns : goal.returns
returns c =
    let none : c.loop-index.index ≡ 0 = omega arith in
    let at_last : highest c.args.set.now ≡ highest_within c.args.set.now 0 = rw none at c.loop-index.invariant in
    sym (at_last ∙ no-words c.args.set.now)
