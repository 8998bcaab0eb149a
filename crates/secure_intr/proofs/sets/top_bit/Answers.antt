use Rattle.std.proofs.Common.{◌≡◌, ℕ, suc, ◌+◌, ◌-◌, ◌^◌, ◌<◌, ◌≤◌, arith}
use Rattle.std.proofs.lemmas.Nat.{leading_top}
use Rattle.std.specs.Int.Count.{count_leading_zeros}
use Rattle.secure_intr.proofs.sets.top_bit.Goals as goal

reached : (word : ℕ) → 0 < word → word < 2 ^ 64 → 2 ^ (63 - count_leading_zeros 64 word) ≤ word
reached word some fits =
    let top = leading_top 64 word some fits in
    let bit : 63 - count_leading_zeros 64 word ≡ top.0 = omega arith in
    rw bit top.2

highest : (word : ℕ) → 0 < word → word < 2 ^ 64 → word < 2 ^ (63 - count_leading_zeros 64 word + 1)
highest word some fits =
    let top = leading_top 64 word some fits in
    let bit : 63 - count_leading_zeros 64 word + 1 ≡ suc top.0 = omega arith in
    rw bit top.3

pub returns-else-word-eq0-clause-reached : goal.returns-else-word-eq0-clause-reached
returns-else-word-eq0-clause-reached c = reached c.args.word (omega arith) (omega arith)

pub returns-else-word-eq0-clause-highest : goal.returns-else-word-eq0-clause-highest
returns-else-word-eq0-clause-highest c = highest c.args.word (omega arith) (omega arith)
