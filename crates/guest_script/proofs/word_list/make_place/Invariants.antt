use Rattle.std.proofs.Common.{◌≡◌, ℕ, ◌-◌, ◌+◌, get_or, false, vec_len}
use Rattle.guest_script.proofs.word_list.make_place.Given as goal

abbrev pub invariant-loop-given : goal.invariant-loop-given
invariant-loop-given l = (k : ℕ) → get_or l.given.items k false ≡ get_or l.initial.given.items k false

abbrev pub decreases-loop-given : goal.decreases-loop-given
decreases-loop-given l = l.at + 1 - vec_len l.given
