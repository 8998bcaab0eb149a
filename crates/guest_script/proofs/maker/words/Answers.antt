use Rattle.std.proofs.Common.{ℕ, ◌≡◌, ◌++◌, [], ◌∷◌, map, ap, ◌∙◌, append_assoc, arith, rules}
use Rattle.std.specs.List.{range_with_len}
use Rattle.std.proofs.lemmas.List.{append-nil}
use Rattle.std.proofs.lemmas.List.FromFn.{map-range_with_len_more}
use Rattle.guest_script.specs.Made.{element, inputs, made_words}
use Rattle.guest_script.proofs.maker.words.Goals as goal

pub loop-i-init : goal.loop-i-init
loop-i-init c = rw append-nil (search rules)

pub loop-i-preserved : goal.loop-i-preserved
loop-i-preserved c =
    let more = map-range_with_len_more element 0 c.loop-i.i c.loop-i.i (omega arith) in
    rw (c.in_ok-push.ensures.ok, c.loop-i.invariant, more, c.from.ensures) (append_assoc inputs (map element (range_with_len 0 c.loop-i.i)) (element c.loop-i.i ∷ []))

pub returns : goal.returns
unfolding made_words
returns c =
    let all : c.loop-i.i ≡ 16 = omega arith in
    c.loop-i.invariant ∙ ap (λ (n : ℕ). inputs ++ map element (range_with_len 0 n)) all
