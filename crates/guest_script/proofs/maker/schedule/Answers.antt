use Rattle.std.proofs.Common.{ℕ, ◌≡◌, ◌++◌, [], ◌∷◌, map, sym, ap, ◌∙◌, arith}
use Rattle.std.specs.List.{range_with_len}
use Rattle.std.proofs.lemmas.List.FromFn.{map-range_with_len_more}
use Rattle.guest_script.specs.Made.{made_schedule, made_turns}
use Rattle.guest_script.proofs.maker.schedule.Goals as goal

pub loop-vp-preserved : goal.loop-vp-preserved
loop-vp-preserved c =
    c.in_ok-push.ensures.ok ∙ ap (λ line. line ++ made_turns c.args.n c.loop-vp.vp ∷ []) c.loop-vp.invariant ∙ sym (map-range_with_len_more (made_turns c.args.n) 0 c.loop-vp.vp c.loop-vp.vp (omega arith))

pub returns : goal.returns
unfolding made_schedule
returns c =
    let all : c.loop-vp.vp ≡ 4 = omega arith in
    rw (c.in_ok-push-2.ensures.ok, c.new-schedule.ensures) (ap (λ line. line ∷ []) (c.loop-vp.invariant ∙ ap (λ (vps : ℕ). map (made_turns c.args.n) (range_with_len 0 vps)) all))
