use Rattle.std.proofs.Common.{◌≡◌, true, rules}
use Rattle.vsm_core.specs.Walk.{is_present}
use Rattle.page_walk.proofs.Walks.{tells_next}
use Rattle.page_walk.proofs.walk.Walk.next.Goals as goal

pub returns-clause-told : goal.returns-clause-told
returns-clause-told c =
    let here : is_present c.args.word ≡ true = search rules in
    λ q entries s. rw (c.answer.ensures.value, c.take.ensures) (tells_next _ q entries _ s here)
