use Rattle.std.proofs.Common.{◌≡◌, ◌∷◌, ◌++◌, [], ◌+◌, take, slice_set, refl, rules}
use Rattle.std.proofs.lemmas.List.{take_more_set}
use Rattle.vsm_core.specs.Walk.{Query, walk}
use Rattle.vsm_core.specs.Access.{query_of}
use Rattle.page_walk.specs.Half.{Stands}
use Rattle.page_walk.specs.Told.{Tells}
use Rattle.attempt.specs.Paths.{Reaches, goal_of}
use Rattle.attempt.proofs.Tables.{tables-on}
use Rattle.attempt.proofs.path.Path.entered.Goals as goal

-- the entry that was read is kept
more : (c : goal.After-at_walk) → take (c.args.self.now.taken + 1)
    (slice_set c.args.self.now.entries c.args.self.now.taken c.args.entry)
    ≡ take c.args.self.now.taken c.args.self.now.entries ++ c.args.entry ∷ []
more c = take_more_set c.args.self.now.entries c.args.self.now.taken c.args.entry (search rules)

tells : (c : goal.After-at_walk) → (q : Query) → q ≡ query_of (goal_of c.args.self.now.aim)
    → Tells c.next-step.result (walk q (take (c.args.self.now.taken + 1)
    (slice_set c.args.self.now.entries c.args.self.now.taken c.args.entry)))
    (Stands c.next-step.new.self q (take (c.args.self.now.taken + 1)
    (slice_set c.args.self.now.entries c.args.self.now.taken c.args.entry)))
tells c q e = rw (more c, e) (c.next-step.ensures.told (query_of (goal_of c.args.self.now.aim)) _ c.requires.stands)

pub returns : goal.returns
returns c =
    rw (← more c) (tables-on (λ t. Reaches c.args.self.now.aim c.at_walk.new.self c.at_walk.result t)
    c.args.self.now.taken _ _ _ c.requires.few (λ next few. c.at_walk.ensures _ next (tells c _ refl) few))
