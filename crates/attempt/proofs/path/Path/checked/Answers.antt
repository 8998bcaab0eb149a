use Rattle.std.proofs.Common.{◌≡◌, true, [], refl, rules, arith}
use Rattle.vsm_core.specs.Walk.{is_paging}
use Rattle.vsm_core.specs.Access.{tables, query_of}
use Rattle.page_walk.specs.Half.{Stands}
use Rattle.attempt.specs.Paths.{goal_of}
use Rattle.attempt.proofs.path.Path.checked.Goals as goal

pub returns-in-Ok : goal.returns-in-Ok
returns-in-Ok c =
    let aim = c.args.self.now.aim in
    let on : is_paging aim.cr0 ≡ true = search rules in
    let stands : Stands c.in-Ok.walk (query_of (goal_of aim)) [] =
    record { paging = on; canonical = search rules; at = search rules; few = omega arith; present = refl } in
    c.at_walk.ensures _ (tables 3 (goal_of aim) c.args.generation) (c.first-page.ensures.wanted _ stands, stands)
    (λ few. refl)
