use Rattle.std.proofs.Common.{◌≡◌, true, [], refl, rules, arith}
use Rattle.vsm_core.specs.Walk.{is_paging}
use Rattle.vsm_core.specs.Access.{tables, query_of}
use Rattle.page_walk.specs.Half.{Stands}
use Rattle.access_path.specs.Rest.{goal_of}
use Rattle.access_path.proofs.ways.from_generation.Goals as goal

pub returns-in-Ok-clause-goes : goal.returns-in-Ok-clause-goes
returns-in-Ok-clause-goes c =
    let aim = c.args.aim.now in
    let on : is_paging aim.cr0 ≡ true = search rules in
    let stands : Stands c.in-Ok.walk (query_of (goal_of aim)) [] = record { paging = on; canonical = search rules; at = search rules; few = omega arith; present = refl } in
    c.at_walk.ensures.goes _ [] (tables 3 (goal_of aim) c.args.generation) (c.first-page.ensures.wanted _ stands, stands) (λ few. (3, refl, refl))
