use Rattle.std.proofs.Common.{rules}
use Rattle.access_path.specs.Rest.{Goes, goal_of}
use Rattle.access_path.proofs.Tables.{tables-cases}
use Rattle.access_path.proofs.steps.table_read.Goals as goal

pub returns : goal.returns
returns g c =
    let aim = c.args.aim.now in
    let word = c.read-value.result in
    let step = c.at_walk-next in
    record {
      event = search rules;
      turned = λ t r. rw (r.3, c.seen.ensures.turn, c.seen.ensures.place) (word, c.read-value.ensures, tables-cases (Goes aim step.result.turn step.result.place) r.1 (goal_of aim) c.args.generation r.0 word r.2.room (λ next goes_on. step.ensures.goes _ _ next (c.next-step.ensures.told _ r.0 r.2.stands) goes_on));
      placed = search rules;
      matches = search rules;
      serves = search rules;
    }
