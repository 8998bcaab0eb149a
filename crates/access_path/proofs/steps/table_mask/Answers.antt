use Rattle.std.proofs.Common.{rules}
use Rattle.access_path.proofs.steps.table_mask.Goals as goal

pub returns : goal.returns
returns g c = record {
  event = search rules;
  turned = λ t r. rw (r.3, c.seen.ensures.turn, c.seen.ensures.place) (c.mask-mask.result, c.mask-mask.ensures, c.at_table_mask-next.ensures.goes r.0 r.1 r.2);
  placed = search rules;
  matches = search rules;
  serves = search rules;
}
