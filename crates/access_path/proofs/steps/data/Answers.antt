use Rattle.std.proofs.Common.{rules}
use Rattle.access_path.proofs.Granted.{granted-read, granted-write}
use Rattle.access_path.proofs.steps.data.Goals as goal

pub returns-in-Read : goal.returns-in-Read
returns-in-Read g c = record {
  event = search rules;
  turned = λ t r. rw (r, c.seen.ensures.turn, c.seen.ensures.place, c.granted-next.ensures.turn, c.granted-next.ensures.place) (granted-read _ c.args.aim.now _ c.args.page _ _ _ _ _ _ c.in-Read.is c.requires.placed.1 c.read-value.ensures);
  placed = search rules;
  matches = search rules;
  serves = search rules;
}

pub returns-in-Write : goal.returns-in-Write
returns-in-Write g c = record {
  event = search rules;
  turned = λ t r. rw (r, c.seen-in-Write.ensures.turn, c.seen-in-Write.ensures.place, c.granted-next-in-Write.ensures.turn, c.granted-next-in-Write.ensures.place) (granted-write _ c.args.aim.now _ c.args.page _ _ _ _ _ c.in-Write.is c.requires.placed.1 c.write.ensures.step);
  placed = search rules;
  matches = search rules;
  serves = search rules;
}
