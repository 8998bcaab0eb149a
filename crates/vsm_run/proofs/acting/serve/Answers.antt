use Rattle.std.proofs.Common.{rules, refl, sym, subst, ◌∙◌}
use Rattle.fabric.specs.Seats.{plain_stand}
use Rattle.vsm_run.specs.Serving.{IsPacedBy}
use Rattle.vsm_run.proofs.AtOnce.{GoesOn, IsServed, IsServing, Tells, begins, few-done, is-under, turn-goes}
use Rattle.vsm_run.proofs.acting.serve.Goals as goal

pub entries-init : goal.entries-init
entries-init c = record {
  serving = subst (λ p. IsServing c.args.partition.now c.args.request c.args.fabric.now p c.args.fabric.now) (sym c.begin.ensures.view) (begins c.args.partition.now c.args.request c.args.fabric.now c.requires.free c.requires.slice c.requires.idle);
  paced = record {
    vps = c.requires.paced.vps ∙ sym c.begin.ensures.kept.vps;
    pages = rw c.begin.ensures.view c.requires.paced.pages;
    turns = rw (c.begin.ensures.kept.vps, c.begin.ensures.view) c.requires.paced.turns;
    cleared = rw (c.begin.ensures.kept.vps, c.begin.ensures.view) c.requires.paced.cleared;
  };
}

pub turn-requires-clause-going : goal.turn-requires-clause-going
turn-requires-clause-going c = is-under c.args.partition.now c.args.request c.args.fabric.now c.entries.partition c.entries.fabric c.entries.invariant.serving

pub entries-preserved : goal.entries-preserved
entries-preserved c =
    let before = c.args.partition.now in
    let first = c.args.fabric.now in
    let g = c.turn.new.steward.fabric.now in
    let t : Tells c.entries.fabric g (plain_stand c.steward.result) (plain_stand c.turn.new.steward) = record { limits = search rules; told = search rules; limits_then = refl; told_then = refl } in
    let goes = turn-goes before c.args.request first c.entries.partition c.turn.new.self c.entries.fabric g (plain_stand c.steward.result) (plain_stand c.turn.new.steward) c.turn.result c.requires.free.free t c.entries.invariant.serving c.turn.ensures.turn in
    let moves = subst (λ turn. GoesOn turn before c.args.request first c.entries.partition c.turn.new.self g) c.in-Moved.is goes in
    let serving : IsServing before c.args.request first c.turn.new.self g = moves.0 in
    let paced : IsPacedBy c.turn.new.self g = record { vps = c.turn.ensures.paced.vps; pages = c.turn.ensures.paced.pages; turns = c.turn.ensures.paced.turns; cleared = c.turn.ensures.paced.cleared } in
    record { serving = search (rules, serving); paced = search (rules, paced) }

pub returns-in-Done-clause-done : goal.returns-in-Done-clause-done
returns-in-Done-clause-done c =
    let before = c.args.partition.now in
    let first = c.args.fabric.now in
    let g = c.turn.new.steward.fabric.now in
    let t : Tells c.entries.fabric g (plain_stand c.steward.result) (plain_stand c.turn.new.steward) = record { limits = search rules; told = search rules; limits_then = refl; told_then = refl } in
    let goes = turn-goes before c.args.request first c.entries.partition c.turn.new.self c.entries.fabric g (plain_stand c.steward.result) (plain_stand c.turn.new.steward) c.turn.result c.requires.free.free t c.entries.invariant.serving c.turn.ensures.turn in
    let served : IsServed before c.args.request first c.in-Done.reply c.turn.new.self g = subst (λ turn. GoesOn turn before c.args.request first c.entries.partition c.turn.new.self g) c.in-Done.is goes in
    few-done before c.args.request c.in-Done.reply c.requires.slice served.reply_is
