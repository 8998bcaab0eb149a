use Rattle.partition.proofs.Rounds.{moves-of-step, fits-ready, fits-going}
use Rattle.partition.proofs.block.round_next.Goals as goal

pub step-step-requires-clause-going : goal.step-step-requires-clause-going
step-step-requires-clause-going g c = fits-going _ _ _ _ _ c.requires.1.stage

pub step-step-requires-clause-ready : goal.step-step-requires-clause-ready
step-step-requires-clause-ready g c = fits-ready _ _ _ _ _ c.requires.1

pub returns : goal.returns
returns g c =
    λ k f. rw c.next_of.ensures (moves-of-step k c.args.round.now.vps c.args.by c.args.round.now.asks c.args.round.now.stage _ _ _ _ f c.step-step.ensures.step)
