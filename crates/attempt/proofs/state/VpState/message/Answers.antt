use Rattle.attempt.proofs.Puts.{twelve-put}
use Rattle.attempt.proofs.state.VpState.message.Goals as goal

pub returns-clause-steps : goal.returns-clause-steps
returns-clause-steps c = rw (c.nothing.ensures, c.copy_from_slice.ensures.after, c.sint0_vector-vector.ensures)
    (twelve-put c.args.self.now.number c.args.page.0 c.args.words.now _ _ c.told-words)
