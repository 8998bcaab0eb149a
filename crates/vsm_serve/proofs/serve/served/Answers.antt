use Rattle.std.proofs.Common.{refl}
use Rattle.vsm_serve.proofs.serve.served.Goals as goal

pub returns-in-None-clause-says : goal.returns-in-None-clause-says
returns-in-None-clause-says g c =
    rw (← c.in-None.ensures.command) (refl, ((refl, refl), record { result = c.put_whole.result; put = c.put_whole.ensures }))
