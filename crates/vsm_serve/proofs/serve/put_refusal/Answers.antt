use Rattle.vsm_serve.proofs.serve.put_refusal.Goals as goal

pub returns : goal.returns
returns g c = rw (← c.text.ensures) c.write_pieces.ensures
