use Rattle.vsm_report.proofs.marks.put_denied.Goals as goal

pub returns : goal.returns
returns g c = rw (← c.bits-mask.ensures.value, ← c.access_word-access.ensures, ← c.posted_word-posted.ensures) c.put_pieces.ensures
