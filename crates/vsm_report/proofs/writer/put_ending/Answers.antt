use Rattle.vsm_report.proofs.writer.put_ending.Goals as goal

pub returns-in-Fault : goal.returns-in-Fault
returns-in-Fault g c = rw (c.in-Fault.is, ← c.fault_word.ensures) c.put_pieces.ensures
