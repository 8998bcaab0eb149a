use Rattle.vsm_report.proofs.marks.put_again.Goals as goal

pub returns-in-Spin : goal.returns-in-Spin
returns-in-Spin g c = rw (c.in-Spin.is) c.put_valued.ensures
