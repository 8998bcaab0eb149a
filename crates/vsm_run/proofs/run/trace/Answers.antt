use Rattle.std.proofs.Common.{◌≡◌, ◌∙◌, ap, sym, subst, List, length}
use Rattle.vsm_core.specs.declared.operation.Program.{Program}
use Rattle.vsm_core.specs.Blocks.{IsWhole}
use Rattle.vsm_core.specs.Journal.{masks}
use Rattle.vsm_core.specs.Served.{joined}
use Rattle.vsm_report.specs.declared.report.Report.{Report}
use Rattle.vsm_report.specs.FlatRun.{served}
use Rattle.vsm_report.specs.Opening.{opening_masks}
use Rattle.vsm_report.proofs.Serving.{served-are, flat-whole, flat-masks}
use Rattle.vsm_report.proofs.Stepping.{flat-journal, traced-flat}
use Rattle.vsm_run.proofs.Reports.{report-traced}
use Rattle.vsm_run.proofs.run.trace.Goals as goal

pub into_report-requires-clause-empty : goal.into_report-requires-clause-empty
into_report-requires-clause-empty c =
    let all : length c.schedule.new.self.world.vps ≡ c.args.script.now.limits.vps =
    c.schedule.ensures.fits.many ∙ ap (λ (ps : List Program). length ps) c.as_slice.ensures ∙ c.requires.programs in
    rw (c.schedule.ensures.limits, c.in_ok-run.ensures.limits, all) c.in_ok-rooms.ensures

pub returns-clause-by_steps : goal.returns-clause-by_steps
returns-clause-by_steps c =
    c.into_report.ensures ∙ report-traced c.args.script.now c.in_ok-run.run'.world c.schedule.new.self.world c.schedule.new.self.limits c.as_slice.result.now c.as_slice-2.result.now
    (c.schedule.ensures.limits ∙ c.in_ok-run.ensures.limits) c.in_ok-run.ensures.world c.as_slice.ensures c.as_slice-2.ensures c.schedule.ensures.acts

pub returns-clause-at_once : goal.returns-clause-at_once
returns-clause-at_once c = returns-clause-by_steps c ∙ traced-flat c.args.script.now c.requires

pub returns-clause-served : goal.returns-clause-served
returns-clause-served c = served-are c.args.script.now

pub returns-clause-journal : goal.returns-clause-journal
returns-clause-journal c =
    let s = c.args.script.now in subst (λ (r : Report). r.journal ≡ joined (served s)) (sym (returns-clause-at_once c)) (flat-journal s)

pub returns-clause-whole : goal.returns-clause-whole
returns-clause-whole c =
    let s = c.args.script.now in subst (λ (r : Report). IsWhole s.limits.vps r.journal) (sym (returns-clause-at_once c)) (flat-whole s)

pub returns-clause-masks : goal.returns-clause-masks
returns-clause-masks c =
    let s = c.args.script.now in subst (λ (r : Report). r.masks ≡ masks (opening_masks s) r.journal) (sym (returns-clause-at_once c)) (flat-masks s)
