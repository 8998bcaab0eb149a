use Rattle.std.proofs.Common.{arith, ◌≡◌, ◌∙◌, get_or, ap, List}
use Rattle.vsm_core.specs.declared.operation.Program.{Program}
use Rattle.vsm_run.proofs.First.{opening-more}
use Rattle.vsm_run.proofs.opening.opening_cpus.Goals as goal

pub loop-vp-preserved : goal.loop-vp-preserved
loop-vp-preserved c =
    let s = c.args.script.now in
    let p = c.loop-vp.vp in
    let program = c.index-programs-vp.result in
    let at : program ≡ get_or s.programs p program = c.index-programs-vp.is ∙ ap (λ (ps : List Program). get_or ps p program) c.as_slice-programs.ensures in
    let all = c.requires.programs in
    c.in_ok-push.ensures.items ∙ opening-more s p program c.in_ok-cpu.cpu c.loop-vp.cpus.items (omega arith) at c.in_ok-cpu.ensures c.loop-vp.invariant
