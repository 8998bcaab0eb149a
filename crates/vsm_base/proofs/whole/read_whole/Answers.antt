use Rattle.std.proofs.Common.{◌++◌, take}
use Rattle.vsm_base.specs.Whole.{LosesFront}
use Rattle.vsm_base.proofs.Known.{read_on, on_any}
use Rattle.vsm_base.proofs.whole.read_whole.Goals as goal

pub returns-in_err-extend_from_slice-in-Bytes-clause-front :
    goal.returns-in_err-extend_from_slice-in-Bytes-clause-front
returns-in_err-extend_from_slice-in-Bytes-clause-front g c =
    let old = g.S.Source.left c.args.source.now in
    let before = g.S.Source.left c.reading.source in
    let after = g.S.Source.left c.read-got.new.self in
    let came = take c.in-Bytes.count c.read-got.new.into in
    on_any c.from_residual.result (LosesFront old after) (c.reading.bytes.items ++ came, read_on old before after c.reading.bytes.items came c.reading.invariant.0 c.in-Bytes.ensures.content)
