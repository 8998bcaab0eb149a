use Rattle.vtl_state.proofs.Banks.{put_so}
use Rattle.vtl_state.proofs.registers.put_legal.Goals as goal

pub returns : goal.returns
returns c = put_so c.put.result c.args.bank.now c.put.new.self c.args.levels.now c.active.result c.args.name c.args.value c.active.ensures.active c.put.ensures.ok c.put.ensures.err c.put.ensures.exact
