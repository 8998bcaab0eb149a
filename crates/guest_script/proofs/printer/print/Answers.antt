use Rattle.guest_script.proofs.ReadBack.{reads_back}
use Rattle.guest_script.proofs.Said.{said_is_printable}
use Rattle.guest_script.proofs.printer.print.Goals as goal

pub returns-in_err-push_script-clause-reads_back : goal.returns-in_err-push_script-clause-reads_back
returns-in_err-push_script-clause-reads_back c bytes said =
    reads_back c.args.script.now (said_is_printable bytes c.args.script.now said)

pub returns-clause-reads_back : goal.returns-clause-reads_back
returns-clause-reads_back c bytes said = reads_back c.args.script.now (said_is_printable bytes c.args.script.now said)
