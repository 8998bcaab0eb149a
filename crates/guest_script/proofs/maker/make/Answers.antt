use Rattle.guest_script.specs.Made.{made}
use Rattle.guest_script.proofs.MadePrintable.{made_is_printable, made_is_within}
use Rattle.guest_script.proofs.ReadBack.{reads_back}
use Rattle.guest_script.proofs.maker.make.Goals as goal

pub returns-clause-within : goal.returns-clause-within
unfolding made
returns-clause-within c =
    rw (c.new.ensures, c.in_ok-words.ensures, c.in_ok-programs.ensures, c.in_ok-schedule.ensures) (made_is_within c.args.n c.requires.some c.requires.most)

pub returns-clause-spelled : goal.returns-clause-spelled
unfolding made
returns-clause-spelled c =
    rw (c.new.ensures, c.in_ok-words.ensures, c.in_ok-programs.ensures, c.in_ok-schedule.ensures) (reads_back (made c.args.n) (made_is_printable c.args.n c.requires.some c.requires.most))
