use Rattle.std.proofs.Common.{◌≡◌, length, IsTrue}
use Rattle.guest_script.specs.Lines.{words_of}
use Rattle.guest_script.specs.Fields.{entries}
use Rattle.guest_script.specs.Schedules.{all_known}
use Rattle.guest_script.proofs.Entries.{with_front}
use Rattle.guest_script.proofs.reading.all_entries.Given as goal

abbrev pub invariant-loop-word : goal.invariant-loop-word
invariant-loop-word l =
    (with_front l.turns (entries l.vps (words_of l.rest)) ≡ entries l.vps (words_of l.line)) × IsTrue (all_known l.vps l.turns)

abbrev pub decreases-loop-word : goal.decreases-loop-word
decreases-loop-word l = length l.rest
