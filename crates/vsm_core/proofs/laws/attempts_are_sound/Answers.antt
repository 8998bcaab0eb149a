use Rattle.vsm_core.proofs.Soundness.{attempt-sound, start-sound}
use Rattle.vsm_core.proofs.laws.attempts_are_sound.Goals as goal

pub returns-clause-attempts : goal.returns-clause-attempts
returns-clause-attempts c = attempt-sound

pub returns-clause-starts : goal.returns-clause-starts
returns-clause-starts c = start-sound
