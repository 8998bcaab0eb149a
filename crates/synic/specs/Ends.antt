-- What an end of message answers (TLFS, EOM Register).
use Rattle.std.specs.Prelude.{ℕ, Bool, true, false, if◌then◌else◌, Option, List, [], ◌∷◌}
use Rattle.vsm_core.specs.Controllers.{is_open, has_none}
use Rattle.vsm_core.specs.declared.mark.EomWord.{EomWord}
use Rattle.vsm_core.specs.declared.mark.EomWord.TheVariants as words
use Rattle.vsm_core.specs.declared.note.Note.{Note}
use Rattle.synic.specs.declared.controller.EomStep.{EomStep}
use Rattle.synic.specs.declared.controller.EomStep.TheVariants.{Nothing, Slot, Waiting}

abbrev pub some_wait : List Note → Bool
some_wait notes = if has_none notes then false else true

-- nothing where no note waits; where the slot is there and free, the oldest note, and whether others wait behind it
abbrev pub eom_step : Option ℕ → List Note → EomStep
eom_step slot [] = Nothing
eom_step slot (note ∷ more) = if is_open slot then Slot note (some_wait more) else Waiting

-- the word by which an answer is told
abbrev pub eom_word : EomStep → EomWord
eom_word Nothing = words.Nothing
eom_word (Slot note more) = words.Slot
eom_word Waiting = words.Waiting
