-- The steps that the code asks, as the definitions have them.
use Rattle.std.specs.Prelude.{ℕ, IsTrue}
use Rattle.vsm_base.specs.Masks.{is_mask}
use Rattle.vsm_core.specs.Tree.{WordStep, Entering, Checking, Masking, Reading, Writing, Leaving, Posting, Taking}
use Rattle.attempt.specs.declared.stage.Step.{Step}
use Rattle.attempt.specs.declared.stage.Step.TheVariants as steps

abbrev pub word_step : Step → WordStep
word_step steps.Enter = Entering
word_step steps.Check = Checking
word_step (steps.Mask page) = Masking page.0
word_step (steps.Read page index) = Reading page.0 index
word_step (steps.Write page index value) = Writing page.0 index value
word_step steps.Leave = Leaving
word_step (steps.Post vp word bits) = Posting vp.0 word bits
word_step (steps.Take word) = Taking word

-- what such a step may be answered: a mask word holds a mask
abbrev pub IsAnswer : WordStep → ℕ → Type 0
IsAnswer (Masking page) x = IsTrue (is_mask x)
IsAnswer _ x = Unit {0}
