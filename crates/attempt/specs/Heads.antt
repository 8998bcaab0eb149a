-- What comes next of a tree.
use Rattle.std.specs.Prelude.{◌≡◌, Bool, true, false}
use Rattle.vsm_core.specs.Outcomes.{Origin, Outcome}
use Rattle.vsm_core.specs.Tree.{Tree, Ends, Asks, Wants}
use Rattle.attempt.specs.declared.stage.Next.{Next}
use Rattle.attempt.specs.declared.stage.Next.TheVariants.{Ask, Want, End}
use Rattle.attempt.specs.declared.stage.Stage.{Stage}
use Rattle.attempt.specs.declared.stage.Stage.TheVariants as stages
use Rattle.attempt.specs.declared.under.Under.{Under}
use Rattle.attempt.specs.Asked.{word_step}
use Rattle.attempt.specs.Calls.{request_for}
use Rattle.attempt.specs.Results.{result_of}

-- the tree begins with this
abbrev pub IsHeadOf : Origin → Under → Tree Outcome → Next → Type 0
IsHeadOf from u (Asks s k) (Ask step) = s ≡ word_step step
IsHeadOf from u (Wants q k) (Want asked) = q ≡ request_for from u asked
IsHeadOf from u (Ends o) End = o ≡ result_of from u
IsHeadOf from u _ _ = ⊥

-- a request and an end come next at the stages that say so
abbrev pub StandsAt : Next → Stage → Type 0
StandsAt (Ask step) stage = Unit {0}
StandsAt (Want asked) stage = stage ≡ stages.Want asked
StandsAt End stage = stage ≡ stages.End

-- whether the tree goes on: it asks something, or has come to the end that was decided
abbrev pub GoesOn : Origin → Under → Tree Outcome → Bool → Type 0
GoesOn from u (Asks s k) true = Unit {0}
GoesOn from u (Wants q k) true = Unit {0}
GoesOn from u (Ends o) false = o ≡ result_of from u
GoesOn from u _ _ = ⊥
