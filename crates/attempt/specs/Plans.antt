-- The steps that a plan has left.
use Rattle.std.specs.Prelude.{◌≡◌, ℕ, ◌+◌, ◌≤◌, Option, Some, None, List, [], ◌∷◌, ◌++◌, take, drop}
use Rattle.vsm_core.specs.Attempt.{told_on}
use Rattle.vsm_core.specs.Controllers.{writes, rings}
use Rattle.vsm_core.specs.Tree.{WordStep}
use Rattle.vtl_switch.specs.Answers.{number_of}
use Rattle.attempt.specs.Asked.{word_step}
use Rattle.attempt.specs.declared.stage.Plan.{Plan}
use Rattle.attempt.specs.declared.stage.Step.{Step}

-- of the processor of this number, where these are the words
abbrev pub planned : ℕ → List ℕ → Plan → List WordStep
planned number words plan =
    (writes plan.page.0 (plan.at + plan.next) (drop plan.next (take plan.count words)) ++ rings number plan.vector)
    ++ told_on (number_of plan.told) plan.reason

-- its words stand in a page
pub record PlanIs (plan : Plan) : Type 0 where
  pub few : plan.count ≤ 16
  pub inside : plan.at + plan.count ≤ 512

-- the assist page isn't told by it yet; an interrupt would be the reason
pub record IsUntold (plan : Plan) : Type 0 where
  pub told : plan.told ≡ None
  pub reason : plan.reason ≡ 2
  pub is : PlanIs plan

-- the first step was taken from a plan, if it had one
abbrev pub IsPopped : ℕ → List ℕ → Plan → Plan → Option Step → Type 0
IsPopped number words old new None = planned number words old ≡ []
IsPopped number words old new (Some step) = planned number words old ≡ word_step step ∷ planned number words new
