-- When a text is as expected.
use Rattle.std.specs.Prelude.{◌≡◌, ◌-◌, ◌≤◌, ℕ, List, length, take, drop}
use Rattle.vsm_serve.specs.declared.status.Status.{Status}
use Rattle.vsm_cases.specs.declared.case.Expected.{Expected}
use Rattle.vsm_cases.specs.declared.case.Rule.{Rule}
use Rattle.vsm_cases.specs.declared.case.Rule.TheVariants.{Whole, Begins, Ends}

-- by the rule: the text that came is the one that is expected, or begins or ends with it
abbrev pub Agrees : Rule → List ℕ → List ℕ → Type 0
Agrees Whole expected came = came ≡ expected
Agrees Begins expected came = take (length expected) came ≡ expected
Agrees Ends expected came = (length expected ≤ length came) × (drop (length came - length expected) came ≡ expected)

-- a run's status and text are those that are expected
pub record Gives (expected : Expected) (status : Status) (came : List ℕ) : Type 0 where
  pub status_agrees : status ≡ expected.status
  pub text_agrees : Agrees expected.rule expected.text.items came
