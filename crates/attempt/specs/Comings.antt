-- What the end of an attempt does to a processor.
use Rattle.std.specs.Prelude.{◌≡◌, ◌+◌, ◌≤◌}
use Rattle.vsm_core.specs.declared.mark.What.{What}
use Rattle.vsm_core.specs.Outcomes.{Outcome}
use Rattle.attempt.specs.Views.{VpView}

-- it came to this outcome, which takes room for at most one note
pub record Comes (old new : VpView) (answer : What) (o : Outcome) : Type 0 where
  pub what : answer ≡ o.what
  pub state : new.state ≡ o.state
  pub controllers : new.controllers ≡ o.controllers
  pub limits : new.limits ≡ old.limits
  pub number : new.number ≡ old.number
  pub room : old.room ≤ new.room + 1
