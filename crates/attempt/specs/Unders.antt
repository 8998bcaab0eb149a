-- An attempt under way that was decided.
use Rattle.std.specs.Prelude.{ℕ, Option, None}
use Rattle.vsm_base.specs.declared.places.Page.{Page}
use Rattle.attempt.specs.declared.stage.Decided.{Decided}
use Rattle.attempt.specs.declared.stage.Asked.{Asked}
use Rattle.attempt.specs.declared.stage.Plan.{Plan}
use Rattle.attempt.specs.declared.stage.Stage.TheVariants.{Make, Depart, End}
use Rattle.attempt.specs.declared.under.Under.{Under}

-- no step is planned, but that the assist page is told the reason, where it is on
abbrev pub only_told : Option Page → ℕ → Plan
only_told told reason = record {
  page = record { 0 = 0 };
  at = 0;
  next = 0;
  count = 0;
  vector = None;
  told =
      told;
  reason = reason;
}

-- with no step left
abbrev pub ended : Under → Decided → Under
ended u decided = record u { stage = End; decided = decided }

-- once these steps are made and the access is left
abbrev pub made_by : Under → Plan → Decided → Under
made_by u plan decided = record u { plan = plan; stage = Make; decided = decided }

-- once the access is left
abbrev pub left : Under → Decided → Under
left u decided = made_by u (only_told None 0) decided

-- once the access is left and the partition has answered this
abbrev pub departing : Under → Asked → Under
departing u asked = record u { stage = Depart asked }
