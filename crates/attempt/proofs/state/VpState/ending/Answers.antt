use Rattle.std.proofs.Common.{◌≡◌, ◌==◌, Bool, true, false, cond, Option, Some, None, List, [], ◌∷◌, ℕ, length, refl}
use Rattle.std.proofs.Common.{sym, ap, ◌∙◌, rules}
use Rattle.vsm_base.specs.declared.places.Page.{Page}
use Rattle.vsm_core.specs.declared.note.Note.{Note}
use Rattle.vsm_core.specs.Attempt.{eom_on}
use Rattle.vsm_core.specs.Outcomes.{Origin, eom_outcome}
use Rattle.vsm_core.specs.Switch.{is_zero}
use Rattle.vsm_core.specs.Tree.{Ends}
use Rattle.vtl_switch.specs.Answers.{number_of}
use Rattle.attempt.specs.declared.stage.Inner.TheVariants.{Look}
use Rattle.attempt.specs.declared.stage.Matter.TheVariants.{Ending}
use Rattle.attempt.specs.declared.stage.Stage.TheVariants.{Enter}
use Rattle.attempt.specs.declared.under.Under.{Under}
use Rattle.attempt.specs.Rests.{stage_rest}
use Rattle.attempt.specs.Views.{origin_of}
use Rattle.attempt.proofs.state.VpState.ending.Goals as goal

begun-look : (from : Origin) (u : Under) (page : Page) (zero : Bool) (on : Option ℕ) (waiting : List Note)
    → zero ≡ false → on ≡ Some page.0 → (length waiting == 0) ≡ false
    → stage_rest from u (Enter (Look page Ending)) ≡ cond zero (Ends (eom_outcome from None)) (eom_on from on waiting)
begun-look from u page true on waiting z o w = cc
begun-look from u page false on [] z o w = cc
begun-look from u page false on (note ∷ more) z o w = rw o refl

pub returns : goal.returns
returns c =
    let from = origin_of c.args.self.now in
    let zero : is_zero from.state.active ≡ false = rw (← c.self.view_is, ← c.active.ensures.active, c.in-One.is) refl in
    let none : (length from.controllers.waiting == 0) ≡ false =
    rw (← c.self.view_is, ← c.waiting.ensures) (sym c.is_empty.ensures ∙ c.if-is_empty.false) in
    record {
      rest = begun-look from c.args.under.now c.in-Some.page _ _ _ zero
          (sym c.message_page.ensures.page ∙ ap number_of c.in-Some.is) none;
      is = search rules;
      op = search rules;
    }
