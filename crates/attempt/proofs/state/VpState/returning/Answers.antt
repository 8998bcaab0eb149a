use Rattle.std.proofs.Common.{◌≡◌, true, Some, refl, sym, ap, ◌∙◌, rules}
use Rattle.vsm_core.specs.Switch.{may_return, restored_from}
use Rattle.vtl_switch.specs.Answers.{page_of}
use Rattle.attempt.proofs.state.VpState.returning.Goals as goal

pub returns-in-Ok-Restore : goal.returns-in-Ok-Restore
returns-in-Ok-Restore c =
    let view = c.args.self.now in
    let may : may_return view.state ≡ true = rw (← c.self.view_is) (c.in-Ok-Restore.ensures.exact.0 refl) in
    let on : restored_from view.limits.pages view.state ≡ Some c.in-Ok-Restore.page.0 =
    rw (← c.self.view_is) (sym c.in-Ok-Restore.ensures.page ∙ ap page_of c.in-Ok-Restore.field-0-is) in
    record { rest = rw (may, on) refl; is = search rules; op = search rules }
