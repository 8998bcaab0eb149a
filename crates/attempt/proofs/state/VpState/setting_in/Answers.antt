use Rattle.std.proofs.Common.{◌∙◌, sym, ap, rules}
use Rattle.attempt.specs.Rests.{rest_of}
use Rattle.attempt.specs.Views.{VpView, origin_of}
use Rattle.attempt.proofs.Puts.{sets-asked, sets-done}
use Rattle.attempt.proofs.state.VpState.setting_in.Goals as goal

pub returns-in-Some : goal.returns-in-Some
returns-in-Some c =
    let from = origin_of c.args.self.now in
    let active = c.active.ensures.active ∙ ap (λ (v : VpView). v.state.active) c.self.view_is in
    let told = rw (c.in-Some.is, c.new.ensures, c.elements-start.ensures.start, c.elements-start.ensures.count)
    at c.write_in.ensures in
    record {
      rest = rw c.depart.ensures (sets-asked from c.args.under.now c.args.target c.args.under.now.slice c.in-Some.value
          (rw (← active) (sym told)));
      is = search rules;
      op = search rules;
    }

pub returns-in-None : goal.returns-in-None
returns-in-None c =
    let from = origin_of c.args.self.now in
    let active = c.active.ensures.active ∙ ap (λ (v : VpView). v.state.active) c.self.view_is in
    let told = rw (c.in-None.is, c.new.ensures, c.elements-start.ensures.start, c.elements-start.ensures.count)
    at c.write_in.ensures in
    record {
      rest = ap (rest_of from) c.leave.ensures
          ∙ sets-done from c.args.target c.args.under.now.slice (rw (← active) (sym told));
      is = search rules;
      op = search rules;
    }
