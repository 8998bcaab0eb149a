use Rattle.std.proofs.Common.{◌∙◌, refl, sym, ap, rules}
use Rattle.vtl_switch.specs.Answers.{number_of}
use Rattle.attempt.proofs.state.VpState.intercepting.Goals as goal

pub returns-in-Some : goal.returns-in-Some
returns-in-Some c = record {
  rest = rw (c.end.ensures, sym c.message_page.ensures.page ∙ ap number_of c.in-Some.is) refl;
  is = search rules;
  op = search rules;
}
