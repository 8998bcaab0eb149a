use Rattle.std.proofs.Common.{rules, sym, ap, ◌∙◌}
use Rattle.flush_round.specs.Asks.{asks_from}
use Rattle.flush_round.specs.Steps.{RoundView, IsReady}
use Rattle.flush_round.proofs.Within.{may-ask, ready-asked}
use Rattle.flush_round.proofs.round.Round.step.Goals as goal

pub ask-requires : goal.ask-requires
ask-requires g c =
    may-ask c.args.self.now _ _ _ _ (ap (λ (v : RoundView). v.asks) (sym c.self.view_is) ∙ c.in-Some.ensures.next) (ap (λ (v : RoundView). v.stage) (sym c.self.view_is) ∙ c.in-Asking.is) c.requires.ready

pub returns-in-Some-clause-ready : goal.returns-in-Some-clause-ready
returns-in-Some-clause-ready g c =
    let i = c.self.inside in
    let v : RoundView = record { vps = i.vps; asks = asks_from i.at i.asks; stage = i.stage } in
    let h : IsReady v (g.S.Steward.stand c.args.steward.now) = rw c.self.view_is c.requires.ready in
    ready-asked v _ (g.S.Steward.stand c.ask.new.self) c.in-Some.page c.in-Some.mask _ c.in-Some.ensures.next c.in-Asking.is h (search rules)
