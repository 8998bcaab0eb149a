use Rattle.std.proofs.Common.{rules, arith, ap, ◌∙◌, sym, subst, length, ◌+◌, ◌≤◌}
use Rattle.vsm_core.specs.Served.{serve, block}
use Rattle.partition.specs.PartView.{PartView}
use Rattle.partition.specs.Plans.{Plans}
use Rattle.partition.proofs.Sounds.{sound-begins}
use Rattle.partition.proofs.serving.Partition.begin.Goals as goal

pub plan-under-requires-clause-rounds : goal.plan-under-requires-clause-rounds
plan-under-requires-clause-rounds c = let h = c.self.invariant in omega (arith, h.rounds, h.room, h.small)

pub invariant_of-self : goal.invariant_of-self
invariant_of-self c =
    let R : PartView → Type 0 = λ v. length v.journal.entries + length (block v.state c.args.request) ≤ v.journal.room in
    let r = subst R (sym c.self.view_is) c.requires.room in
    let p : Plans c.self.inside.state c.plan-under.new.state c.plan-under.result (serve c.self.inside.state c.args.request) = search rules in
    sound-begins _ _ _ _ _ _ _ (ap (λ (v : PartView). v.under) c.self.view_is ∙ c.requires.free) c.self.invariant p r
