use Rattle.std.proofs.Common.{ap}
use Rattle.partition.specs.Blocks.{UnderFits}
use Rattle.partition.specs.PartView.{PartView}
use Rattle.partition.proofs.Sounds.{rest-within, fits-stand}
use Rattle.partition.proofs.serving.Partition.turn.Goals as goal

pub add-requires-clause-page : goal.add-requires-clause-page
add-requires-clause-page g c =
    let i = c.self.inside in
    let u = c.in-Some.under in
    let h = rw c.in-Some.is at c.self.invariant in
    let f : UnderFits i.state.rounds (g.S.Steward.stand c.args.steward.now) u = fits-stand i.state i.journal u _ c.args.self.now _ (ap (λ (v : PartView). v.state) c.self.view_is) (ap (λ (v : PartView). v.journal) c.self.view_is) c.requires.paced h in
    let n = rw c.in-Entry.is at (c.make_next-next.ensures.next i.state.rounds f) in
    rw h.pages (rest-within _ _ _ _ _ u.by u.first u.round c.in-Entry.entry _ h.fits n.0.0)
