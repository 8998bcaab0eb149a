-- The first entry of a request, which is no part of its round.
use Rattle.std.proofs.Common.{◌≡◌, ℕ, true, Option, Some, None, refl}
use Rattle.std.specs.Option.{is_some}
use Rattle.vsm_base.specs.declared.places.VpIndex.{VpIndex}
use Rattle.vsm_core.specs.Entries.{step_of}
use Rattle.vsm_core.specs.Stand.{Stand}
use Rattle.vsm_core.specs.declared.journal.Entry.{Entry}
use Rattle.vsm_core.specs.declared.journal.Entry.TheVariants as entries
use Rattle.vsm_core.specs.declared.request.Reply.{Reply}
use Rattle.flush_round.specs.declared.round.Stage.TheVariants.{Asking}
use Rattle.flush_round.specs.Steps.{RoundView, entries_left}
use Rattle.partition.specs.declared.block.Next.{Next}
use Rattle.partition.specs.declared.block.Next.TheVariants as nexts
use Rattle.partition.specs.Blocks.{IsMore, NextBy, IsSingle, RoundFitsAt, RoundMoves, RoundStillFits, RestFits, StillFits, rest_in}
use Rattle.partition.specs.Turns.{ServesIf}
use Rattle.partition.proofs.Rounds.{more-round}

-- what a step that belongs to no round keeps
record Stays (s t : Stand) : Type 0 where
  limits : t.limits ≡ s.limits
  turns : t.turns ≡ s.turns
  cleared : t.cleared ≡ s.cleared

same : (s t : Stand) → t ≡ s → Stays s t
same s t e = rw e (record { limits = refl; turns = refl; cleared = refl })

single-stays : (n : ℕ) (e : Entry) (s t : Stand) → IsSingle n e → ServesIf s (step_of e) t → Stays s t
single-stays n (entries.Enable by) s t i m = same s t m
single-stays n (entries.Level by vp) s t i m = same s t m
single-stays n (entries.Config by value) s t i m = same s t m
single-stays n (entries.Start by vp level) s t i m = rw m.after (record { limits = refl; turns = refl; cleared = refl })
single-stays n (entries.Fetch vp) s t i m = same s t m
single-stays n (entries.Look by) s t i m = same s t m
single-stays n (entries.Refuse by status) s t i m = same s t m
single-stays n (entries.Ask page mask) s t i m = elim i [ ]
single-stays n (entries.Turn k by) s t i m = elim i [ ]
single-stays n (entries.Clear vp) s t i m = elim i [ ]
single-stays n (entries.Report k) s t i m = elim i [ ]

more-left : (r : RoundView) (k : ℕ) (by : VpIndex) → r.stage ≡ Asking → IsMore (entries_left r k by)
more-left r k by e = rw e (more-round r.vps r.asks k by)

-- the first entry of a request with a round
pub first-more : (k : ℕ) (by : VpIndex) (e : Entry) (first : Option Entry) (round : Option RoundView) (s t : Stand)
    → first ≡ Some e → is_some round ≡ true → RestFits s.limits.vps s.limits.pages k s.turns s.cleared first round → ServesIf s (step_of e) t
    → NextBy (rest_in k by first round) s (rest_in k by None round) t (nexts.Entry e) × RestFits t.limits.vps t.limits.pages k t.turns t.cleared None round
first-more k by e first None s t p q f m = cc
first-more k by e first (Some r) s t p q f m =
    let g : RestFits s.limits.vps s.limits.pages k s.turns s.cleared (Some e) (Some r) = rw p at f in
    let h = single-stays _ e s t g.0 m in
    ((rw p refl, m, more-left r k by g.1), rw (h.limits, h.turns, h.cleared) g.2)

still : (k : ℕ) (next : Next) (by : VpIndex) (reply : Reply) (r : RoundView) (t : Stand) → RoundStillFits k next r t → StillFits k next (record { by = by; first = None; round = Some r; reply = reply }) t
still k (nexts.Entry e) by reply r t h = h
still k (nexts.Busy vp) by reply r t h = h
still k (nexts.Last e) by reply r t h = h

-- a step of the round, where no first entry is left
pub round-moves : (k : ℕ) (by : VpIndex) (first : Option Entry) (round : Option RoundView) (reply : Reply) (r r1 : RoundView) (s t : Stand) (next : Next)
    → first ≡ None → round ≡ Some r
    → RestFits s.limits.vps s.limits.pages k s.turns s.cleared first round
    → (RoundFitsAt k s r → RoundMoves k by r s r1 t next)
    → NextBy (rest_in k by first round) s (rest_in k by first (Some r1)) t next × StillFits k next (record { by = by; first = first; round = Some r1; reply = reply }) t
round-moves k by first round reply r r1 s t next p q f h =
    let g : RestFits s.limits.vps s.limits.pages k s.turns s.cleared None (Some r) = rw (p, q) at f in
    let w = h g in
    rw (p, q) (w.0, still k next by reply r1 t w.1)
