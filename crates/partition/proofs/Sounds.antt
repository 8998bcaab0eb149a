-- A partition stays sound.
use Rattle.std.proofs.Common.{◌≡◌, ℕ, zero, suc, ◌+◌, ◌-◌, ◌<◌, ◌≤◌, ◌^◌, Bool, Option, Some, None, List, [], ◌∷◌, length, refl, sym, ◌∙◌, arith, subst}
use Rattle.vsm_base.specs.declared.places.Page.{Page}
use Rattle.vsm_base.specs.declared.places.VpIndex.{VpIndex}
use Rattle.vsm_core.specs.Served.{Service}
use Rattle.vsm_core.specs.Stand.{Stand}
use Rattle.vsm_core.specs.declared.journal.Entry.{Entry}
use Rattle.vsm_core.specs.declared.journal.Entry.TheVariants as entries
use Rattle.vsm_core.specs.declared.partition_state.PartitionState.{PartitionState}
use Rattle.flush_round.specs.declared.round.Stage.{Stage}
use Rattle.flush_round.specs.declared.round.Stage.TheVariants.{Asking, Clearing, Over}
use Rattle.flush_round.specs.Steps.{entries_in, RoundView, entries_left, clears, AreWithin}
use Rattle.protection_map.specs.JournalView.{JournalView, IsWithin}
use Rattle.partition.specs.declared.block.Under.{Under}
use Rattle.partition.specs.Blocks.{IsMore, IsSingle, RoundFits, RestFits, UnderFits, rest_in}
use Rattle.partition.specs.PartView.{PartView}
use Rattle.partition.specs.Plans.{IsFresh, IsNew, Plans, doing}
use Rattle.partition.specs.Sound.{IsSound}
use Rattle.partition.specs.Turns.{IsPaced}
use Rattle.partition.proofs.Rounds.{more-round}

round-fits : (n pages k k1 turns cleared : ℕ) (r : RoundView) → IsFresh n pages r → k1 ≡ k + 1 → k1 < 2 ^ 64 → cleared ≡ n → turns ≡ k → RoundFits n pages k1 turns cleared r
round-fits n pages k k1 turns cleared r f e lt a b =
    record { same = f.same; small = lt; asks = f.asks; stage = rw f.stage (a, omega arith) }

-- what is left of a request that has not begun fits where the rounds before it are over
rest-fits : (n pages k k1 turns cleared : ℕ) (first : Option Entry) (round : Option RoundView) → IsNew n pages k k1 first round → k1 < 2 ^ 64 → cleared ≡ n → turns ≡ k → RestFits n pages k1 turns cleared first round
rest-fits n pages k k1 turns cleared (Some e) None i lt a b = (i.0, a, b ∙ sym i.1)
rest-fits n pages k k1 turns cleared (Some e) (Some r) i lt a b = (i.0, i.1.stage, round-fits n pages k k1 turns cleared r i.1 i.2 lt a b)
rest-fits n pages k k1 turns cleared None (Some r) i lt a b = round-fits n pages k k1 turns cleared r i.0 i.1 lt a b
rest-fits n pages k k1 turns cleared None None i lt a b = elim i [ ]

more-long : (es : List Entry) → IsMore es → 1 ≤ length es
more-long es m = rw m.2 (omega arith)

fresh-long : (k : ℕ) (by : VpIndex) (n pages : ℕ) (r : RoundView) → IsFresh n pages r → 1 ≤ length (entries_left r k by)
fresh-long k by n pages r f = rw f.stage (more-long _ (more-round r.vps r.asks k by))

rest-long : (n pages k k1 q : ℕ) (by : VpIndex) (first : Option Entry) (round : Option RoundView) → IsNew n pages k k1 first round → (1 ≤ length (rest_in q by first round)) × (k1 ≤ k + 1)
rest-long n pages k k1 q by (Some e) None i = (omega arith, omega (arith, i.1))
rest-long n pages k k1 q by (Some e) (Some r) i = (omega arith, omega (arith, i.2))
rest-long n pages k k1 q by None (Some r) i = (fresh-long q by n pages r i.0, omega (arith, i.1))
rest-long n pages k k1 q by None None i = elim i [ ]

sound-begun : (s s1 : PartitionState) (j : JournalView) (u : Under) (ended : List Bool) (o : Service) → IsSound s j None ended → Plans s s1 u o → length j.entries + length o.block ≤ j.room → IsSound s1 j (Some u) ended
sound-begun s s1 j u ended o h p room =
    let w = rest-long _ _ _ _ s1.rounds u.by u.first u.round p.fresh in
    record {
      few = omega (arith, p.vps, h.few);
      pages = h.pages ∙ sym p.pages;
      fits = rw (p.vps, p.pages) (rest-fits _ _ s.rounds s1.rounds _ _ u.first u.round p.fresh (omega (arith, w.1, h.rounds, h.room, h.small)) h.fits.0 h.fits.1);
      rounds = omega (arith, w.0, w.1, h.rounds);
      room = rw p.block room;
      small = h.small;
      told = h.told ∙ sym p.vps;
    }

free-inside : (k : ℕ) (u : Option Under) → doing k u ≡ None → u ≡ None
free-inside k None e = refl
free-inside k (Some u) e = cc

-- a request that was begun leaves a sound partition
pub sound-begins : (s s1 : PartitionState) (j : JournalView) (u0 : Option Under) (u : Under) (ended : List Bool) (o : Service) → doing s.rounds u0 ≡ None → IsSound s j u0 ended → Plans s s1 u o → length j.entries + length o.block ≤ j.room → IsSound s1 j (Some u) ended
sound-begins s s1 j u0 u ended o e h p room =
    let h0 : IsSound s j None ended = rw (free-inside _ u0 e) at h in
    sound-begun s s1 j u ended o h0 p room

single-within : (n pages : ℕ) (e : Entry) → IsSingle n e → IsWithin pages e
single-within n pages (entries.Enable by) i = tt
single-within n pages (entries.Level by vp) i = tt
single-within n pages (entries.Config by value) i = tt
single-within n pages (entries.Start by vp level) i = tt
single-within n pages (entries.Fetch vp) i = tt
single-within n pages (entries.Look by) i = tt
single-within n pages (entries.Refuse by status) i = tt
single-within n pages (entries.Ask page mask) i = elim i [ ]
single-within n pages (entries.Turn k by) i = elim i [ ]
single-within n pages (entries.Clear vp) i = elim i [ ]
single-within n pages (entries.Report k) i = elim i [ ]

within-along : (pages : ℕ) (e d : Entry) → d ≡ e → IsWithin pages d → IsWithin pages e
within-along pages e d p h = let P : Entry → Type 0 = IsWithin pages in subst P p h

head : (xs ys : List Entry) (d e : Entry) → d ∷ xs ≡ e ∷ ys → d ≡ e
head xs ys d e p = cc

clears-within : (pages at n k : ℕ) (e : Entry) (rest : List Entry) → clears at n k ≡ e ∷ rest → IsWithin pages e
clears-within pages at zero k e rest p = within-along pages e _ (head _ _ _ _ p) tt
clears-within pages at (suc n) k e rest p = within-along pages e _ (head _ _ _ _ p) tt

round-within : (pages k n : ℕ) (by : VpIndex) (asks : List (Page × ℕ)) (stage : Stage) (e : Entry) (rest : List Entry) → AreWithin pages asks → entries_in n asks stage k by ≡ e ∷ rest → IsWithin pages e
round-within pages k n by [] Asking e rest w p = within-along pages e _ (head _ _ _ _ p) tt
round-within pages k n by (a ∷ asks) Asking e rest w p = within-along pages e _ (head _ _ _ _ p) w.0
round-within pages k n by asks (Clearing t c) e rest w p = clears-within pages c (n - c) t e rest p
round-within pages k n by asks Over e rest w p = cc

-- the page of the next entry, where that is an ask, is one of the partition's
pub rest-within : (vps pages k turns cleared : ℕ) (by : VpIndex) (first : Option Entry) (round : Option RoundView) (e : Entry) (rest : List Entry) → RestFits vps pages k turns cleared first round → rest_in k by first round ≡ e ∷ rest → IsWithin pages e
rest-within vps pages k turns cleared by (Some d) None e rest f p = within-along pages e d (head _ _ _ _ p) (single-within vps pages d f.0)
rest-within vps pages k turns cleared by (Some d) (Some r) e rest f p = within-along pages e d (head _ _ _ _ p) (single-within vps pages d f.0)
rest-within vps pages k turns cleared by None (Some r) e rest f p = round-within pages k r.vps by r.asks r.stage e rest f.asks p
rest-within vps pages k turns cleared by None None e rest f p = elim f [ ]

-- the steward stands where the journal does
pub fits-stand : (s : PartitionState) (j : JournalView) (u : Under) (stand : Stand) (v : PartView) (ended : List Bool) → s ≡ v.state → j ≡ v.journal → IsPaced v stand → IsSound s j (Some u) ended → UnderFits s.rounds stand u
fits-stand s j u stand v ended a b h f =
    let p : IsPaced (record { state = s; journal = j; under = v.under; ended = v.ended }) stand = rw (a, b) h in
    rw (p.vps, p.pages ∙ f.pages, p.turns, p.cleared) f.fits
