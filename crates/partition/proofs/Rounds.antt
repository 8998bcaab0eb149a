-- Each step of a round makes the next of its entries.
use Rattle.std.proofs.Common.{◌≡◌, ◌≢◌, ℕ, zero, suc, ◌+◌, ◌-◌, ◌<◌, ◌≤◌, Bool, true, false, nat_lt, List, [], ◌∷◌, refl, ap, sym, ◌∙◌, arith}
use Rattle.std.proofs.lemmas.Bool.Decides.{nat_tests}
use Rattle.vsm_base.specs.declared.places.Page.{Page}
use Rattle.vsm_base.specs.declared.places.VpIndex.{VpIndex}
use Rattle.vsm_core.specs.Blocks.{ask, clear, round}
use Rattle.vsm_core.specs.Stand.{Stand, Serves}
use Rattle.vsm_core.specs.declared.journal.Entry.TheVariants as entries
use Rattle.vsm_core.specs.declared.event.Event.TheVariants as events
use Rattle.flush_round.specs.declared.round.Stage.{Stage}
use Rattle.flush_round.specs.declared.round.Stage.TheVariants.{Asking, Clearing, Over}
use Rattle.flush_round.specs.declared.step.RoundStep.{RoundStep}
use Rattle.flush_round.specs.Steps.{RoundView, IsReady, Steps, ClearsOrReports, ClearsBy, clears, entries_left, vp_at}
use Rattle.partition.specs.Blocks.{StageFits, RoundFitsAt, RoundStillFits, RoundMoves, IsMore, NextBy, RoundNext, next_of}

pub more-round : (n : ℕ) (asks : List (Page × ℕ)) (k : ℕ) (by : VpIndex) → IsMore (round n asks k by)
more-round n [] k by = (entries.Turn k by, clears 0 n k, refl)
more-round n (a ∷ asks) k by = (ask a, round n asks k by, refl)

more-clears : (at n k : ℕ) → IsMore (clears at n k)
more-clears at zero k = (entries.Report k, [], refl)
more-clears at (suc n) k = (clear at, clears (at + 1) n k, refl)

less : (n c : ℕ) → c < n → n - c ≡ suc (n - (c + 1))
less n c h = omega arith

none : (n c : ℕ) → n ≤ c → n - c ≡ 0
none n c h = omega arith

lt_of : (n c : ℕ) → nat_lt c n ≡ true → c < n
lt_of n c h = grind (arith, nat_tests)

le_of : (n c : ℕ) → nat_lt c n ≡ false → n ≤ c
le_of n c h = grind (arith, nat_tests)

all_of : (n : ℕ) → n - 0 ≡ n
all_of n = omega arith

clears-first : (n c k : ℕ) → c < n → clears c (n - c) k ≡ clear c ∷ clears (c + 1) (n - (c + 1)) k
clears-first n c k h = rw (less n c h) refl

clears-none : (n c k : ℕ) → n ≤ c → clears c (n - c) k ≡ entries.Report k ∷ []
clears-none n c k h = rw (none n c h) refl

cleared_by : (busy : Bool) (k n : ℕ) (by : VpIndex) (asks : List (Page × ℕ)) (t c : ℕ) (before : Stand) (new : RoundView) (after : Stand) (step : RoundStep)
    → c < n → Serves before (events.Clear (vp_at c) busy) after
    → ClearsBy busy (record { vps = n; asks = asks; stage = Clearing t c }) t c new step
    → NextBy (clears c (n - c) t) before (entries_left new k by) after (next_of by step)
cleared_by true k n by asks t c before new after step lt m h =
    rw (h.1, h.0) (clears (c + 1) (n - (c + 1)) t, clears-first n c t lt, refl, m)
cleared_by false k n by asks t c before new after step lt m h =
    rw (h.1, h.0) (clears-first n c t lt, m, more-clears (c + 1) (n - (c + 1)) t)

cleared : (b : Bool) (k n : ℕ) (by : VpIndex) (asks : List (Page × ℕ)) (t c : ℕ) (before : Stand) (new : RoundView) (after : Stand) (step : RoundStep)
    → nat_lt c n ≡ b
    → ClearsOrReports b (record { vps = n; asks = asks; stage = Clearing t c }) t c before new after step
    → NextBy (clears c (n - c) t) before (entries_left new k by) after (next_of by step)
cleared true k n by asks t c before new after step e h = cleared_by h.0 k n by asks t c before new after step (lt_of n c e) h.1 h.2
cleared false k n by asks t c before new after step e h = rw h.2 (clears-none n c t (le_of n c e), h.0)

next-of-step : (k n : ℕ) (by : VpIndex) (asks : List (Page × ℕ)) (stage : Stage) (before : Stand) (new : RoundView) (after : Stand) (step : RoundStep)
    → Steps (record { vps = n; asks = asks; stage = stage }) before new after step
    → RoundNext k by (record { vps = n; asks = asks; stage = stage }) before new after (next_of by step)
next-of-step k n by (a ∷ asks) Asking before new after step h e = rw (h.2, h.1) (refl, h.0, more-round n asks k by)
next-of-step k n by [] Asking before new after step h e =
    rw (h.3, h.2) (let q : h.0 ≡ k = h.1.round ∙ e refl in rw (q, all_of n) refl, h.1, more-clears 0 (n - 0) h.0)
next-of-step k n by asks (Clearing t c) before new after step h e = cleared (nat_lt c n) k n by asks t c before new after step refl h
next-of-step k n by asks Over before new after step h e = elim h [ ]

-- a round that fits may make a step
pub fits-ready : (k n : ℕ) (s : Stand) (asks : List (Page × ℕ)) (stage : Stage) → RoundFitsAt k s (record { vps = n; asks = asks; stage = stage }) → IsReady (record { vps = n; asks = asks; stage = stage }) s
fits-ready k n s asks Asking f =
    record { vps = sym f.same; asks = f.asks; stage = (f.stage.0 ∙ sym f.same, omega (arith, f.stage.1, f.small)) }
fits-ready k n s asks (Clearing t c) f =
    record { vps = sym f.same; asks = f.asks; stage = (f.stage.0, f.stage.1, omega (arith, f.stage.2, f.same)) }
fits-ready k n s asks Over f = elim f.stage [ ]

pub fits-going : (k vps turns cleared : ℕ) (stage : Stage) → StageFits vps k turns cleared stage → stage ≢ Over
fits-going k vps turns cleared Asking f = λ e. cc
fits-going k vps turns cleared (Clearing t c) f = λ e. cc
fits-going k vps turns cleared Over f = elim f [ ]

still-cleared-by : (busy : Bool) (k n : ℕ) (by : VpIndex) (asks : List (Page × ℕ)) (t c : ℕ) (before : Stand) (new : RoundView) (after : Stand) (step : RoundStep)
    → c < n → RoundFitsAt k before (record { vps = n; asks = asks; stage = Clearing t c })
    → Serves before (events.Clear (vp_at c) busy) after
    → ClearsBy busy (record { vps = n; asks = asks; stage = Clearing t c }) t c new step
    → RoundStillFits k (next_of by step) new after
still-cleared-by true k n by asks t c before new after step lt f m h =
    rw (h.1, h.0, m.after) (record { same = f.same; small = f.small; asks = f.asks; stage = f.stage })
still-cleared-by false k n by asks t c before new after step lt f m h =
    rw (h.1, h.0, m.after) (record { same = f.same; small = f.small; asks = f.asks; stage = (f.stage.0, ap (λ x. x + 1) f.stage.1, omega (arith, f.same), f.stage.3) })

still-cleared : (b : Bool) (k n : ℕ) (by : VpIndex) (asks : List (Page × ℕ)) (t c : ℕ) (before : Stand) (new : RoundView) (after : Stand) (step : RoundStep)
    → nat_lt c n ≡ b → RoundFitsAt k before (record { vps = n; asks = asks; stage = Clearing t c })
    → ClearsOrReports b (record { vps = n; asks = asks; stage = Clearing t c }) t c before new after step
    → RoundStillFits k (next_of by step) new after
still-cleared true k n by asks t c before new after step e f h = still-cleared-by h.0 k n by asks t c before new after step (lt_of n c e) f h.1 h.2
still-cleared false k n by asks t c before new after step e f h =
    let q = le_of n c e in
    rw (h.2, h.0) (omega (arith, q, f.same, f.stage.1, f.stage.2), f.stage.0 ∙ f.stage.3)

still-of-step : (k n : ℕ) (by : VpIndex) (asks : List (Page × ℕ)) (stage : Stage) (before : Stand) (new : RoundView) (after : Stand) (step : RoundStep)
    → RoundFitsAt k before (record { vps = n; asks = asks; stage = stage })
    → Steps (record { vps = n; asks = asks; stage = stage }) before new after step
    → RoundStillFits k (next_of by step) new after
still-of-step k n by (a ∷ asks) Asking before new after step f h =
    rw (h.2, h.1, h.0.after) (record { same = f.same; small = f.small; asks = f.asks.1; stage = f.stage })
still-of-step k n by [] Asking before new after step f h =
    rw (h.3, h.2, h.1.after) (record { same = f.same; small = f.small; asks = tt; stage = (refl, refl, omega arith, h.1.round ∙ f.stage.1) })
still-of-step k n by asks (Clearing t c) before new after step f h = still-cleared (nat_lt c n) k n by asks t c before new after step refl f h
still-of-step k n by asks Over before new after step f h = elim h [ ]

asking-turns : (k vps turns cleared : ℕ) (stage : Stage) → StageFits vps k turns cleared stage → stage ≡ Asking → turns + 1 ≡ k
asking-turns k vps turns cleared Asking f e = f.1
asking-turns k vps turns cleared (Clearing t c) f e = cc
asking-turns k vps turns cleared Over f e = elim f [ ]

-- a round that fits, after its step: the entry was the next, and the round fits where another is left
pub moves-of-step : (k n : ℕ) (by : VpIndex) (asks : List (Page × ℕ)) (stage : Stage) (before : Stand) (new : RoundView) (after : Stand) (step : RoundStep)
    → RoundFitsAt k before (record { vps = n; asks = asks; stage = stage })
    → Steps (record { vps = n; asks = asks; stage = stage }) before new after step
    → RoundMoves k by (record { vps = n; asks = asks; stage = stage }) before new after (next_of by step)
moves-of-step k n by asks stage before new after step f h =
    (next-of-step k n by asks stage before new after step h (asking-turns _ _ _ _ stage f.stage), still-of-step k n by asks stage before new after step f h)
