-- The pages of a round's asks are within the page count.
use Rattle.std.proofs.Common.{◌≡◌, ℕ, zero, suc, ◌+◌, ◌≤◌, arith, ◌<◌, List, ◌∷◌, ◌∙◌, sym}
use Rattle.vsm_base.specs.declared.places.Page.{Page}
use Rattle.vsm_core.specs.declared.event.Event.TheVariants.{Ask}
use Rattle.vsm_core.specs.Protection.{asks_for}
use Rattle.vsm_core.specs.Stand.{Stand, Serves, MayServe}
use Rattle.std.specs.List.{range_with_len}
use Rattle.flush_round.specs.declared.round.Stage.{Stage}
use Rattle.flush_round.specs.declared.round.Stage.TheVariants.{Asking}
use Rattle.flush_round.specs.Steps.{RoundView, AreWithin, IsReadyIn, IsReady}

-- the first ask and the others
pub within-first : (pages : ℕ) (asks rest : List (Page × ℕ)) (a : Page × ℕ) → asks ≡ a ∷ rest → AreWithin pages asks → (a.0.0 < pages) × AreWithin pages rest
within-first pages asks rest a e h = rw e at h

asking : (stage : Stage) (vps : ℕ) (s : Stand) → stage ≡ Asking → IsReadyIn stage vps s → IsReadyIn Asking vps s
asking stage vps s e h = rw e at h

-- the first ask may be made
pub may-ask : (r : RoundView) (s : Stand) (page : Page) (mask : ℕ) (rest : List (Page × ℕ)) → r.asks ≡ (page, mask) ∷ rest → r.stage ≡ Asking → IsReady r s → MayServe s (Ask page mask)
may-ask r s page mask rest e f h = ((asking _ _ _ f h.stage).0 ∙ sym h.vps, (within-first _ _ _ _ e h.asks).0)

-- and the steward then stands where the round does
pub ready-asked : (r : RoundView) (s t : Stand) (page : Page) (mask : ℕ) (rest : List (Page × ℕ)) → r.asks ≡ (page, mask) ∷ rest → r.stage ≡ Asking → IsReady r s → Serves s (Ask page mask) t → IsReady (record { vps = r.vps; asks = rest; stage = r.stage }) t
ready-asked r s t page mask rest e f h m =
    rw (m.after, f) (record { vps = h.vps; asks = (within-first _ _ _ _ e h.asks).1; stage = asking _ _ _ f h.stage })

-- the pages of a run of numbers
pub within_run : (count mask at n : ℕ) → at + n ≤ count → AreWithin count (asks_for mask (range_with_len at n))
within_run count mask at zero h = tt
within_run count mask at (suc n) h = (omega arith, within_run count mask (at + 1) n (omega arith))
