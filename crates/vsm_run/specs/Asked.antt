-- What an attempt asks of the partition, served at once.
use Rattle.std.specs.Prelude.{◌≡◌, ◌≢◌, ◌+◌, ◌≤◌, ◌<◌, ℕ, Bool, true, false, Some, List, [], ◌∷◌, length}
use Rattle.vsm_base.specs.declared.places.Limits.{Limits}
use Rattle.vsm_core.specs.declared.request.Request.{Request}
use Rattle.vsm_core.specs.Entries.{words_by_entries}
use Rattle.vsm_core.specs.Processor.{Vp, answered, rest_of}
use Rattle.vsm_core.specs.Protection.{IsSlice}
use Rattle.vsm_core.specs.Served.{answer, block}
use Rattle.vsm_core.specs.Tree.{by_reply}
use Rattle.cpu.specs.declared.cpu_turn.CpuTurn.{CpuTurn}
use Rattle.cpu.specs.declared.cpu_turn.CpuTurn.TheVariants as turns
use Rattle.cpu.specs.Turns.{AcceptsBy, asked_next}
use Rattle.partition.specs.PartView.{PartView}
use Rattle.vsm_run.specs.Serving.{IsFree, NoneBusy, with_served}

-- what the processor asked was served, with the step of each entry, and it took the reply; `goes_on` says whether its
-- attempt goes on
pub record HasAsked (limits : Limits) (goes_on : Bool) (v n : Vp) (before now : PartView) (words after : List ℕ) : Type 0 where
  pub request : Request
  pub turn : CpuTurn
  pub asks : asked_next v ≡ Some request
  pub slice : IsSlice request.call
  pub serves : now ≡ with_served before ((request, block before.state request) ∷ [])
  pub steps : after ≡ words_by_entries limits words (block before.state request)
  pub accepts : v.started ≡ true → AcceptsBy (rest_of v v.op) (answer before.state request) v n turn
  pub left : v.started ≡ true → rest_of (answered (answer before.state request) v) v.op ≡ by_reply (rest_of v v.op) (answer before.state request)
  pub moves : goes_on ≡ true → turn ≡ turns.Moved
  pub ends : goes_on ≡ false → turn ≢ turns.Moved

-- the partition may serve this at once: it is free, there is the processor that asks, there is room for all entries, and no processor is in an access
pub record MayServe (q : Request) (limits : Limits) (p : PartView) (words : List ℕ) : Type 0 where
  pub free : IsFree limits p
  pub by : q.by.0 < length p.state.vps
  pub room : length p.journal.entries + length (block p.state q) ≤ p.journal.room
  pub idle : NoneBusy limits words
