-- The partition between two attempts.
use Rattle.std.specs.Prelude.{◌≡◌, ℕ, ◌+◌, ◌-◌, ◌*◌, ◌<◌, ◌≤◌, None, List, ◌++◌, length, get_or, slice_index, sum_by}
use Rattle.vsm_base.specs.declared.places.Limits.{Limits}
use Rattle.vsm_core.specs.declared.event.Phase.TheVariants.{Idle}
use Rattle.vsm_core.specs.declared.journal.Entry.{Entry}
use Rattle.vsm_core.specs.declared.request.Request.{Request}
use Rattle.vsm_core.specs.Processor.{Vp, Did, standing}
use Rattle.vsm_core.specs.Protection.{owed}
use Rattle.vsm_core.specs.Seat.{Fabric}
use Rattle.vsm_core.specs.Served.{state_after, joined}
use Rattle.vsm_core.specs.Words.{busy_at}
use Rattle.fabric.specs.Plain.{Plain, first_stand}
use Rattle.partition.specs.PartView.{PartView}
use Rattle.partition.specs.Turns.{IsPaced}
use Rattle.vsm_report.specs.Trace.{Kept}

-- what a run keeps of the partition
abbrev pub kept_of : PartView → Kept
kept_of p = record { state = p.state; journal = p.journal.entries }

-- the partition once these requests were served too
abbrev pub with_served : PartView → List (Request × List Entry) → PartView
with_served p more = record p {
  state = state_after p.state more;
  journal = record p.journal { entries = p.journal.entries ++ joined more };
}

-- the partition serves no request, and has the processors and the pages of these limits
pub record IsFree (limits : Limits) (p : PartView) : Type 0 where
  pub free : p.under ≡ None
  pub vps_all : length p.state.vps ≡ limits.vps
  pub pages_all : p.state.pages ≡ limits.pages

-- the fabric has the partition's limits, and was turned and cleared as often as the journal says
abbrev pub IsPacedBy : PartView → Plain → Type 0
IsPacedBy p f = IsPaced p (first_stand 0 f)

-- the busy word of each processor is 0
abbrev pub NoneBusy : Limits → List ℕ → Type 0
NoneBusy limits words = (q : ℕ) → q < limits.vps → slice_index words (busy_at limits q) ≡ 0

-- the busy word of a processor that is in no access is 0
abbrev pub Agrees : Limits → Fabric → Type 0
Agrees limits f = (q : ℕ) → q < limits.vps → get_or f.phases q Idle ≡ Idle → slice_index f.words (busy_at limits q) ≡ 0

-- what is left of the budgets of processors
abbrev pub left_of : Vp → ℕ
left_of v = v.limits.budget - length (standing v)

abbrev pub all_left : List Vp → ℕ
all_left vps = sum_by left_of vps

-- the journal has room for all entries that a request may add for each mark that is left, and for one ask of each page where protection was never turned on
abbrev pub HasRoom : PartView → List Vp → Type 0
HasRoom p vps = length p.journal.entries + (length p.state.vps + 11) * all_left vps + owed p.state ≤ p.journal.room

-- and for those of one request
abbrev pub HasRoomForOne : PartView → Type 0
HasRoomForOne p = length p.journal.entries + (length p.state.vps + 11) + owed p.state ≤ p.journal.room

-- this is what an attempt did to its processor, the words and the partition
pub record IsDone (did : Did (List ℕ)) (v : Vp) (after : List ℕ) (before now : PartView) : Type 0 where
  pub vp : v ≡ did.vp
  pub words : after ≡ did.words
  pub partition : now ≡ with_served before did.served

-- each request of an attempt adds at most so many entries, and once one more for each page: for an ask that is no longer owed then
abbrev pub AddsFew : ℕ → Did (List ℕ) → PartView → PartView → Type 0
AddsFew each did before now = length (joined did.served) + owed now.state ≤ each * length did.served + owed before.state
