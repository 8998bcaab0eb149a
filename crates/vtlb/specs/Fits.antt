-- The places answer what a look into the past finds.
use Rattle.std.specs.Prelude.{◌≡◌, ℕ, ◌%◌, List, Option, None, length}
use Rattle.std.proofs.Common.{get_or}
use Rattle.vsm_base.specs.declared.places.Vtl.{Vtl}
use Rattle.vsm_base.specs.declared.places.Vtl.TheVariants.{Zero, One}
use Rattle.vsm_core.specs.Fills.{Cached}
use Rattle.vsm_core.specs.Hits.{hit}
use Rattle.vtlb.specs.declared.slot.Slot.{Slot}
use Rattle.vtlb.specs.declared.slots.Slots.{Slots}
use Rattle.vtlb.specs.Slots.{answer}

-- those of one level
pub record FitsAt (level : Vtl) (slots : List (Option Slot)) (past : List Cached) : Type 0 where
  pub long : length slots ≡ 64
  pub finds : (page generation : ℕ) → answer (get_or slots (page % 64) None) page generation ≡ hit past level page generation

pub record Fits (s : Slots) (past : List Cached) : Type 0 where
  pub zero : FitsAt Zero s.zero past
  pub one : FitsAt One s.one past
