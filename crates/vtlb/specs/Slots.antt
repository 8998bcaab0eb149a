-- The places of both levels, each of which holds a translation or nothing.
use Rattle.std.specs.Prelude.{ℕ, ◌==◌, if◌then◌else◌, List, Option, Some, None, slice_set, replicate}
use Rattle.std.proofs.Common.{get_or}
use Rattle.vsm_base.specs.declared.places.Vtl.{Vtl}
use Rattle.vsm_base.specs.declared.places.Vtl.TheVariants.{Zero, One}
use Rattle.vtlb.specs.declared.slot.Slot.{Slot}
use Rattle.vsm_core.specs.Fills.{Fill}
use Rattle.vsm_core.specs.Hits.{standing}
use Rattle.vtlb.specs.declared.slots.Slots.{Slots}
use Rattle.vtlb.specs.Told.{fill_of}

abbrev pub nones_of : ℕ → List (Option Slot)
nones_of count = replicate count None

abbrev pub nones : List (Option Slot)
nones = nones_of 64

abbrev pub slot_at : Slots → Vtl → ℕ → Option Slot
slot_at s Zero place = get_or s.zero place None
slot_at s One place = get_or s.one place None

abbrev pub put_at : Slots → Vtl → ℕ → Option Slot → Slots
put_at s Zero place slot = record s { zero = slice_set s.zero place slot }
put_at s One place slot = record s { one = slice_set s.one place slot }

abbrev pub emptied : Slots → Vtl → Slots
emptied s Zero = record s { zero = nones }
emptied s One = record s { one = nones }

-- what a place answers to a look for an address page at a generation
abbrev pub answer : Option Slot → ℕ → ℕ → Option Fill
answer None page generation = None
answer (Some s) page generation = standing (fill_of s) page generation

-- what it holds after a drop of an address page
abbrev pub dropped : Option Slot → ℕ → Option Slot
dropped None page = None
dropped (Some s) page = if s.at == page then None else Some s
