-- Places, looks and what is done, as the definitions have them.
use Rattle.std.specs.Prelude.{ℕ, Option, Some, None}
use Rattle.vsm_core.specs.Fills.{Translation, Fill, Cached as Happened, Filled, Dropped, Emptied}
use Rattle.page_walk.specs.Told.{translation_of}
use Rattle.vtlb.specs.declared.slot.Cached.{Cached}
use Rattle.vtlb.specs.declared.slot.Slot.{Slot}
use Rattle.vtlb.specs.declared.slot.Done.{Done}
use Rattle.vtlb.specs.declared.slot.Done.TheVariants as done

-- the fill that a place holds
abbrev pub fill_of : Slot → Fill
fill_of s = record { at = s.at; to = translation_of s.kept.to; mask = s.kept.mask; generation = s.generation }

abbrev pub done_of : Done → Happened
done_of (done.Filled level s) = Filled level (fill_of s)
done_of (done.Dropped level page) = Dropped level page
done_of (done.Emptied level) = Emptied level

-- what a hit gives: where the address page leads, and the mask of that page
abbrev pub found_of : Option Fill → Option (Translation × Option ℕ)
found_of None = None
found_of (Some f) = Some (f.to, f.mask)

-- and what a look answers
abbrev pub told_of : Option Cached → Option (Translation × Option ℕ)
told_of None = None
told_of (Some c) = Some (translation_of c.to, c.mask)
