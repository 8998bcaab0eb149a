-- What was done, by the last of it and by what was done before.
use Rattle.std.specs.Prelude.{List, [], ◌∷◌, Option, Some, None}
use Rattle.std.specs.declared.snapshot.Snapshot.{Snapshot}
use Rattle.vsm_core.specs.Fills.{Cached}
use Rattle.vtlb.specs.declared.slot.Done.{Done}
use Rattle.vtlb.specs.Told.{done_of}

abbrev pub past_of : Option (Snapshot (List Cached)) → Done → List Cached
past_of None last = []
past_of (Some before) last = done_of last ∷ before.value
