-- What was done is longer than what was done before its last.
use Rattle.std.specs.Prelude.{◌≤◌, Option, Some, None, List, length}
use Rattle.std.proofs.Common.{arith}
use Rattle.std.specs.declared.snapshot.Snapshot.{Snapshot}
use Rattle.vsm_core.specs.Fills.{Cached}
use Rattle.vtlb.specs.declared.slot.Done.{Done}
use Rattle.vtlb.specs.declared.past.Past.TheInside.{Inside}
use Rattle.vtlb.specs.declared.past.Past.TheDeep.{deep-Past}
use Rattle.vtlb.specs.Pasts.{past_of}

by_cases : (before : Option (Snapshot (List Cached))) (last : Done) → deep-Past record { before = before; last = last } ≤ length (past_of before last)
by_cases None last = omega arith
by_cases (Some before) last = omega arith

pub falls : (a : Inside) → deep-Past a ≤ length (past_of a.before a.last)
falls a = by_cases a.before a.last
