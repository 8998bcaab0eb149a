use Rattle.std.proofs.Common.{◌≡◌, ◌++◌, map}
use Rattle.vsm_report.specs.Acting.{track_of}
use Rattle.vsm_run.proofs.leaving.add_tracks.Given as goal

abbrev pub invariant-loop-cpu : goal.invariant-loop-cpu
invariant-loop-cpu l = l.tracks ≡ (l.fn.tracks.0 ++ map track_of l.yielded, l.fn.tracks.1)
