use Rattle.std.proofs.Common.{◌≡◌, ◌≤◌, length, take}
use Rattle.std.specs.List.{count_by, range_with_len}
use Rattle.partition.specs.PartView.{is_running}
use Rattle.partition.proofs.running.running_of.Given as goal

abbrev pub invariant-loop-vp : goal.invariant-loop-vp
invariant-loop-vp l = record {
  count : l.count ≡ count_by (is_running l.state l.ended) (take l.vp (range_with_len 0 (length l.state.vps)));
  few : l.count ≤ l.vp;
}
