-- A run under way, and what a processor's whole attempt does to it, whatever the attempt works on.
use Rattle.std.specs.Prelude.{ℕ, Bool, false, not, List, ◌++◌, length, map, Option, Some, None, if◌then◌else◌, nat_lt, is_some, unwrap_or, slice_get, slice_set}
use Rattle.std.specs.List.{range_with_len}
use Rattle.vsm_core.specs.declared.journal.Entry.{Entry}
use Rattle.vsm_core.specs.declared.mark.Mark.{Mark}
use Rattle.vsm_core.specs.declared.mark.Ending.{Ending}
use Rattle.vsm_core.specs.declared.mark.Ending.TheVariants as endings
use Rattle.vsm_core.specs.declared.operation.Program.{Program}
use Rattle.vsm_core.specs.declared.partition_state.PartitionState.{PartitionState}
use Rattle.vsm_core.specs.declared.request.Request.{Request}
use Rattle.vsm_core.specs.Partition.{opening_partition}
use Rattle.vsm_core.specs.Processor.{Vp, Did, opening, new_marks}
use Rattle.vsm_core.specs.Served.{joined}
use Rattle.guest_script.specs.declared.script.Script.{Script}
use Rattle.guest_script.specs.Programs.{program_at}
use Rattle.vsm_report.specs.declared.report.Line.{Line}
use Rattle.vsm_report.specs.declared.report.Line.TheVariants as made
use Rattle.vsm_report.specs.declared.report.Track.{Track}
use Rattle.vsm_report.specs.declared.report.Report.{Report}

-- the words on which attempts work, what is kept of the partition, the processors, each at the place of its number, and
-- the lines so far
pub record WorldOf (W P : Type 0) : Type 0 where
  pub words : W
  pub partition : P
  pub vps : List Vp
  pub lines : List Line

-- the partition before the first request
abbrev pub first_partition : Script → PartitionState
first_partition s = opening_partition s.limits s.started

-- the processor of this number before its first attempt
abbrev pub opening_vp : Script → ℕ → Vp
opening_vp s p = opening p s.limits (nat_lt p s.started) (length (program_at s.programs p).zero) (length (program_at s.programs p).one)

-- a processor for each program
unfoldable pub opening_vps : Script → List Vp
opening_vps s = map (opening_vp s) (range_with_len 0 (length s.programs))

-- a processor may act: it has not ended. One that hasn't started never has
abbrev pub is_running : Vp → Bool
is_running v = not (is_some v.ended)

abbrev pub mark_line : ℕ → Mark → Line
mark_line p mark = made.Mark (record { 0 = p }) mark

-- the lines of the marks that the processor of this number has left since it was so
abbrev pub new_lines : ℕ → Vp → Vp → List Line
new_lines p old new = map (mark_line p) (new_marks old new)

abbrev pub entry_line : Entry → Line
entry_line entry = made.Entry entry

-- the lines of the entries that these requests added, and then those of the marks
abbrev pub attempt_lines : ℕ → List (Request × List Entry) → Vp → Vp → List Line
attempt_lines p served old new = map entry_line (joined served) ++ new_lines p old new

-- how a processor makes its whole attempt, or its start, with a partition in this state, the state that is kept of the partition, and
-- what is kept of it once these requests were served too
module _ {W P : Type 0} (attempt : Program → Vp → PartitionState → W → Did W) (state_in : P → PartitionState) (keeps : P → List (Request × List Entry) → P) where
  -- the world after this attempt of the processor of this number, which was so before
  abbrev pub with_attempt : ℕ → WorldOf W P → Vp → Did W → WorldOf W P
  with_attempt p w v did = record {
    words = did.words;
    partition = keeps w.partition did.served;
    vps = slice_set w.vps p did.vp;
    lines = w.lines ++ attempt_lines p did.served v did.vp;
  }

  -- a processor that hasn't ended makes its whole attempt, or its start, over the words and the partition as they stand; any other does nothing
  abbrev pub acted_at : Program → ℕ → WorldOf W P → Option Vp → WorldOf W P
  acted_at program p w None = w
  acted_at program p w (Some v) = if is_running v then with_attempt p w v (attempt program v (state_in w.partition) w.words) else w

  -- the processor of this number acts, if there is one
  abbrev pub acted_by : List Program → ℕ → WorldOf W P → WorldOf W P
  acted_by programs p w = acted_at (program_at programs p) p w (slice_get w.vps p)

-- what a processor has left
abbrev pub track_of : Vp → Track
track_of v = record { marks = v.marks; seen = v.seen }

-- a processor that has not ended as its schedule ends is cut
abbrev pub ending_of : Vp → Ending
ending_of v = if v.started then unwrap_or v.ended endings.Cut else endings.Unstarted

-- the report of a run by one thread that leaves this journal, these masks and these memory words
abbrev pub report_with : {W P : Type 0} → WorldOf W P → List Entry → List ℕ → List ℕ → Report
report_with w journal masks words = record {
  threads = false;
  lines = w.lines;
  journal = journal;
  tracks = map track_of w.vps;
  ends = map ending_of w.vps;
  masks = masks;
  words = words;
}
