-- The run of a script step by step on all shared words: a turn is every step of its processor, and of the partition that
-- serves it, up to its mark.
use Rattle.std.specs.Prelude.{ℕ, ◌+◌, ◌*◌, List, [], ◌++◌, take, drop, replicate}
use Rattle.vsm_core.specs.declared.operation.Program.{Program}
use Rattle.vsm_core.specs.declared.journal.Entry.{Entry}
use Rattle.vsm_core.specs.declared.partition_state.PartitionState.{PartitionState}
use Rattle.vsm_core.specs.declared.request.Request.{Request}
use Rattle.vsm_core.specs.Entries.{words_by_entries}
use Rattle.vsm_core.specs.Processor.{Vp, Did, acts}
use Rattle.vsm_core.specs.Served.{state_after, joined}
use Rattle.vsm_core.specs.Words.{answer_of, memory_at, words_by}
use Rattle.guest_script.specs.declared.script.Script.{Script}
use Rattle.vsm_report.specs.declared.report.Report.{Report}
use Rattle.vsm_report.specs.Acting.{WorldOf, first_partition, opening_vps, acted_by, report_with}
use Rattle.vsm_report.specs.Opening.{opening_masks, opening_words}
use Rattle.vsm_report.specs.Schedule.{after_schedule}

-- the state of the partition and its journal
pub record Kept : Type 0 where
  pub state : PartitionState
  pub journal : List Entry

-- the same once these requests were served too
abbrev pub after_more : Kept → List (Request × List Entry) → Kept
after_more k more = record { state = state_after k.state more; journal = k.journal ++ joined more }

-- attempts work on all shared words, and of the partition its state and its journal are kept
abbrev pub Stepped : Type 0
Stepped = WorldOf (List ℕ) Kept

-- the shared words with which a run begins: those that are neither masks nor memory are 0
unfoldable pub opening_shared : Script → List ℕ
opening_shared s = opening_masks s ++ (replicate (1 + 10 * s.limits.vps) 0 ++ opening_words s)

unfoldable pub stepped_opening : Script → Stepped
stepped_opening s = record {
  words = opening_shared s;
  partition = record { state = first_partition s; journal = [] };
  vps = opening_vps s;
  lines = [];
}

-- the steps of the operation where the program stands, or of a start, up to the mark, each answered by the words as they
-- stand, and its requests by a partition in this state, with the steps of their entries
unfoldable pub made_steps : Program → Vp → PartitionState → List ℕ → Did (List ℕ)
made_steps program v state words =
    acts (answer_of v.limits v.number) (words_by v.limits v.number) (words_by_entries v.limits) program state v words

-- a processor acts: its whole attempt, or its start, step by step
unfoldable pub stepped : List Program → ℕ → Stepped → Stepped
stepped programs p w = acted_by made_steps (λ (k : Kept). k.state) after_more programs p w

abbrev pub stepped_report : Script → Stepped → Report
stepped_report s w = report_with w w.partition.journal (take s.limits.pages w.words) (drop (memory_at s.limits) w.words)

-- the report of walking the schedule
unfoldable pub traced : Script → Report
traced s = stepped_report s (after_schedule (stepped s.programs) (stepped_opening s) s.schedule)
