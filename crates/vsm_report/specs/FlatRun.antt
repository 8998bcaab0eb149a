-- The run of a script whose schedule has whole attempts alone: each is made at once.
use Rattle.std.specs.Prelude.{ℕ, ◌*◌, List, [], ◌++◌, replicate}
use Rattle.vsm_core.specs.declared.operation.Program.{Program}
use Rattle.vsm_core.specs.declared.journal.Entry.{Entry}
use Rattle.vsm_core.specs.declared.partition_state.PartitionState.{PartitionState}
use Rattle.vsm_core.specs.declared.request.Request.{Request}
use Rattle.vsm_core.specs.Processor.{attempted}
use Rattle.vsm_core.specs.Served.{state_after, joined}
use Rattle.vsm_core.specs.Whole.{Flat, masks_in}
use Rattle.guest_script.specs.declared.script.Script.{Script}
use Rattle.vsm_report.specs.declared.report.Report.{Report}
use Rattle.vsm_report.specs.Acting.{WorldOf, first_partition, opening_vps, acted_by, report_with}
use Rattle.vsm_report.specs.Opening.{opening_masks, opening_words}
use Rattle.vsm_report.specs.Schedule.{after_schedule}

-- attempts work on the opening masks with the journal so far, the posted words and the memory, and of the partition the
-- requests are kept that were served, oldest first, each with its entries
abbrev pub World : Type 0
World = WorldOf Flat (List (Request × List Entry))

-- what attempts work on as a run begins: the journal is empty, and nothing is posted
unfoldable pub opening_flat : Script → Flat
opening_flat s = record {
  opening = opening_masks s;
  journal = [];
  posted = replicate (9 * s.limits.vps) 0;
  memory = opening_words s;
}

-- how a run begins
unfoldable pub opened : Script → World
opened s = record { words = opening_flat s; partition = []; vps = opening_vps s; lines = [] }

-- a processor acts: its whole attempt, or its start, at once, with the partition in the state that the requests so far lead to from
-- this one
unfoldable pub acted : PartitionState → List Program → ℕ → World → World
acted first programs p w = acted_by attempted (state_after first) (λ before more. before ++ more) programs p w

abbrev pub report_of : World → Report
report_of w = report_with w (joined w.partition) (masks_in w.words) w.words.memory

-- how a script's run ends
unfoldable pub closed : Script → World
closed s = after_schedule (acted (first_partition s) s.programs) (opened s) s.schedule

-- the requests that a script's run serves, each with its entries
unfoldable pub served : Script → List (Request × List Entry)
served s = (closed s).partition

-- the report of a script's run
unfoldable pub flat : Script → Report
flat s = report_of (closed s)
