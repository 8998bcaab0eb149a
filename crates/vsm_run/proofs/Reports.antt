-- The report of a run.
use Rattle.std.proofs.Common.{◌≡◌, List, take, drop, refl}
use Rattle.vsm_base.specs.declared.places.Limits.{Limits}
use Rattle.vsm_core.specs.declared.operation.Program.{Program}
use Rattle.vsm_core.specs.Words.{memory_at}
use Rattle.guest_script.specs.declared.script.Script.{Script}
use Rattle.guest_script.specs.declared.script.Turns.{Turns}
use Rattle.vsm_report.specs.Acting.{report_with}
use Rattle.vsm_report.specs.Schedule.{after_schedule}
use Rattle.vsm_report.specs.Trace.{Stepped, stepped, stepped_opening, traced}

-- the report of what the walk of the schedule has led to
pub report-traced : (s : Script) (start w : Stepped) (limits : Limits) (programs : List Program) (lines : List (List Turns)) → limits ≡ s.limits → start ≡ stepped_opening s → programs ≡ s.programs → lines ≡ s.schedule
    → w ≡ after_schedule (stepped programs) start lines → report_with w w.partition.journal (take limits.pages w.words) (drop (memory_at limits) w.words) ≡ traced s
unfolding traced
report-traced s start w limits programs lines same first own all last = rw (same, last, first, own, all) refl
