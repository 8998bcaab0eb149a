-- A run of one processor, computed: it enables level 1 for its partition by a fast hypercall, and is refused as it does so again.
use Rattle.std.proofs.Common.{◌≡◌, ℕ, false, [], ◌∷◌, drop, refl}
use Rattle.vsm_base.specs.Names as Names
use Rattle.vsm_base.specs.declared.name.Name.TheVariants as names
use Rattle.vsm_base.specs.declared.places.Vtl.TheVariants.{Zero}
use Rattle.vsm_base.specs.declared.status.TheConstants.HvStatus as statuses
use Rattle.vsm_core.specs.declared.journal.Entry.TheVariants.{Enable, Refuse}
use Rattle.vsm_core.specs.declared.mark.Mark.{Mark}
use Rattle.vsm_core.specs.declared.mark.What.{What}
use Rattle.vsm_core.specs.declared.mark.What.TheVariants.{Reply}
use Rattle.vsm_core.specs.declared.operation.Op.TheVariants.{Set, Hypercall}
use Rattle.vsm_core.specs.Calls.{form_checks, row_of, rows}
use Rattle.vsm_core.specs.Controllers.{opening_controllers}
use Rattle.vsm_core.specs.State.{opening_state}
use Rattle.vsm_core.specs.Registers as Registers
use Rattle.vsm_core.specs.Processor.{attempted, spin_limit}
use Rattle.guest_script.specs.declared.script.Script.{Script}
use Rattle.vsm_report.specs.declared.report.Report.{Report}
use Rattle.vsm_report.specs.Acting.{opening_vps, entry_line, mark_line}
use Rattle.vsm_report.specs.FlatRun.{acted, opening_flat, opened, closed, flat}
use Rattle.vsm_report.specs.Opening.{opening_masks, opening_words}
use Rattle.vsm_report.specs.Schedule.{after_turns, after_line, after_schedule}

-- the input value has the call's code and says that the input stands in registers
enables_twice : Script
enables_twice = record {
  limits = record { vps = 1; pages = 1; budget = 10 };
  started = 1;
  masks = [];
  words = [];
  programs = record { zero = Set names.Rcx 0x1000D ∷ Set names.Rdx 0xFFFFFFFFFFFFFFFF ∷ Set names.R8 1 ∷ Hypercall ∷ Hypercall ∷ []; one = [] } ∷ [];
  schedule = (record { vp = record { 0 = 0 }; single = false; count = 5 } ∷ []) ∷ [];
}

-- the mark of an attempt without events
mark : ℕ → What → Mark
mark rip what = record { level = Zero; rip = rip; what = what; first = 0; count = 0 }

-- each call leaves an entry, whose line comes before the line of its mark
record EnablesOnce (r : Report) : Type 0 where
  lines : drop 3 r.lines ≡ (entry_line (Enable (record { 0 = 0 })) ∷ mark_line 0 (mark 3 (Reply 0)) ∷ entry_line (Refuse (record { 0 = 0 }) statuses.VTL_ALREADY_ENABLED) ∷ mark_line 0 (mark 4 (Reply 0x86)) ∷ [])
  journal : r.journal ≡ (Enable (record { 0 = 0 }) ∷ Refuse (record { 0 = 0 }) statuses.VTL_ALREADY_ENABLED ∷ [])

flat-enables_twice : EnablesOnce (flat enables_twice)
unfolding enables_twice mark flat closed acted opening_flat opened opening_vps opening_masks opening_words after_turns after_line after_schedule attempted opening_state opening_controllers spin_limit form_checks row_of rows Registers.opening_shared Registers.opening_private Registers.opening_value Registers.shared_names Registers.private_names Registers.shared_place Registers.private_place Registers.has_bits Registers.bits_of Names.all_names
flat-enables_twice = record { lines = refl; journal = refl }
