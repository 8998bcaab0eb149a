-- A run of two processors, computed: the first spins in vain, the second stores, and then the first finds what it waits for.
use Rattle.std.proofs.Common.{◌≡◌, ℕ, [], ◌∷◌, false, map, length, slice_index, Some, refl}
use Rattle.vsm_base.specs.Names as Names
use Rattle.vsm_base.specs.declared.places.Vtl.TheVariants.{Zero}
use Rattle.vsm_core.specs.declared.mark.Ending.TheVariants.{Done}
use Rattle.vsm_core.specs.declared.mark.Grant.{Grant}
use Rattle.vsm_core.specs.declared.mark.Mark.{Mark}
use Rattle.vsm_core.specs.declared.mark.What.{What}
use Rattle.vsm_core.specs.declared.mark.What.TheVariants.{Granted, Again}
use Rattle.vsm_core.specs.declared.operation.Op.{Op}
use Rattle.vsm_core.specs.declared.operation.Op.TheVariants.{Store, Spin}
use Rattle.vsm_core.specs.declared.operation.Operand.TheVariants.{Number}
use Rattle.vsm_core.specs.declared.operation.Program.{Program}
use Rattle.vsm_core.specs.Controllers.{opening_controllers}
use Rattle.vsm_core.specs.State.{opening_state}
use Rattle.vsm_core.specs.Registers as Registers
use Rattle.vsm_core.specs.Processor.{attempted, spin_limit}
use Rattle.guest_script.specs.declared.script.Script.{Script}
use Rattle.guest_script.specs.declared.script.Turns.{Turns}
use Rattle.vsm_report.specs.declared.report.Report.{Report}
use Rattle.vsm_report.specs.Acting.{opening_vps, mark_line}
use Rattle.vsm_report.specs.FlatRun.{acted, opening_flat, opened, closed, flat}
use Rattle.vsm_report.specs.Opening.{opening_masks, opening_words}
use Rattle.vsm_report.specs.Schedule.{after_turns, after_line, after_schedule}

-- the processor makes one attempt
once : ℕ → Turns
once p = record { vp = record { 0 = p }; single = false; count = 1 }

only : Op → Program
only op = record { zero = op ∷ []; one = [] }

spin_and_store : Script
spin_and_store = record {
  limits = record { vps = 2; pages = 1; budget = 10 };
  started = 2;
  masks = [];
  words = [];
  programs = only (Spin (record { 0 = 8 }) 7) ∷ only (Store (record { 0 = 8 }) (Number 7)) ∷ [];
  schedule = (once 0 ∷ once 1 ∷ once 0 ∷ []) ∷ [];
}

-- the word at address 8 was granted, and was this
grant : ℕ → Grant
grant value = record { page = record { 0 = 0 }; mask = Some 15; generation = 0; value = value; hit = false }

-- the mark of a first attempt, with its enter, check, mask, data step and leave
mark : What → Mark
mark what = record { level = Zero; rip = 0; what = what; first = 0; count = 5 }

-- what a run leaves where a spin was in vain before a store and not after it: a line for each attempt, and no mark and
-- no event of the one in vain
record SpinsAndStores (r : Report) : Type 0 where
  lines : r.lines ≡ (mark_line 0 (mark (Again (grant 0))) ∷ mark_line 1 (mark (Granted (grant 7))) ∷ mark_line 0 (mark (Granted (grant 7))) ∷ [])
  marks : map (λ t. t.marks) r.tracks ≡ ((mark (Granted (grant 7)) ∷ []) ∷ (mark (Granted (grant 7)) ∷ []) ∷ [])
  events : map (λ t. length t.seen) r.tracks ≡ (5 ∷ 5 ∷ [])
  ends : r.ends ≡ (Done ∷ Done ∷ [])
  word : slice_index r.words 1 ≡ 7

flat-spin_and_store : SpinsAndStores (flat spin_and_store)
unfolding spin_and_store once only grant mark flat closed acted opening_flat opened opening_vps opening_masks opening_words after_turns after_line after_schedule attempted opening_state opening_controllers spin_limit Registers.opening_shared Registers.opening_private Registers.opening_value Registers.shared_names Registers.private_names Registers.shared_place Registers.private_place Registers.has_bits Registers.bits_of Names.all_names
flat-spin_and_store = record { lines = refl; marks = refl; events = refl; ends = refl; word = refl }
