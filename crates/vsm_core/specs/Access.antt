-- One access, from its first step to its decision or data step.
use Rattle.std.specs.Prelude.{ℕ, zero, suc, ◌+◌, ◌*◌, ◌/◌, ◌%◌, Bool, false, ◌&&◌, not, ◌==◌, if◌then◌else◌, nat_lt, bit_and, Option, Some, None, List, [], ◌∷◌, ◌++◌}
use Rattle.vsm_base.specs.Masks.{allows}
use Rattle.vsm_base.specs.declared.places.Access.{Access}
use Rattle.vsm_base.specs.declared.places.Access.TheVariants.{Read, Write, Execute}
use Rattle.vsm_base.specs.declared.places.Vtl.{Vtl}
use Rattle.vsm_base.specs.declared.places.Vtl.TheVariants.{Zero, One}
use Rattle.vsm_core.specs.declared.mark.Grant.{Grant}
use Rattle.vsm_core.specs.declared.mark.GuestFault.{GuestFault}
use Rattle.vsm_core.specs.declared.mark.GuestFault.TheVariants.{Align, Noncanonical, Unmapped, Page}
use Rattle.vsm_core.specs.Fills.{Translation, Fill}
use Rattle.vsm_core.specs.Tree.{Tree, Ends, Asks, Entering, Checking, Masking, Reading, Writing}
use Rattle.vsm_core.specs.Walk.{Query, Walked, Need, Mapped, Refused, walk, is_paging, is_canonical, page_of}

-- one access, as an operation asks for it: the mask bits that it needs on the data page, whether its address must be a
-- multiple of 8, and what a write stores
pub record Goal : Type 0 where
  pub level : Vtl
  pub cpl : ℕ
  pub cr0 : ℕ
  pub cr3 : ℕ
  pub gva : ℕ
  pub access : Access
  pub need : ℕ
  pub aligned : Bool
  pub value : ℕ
  pub pages : ℕ

-- what an access comes to, and the translation that it fills. A denial tells the address that was denied, too
pub data Decision : Type 0 where
  Grants : Grant → Option Fill → Decision
  Denies : (page mask generation : ℕ) → Access → (gpa : ℕ) → Option Fill → Decision
  Faults : GuestFault → Decision

-- the place in its page of the word that holds an address
abbrev pub index_of : ℕ → ℕ
index_of address = address / 8 % 512

-- why an access has no first step
abbrev pub start_fault : Goal → Option GuestFault
start_fault goal =
    if goal.aligned && not (goal.gva % 8 == 0) then Some Align
    else (if is_paging goal.cr0 && not (is_canonical goal.gva) then Some Noncanonical else None)

abbrev pub query_of : Goal → Query
query_of goal = record { cr0 = goal.cr0; cr3 = goal.cr3; gva = goal.gva; access = goal.access; cpl = goal.cpl }

-- a mask has all these bits
abbrev pub covers : ℕ → ℕ → Bool
covers mask bits = bit_and mask bits == bits

abbrev pub fill_of : Goal → Translation → Option ℕ → ℕ → Fill
fill_of goal to mask generation = record { at = page_of goal.gva; to = to; mask = mask; generation = generation }

abbrev pub grants : ℕ → Option ℕ → ℕ → Option Fill → ℕ → Decision
grants page mask generation fill value =
    Grants (record { page = record { 0 = page }; mask = mask; generation = generation; value = value; hit = false }) fill

-- the step that does what the access is for
abbrev pub data_step : Access → Goal → ℕ → Option ℕ → ℕ → Option Fill → Tree Decision
data_step Read goal page mask generation fill = Asks (Reading page (index_of goal.gva)) (λ x. Ends (grants page mask generation fill x))
data_step Write goal page mask generation fill = Asks (Writing page (index_of goal.gva) goal.value) (λ _. Ends (grants page mask generation fill goal.value))
data_step Execute goal page mask generation fill = Asks (Reading page (index_of goal.gva)) (λ x. Ends (grants page mask generation fill x))

-- level 0 loads the mask of a page and goes on by it; no mask binds level 1
abbrev pub behind_mask : Vtl → ℕ → (ℕ → Tree Decision) → Tree Decision → Tree Decision
behind_mask Zero page by_mask unbound = Asks (Masking page) by_mask
behind_mask One page by_mask unbound = unbound

-- the data step, with the translation filled
abbrev pub reaches : Goal → Translation → ℕ → Option ℕ → Tree Decision
reaches goal to generation mask = data_step goal.access goal to.page mask generation (Some (fill_of goal to mask generation))

-- the mask of the data page decides
abbrev pub by_mask : Goal → Translation → ℕ → ℕ → Tree Decision
by_mask goal to generation mask =
    if covers mask goal.need then reaches goal to generation (Some mask)
    else Ends (Denies to.page mask generation goal.access (to.page * 4096 + goal.gva % 4096) (Some (fill_of goal to (Some mask) generation)))

-- the data page is known
abbrev pub at_page : Goal → Translation → ℕ → Tree Decision
at_page goal to generation =
    if nat_lt to.page goal.pages then behind_mask goal.level to.page (by_mask goal to generation) (reaches goal to generation None)
    else Ends (Faults Unmapped)

-- an entry is read, and what is left goes on by the entries with it
abbrev pub entry_step : (List ℕ → Tree Decision) → List ℕ → ℕ → ℕ → Tree Decision
entry_step more entries page index = Asks (Reading page index) (λ x. more (entries ++ x ∷ []))

-- the mask of a table's page decides
abbrev pub by_table_mask : (List ℕ → Tree Decision) → List ℕ → ℕ → ℕ → ℕ → ℕ → Tree Decision
by_table_mask more entries generation page index mask =
    if allows mask Read then entry_step more entries page index
    else Ends (Denies page mask generation Read (page * 4096 + index * 8) None)

-- what is left of the access where the walk stands
abbrev pub at_table : (List ℕ → Tree Decision) → Goal → List ℕ → ℕ → Walked → Tree Decision
at_table more goal entries generation (Need page index) =
    if nat_lt page goal.pages then behind_mask goal.level page (by_table_mask more entries generation page index) (entry_step more entries page index)
    else Ends (Faults Unmapped)
at_table more goal entries generation (Mapped to) = at_page goal to generation
at_table more goal entries generation (Refused fault) = Ends (Faults fault)

-- what is left of the access after these entries, of which at most so many more are read
abbrev pub tables : ℕ → Goal → ℕ → List ℕ → Tree Decision
tables zero goal generation entries = at_table (λ _. Ends (Faults Page)) goal entries generation (walk (query_of goal) entries)
tables (suc more) goal generation entries = at_table (tables more goal generation) goal entries generation (walk (query_of goal) entries)

-- what is left of the access once the generation is known
abbrev pub from_check : Goal → ℕ → Tree Decision
from_check goal generation = tables 4 goal generation []

-- the whole access, up to its decision
abbrev pub access : Goal → Tree Decision
access goal = Asks Entering (λ _. Asks Checking (from_check goal))
