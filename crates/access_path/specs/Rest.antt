-- What is left of an access where it has come to, and what a step of it is.
use Rattle.std.specs.Prelude.{◌≡◌, ◌≢◌, ℕ, ◌+◌, ◌<◌, Option, Some, List, length}
use Rattle.vsm_core.specs.declared.event.Phase.{Phase}
use Rattle.vsm_core.specs.declared.event.Phase.TheVariants.{Idle, Entered, In}
use Rattle.vsm_core.specs.Access.{Goal, Decision, Grants, Denies, Faults, access, from_check, query_of, tables, by_table_mask, entry_step, by_mask, reaches}
use Rattle.vsm_core.specs.Fills.{Fill}
use Rattle.vsm_core.specs.Seat.{Seat}
use Rattle.vsm_core.specs.Steps.{IsIn}
use Rattle.vsm_core.specs.Tree.{Tree, Ends, Asks, Checking, Masking}
use Rattle.vsm_core.specs.Turns.{Turned}
use Rattle.page_walk.specs.Half.{Half, Stands}
use Rattle.page_walk.specs.Told.{translation_of}
use Rattle.access_path.specs.declared.aim.Aim.{Aim}
use Rattle.access_path.specs.declared.place.Place.{Place}
use Rattle.access_path.specs.declared.place.Place.TheVariants.{Start, Check, TableMask, TableRead, DataMask, Data, Over}
use Rattle.access_path.specs.declared.place.PathTurn.{PathTurn}
use Rattle.access_path.specs.declared.place.PathTurn.TheVariants.{Moved, Granted, Denied, Fault}
use Rattle.access_path.specs.declared.place.Stepped.{Stepped}

-- the access that an aim asks for
abbrev pub goal_of : Aim → Goal
goal_of aim = record {
  level = aim.level;
  cpl = aim.cpl;
  cr0 = aim.cr0;
  cr3 = aim.cr3;
  gva = aim.gva.0;
  access = aim.access;
  need = aim.need;
  aligned = aim.aligned;
  value = aim.value;
  pages = aim.pages;
}

-- a walk after these entries, which may take so many more after the next
pub record Walks (goal : Goal) (walk : Half) (entries : List ℕ) (more : ℕ) : Type 0 where
  pub stands : Stands walk (query_of goal) entries
  pub room : more + length entries ≡ 3

-- where these entries are too few, the access goes on as its definition says
abbrev pub Continues : Goal → ℕ → List ℕ → (List ℕ → Tree Decision) → Type 0
Continues goal generation entries next = length entries < 4 → (more : ℕ) × (more + length entries ≡ 3) × (next ≡ tables more goal generation)

-- what is left of the access from this place on
abbrev pub Rest : Aim → Place → Tree Decision → Type 0
Rest aim Start t = t ≡ access (goal_of aim)
Rest aim Check t = t ≡ Asks Checking (from_check (goal_of aim))
Rest aim (TableMask walk generation page index) t = (entries : List ℕ) × (more : ℕ) × Walks (goal_of aim) walk entries more × (t ≡ Asks (Masking page.0) (by_table_mask (tables more (goal_of aim) generation) entries generation page.0 index))
Rest aim (TableRead walk generation page index) t = (entries : List ℕ) × (more : ℕ) × Walks (goal_of aim) walk entries more × (t ≡ entry_step (tables more (goal_of aim) generation) entries page.0 index)
Rest aim (DataMask generation page to) t = t ≡ Asks (Masking to.page) (by_mask (goal_of aim) (translation_of to) generation)
Rest aim (Data generation page mask to) t = t ≡ reaches (goal_of aim) (translation_of to) generation mask
Rest aim Over t = ⊥

-- the places that an access can come to
abbrev pub IsPlaced : Aim → Place → Type 0
IsPlaced aim Start = Unit {0}
IsPlaced aim Check = Unit {0}
IsPlaced aim (TableMask walk generation page index) = (walk.depth < 4) × (page.0 < aim.pages) × (index < 512)
IsPlaced aim (TableRead walk generation page index) = (walk.depth < 4) × (page.0 < aim.pages) × (index < 512)
IsPlaced aim (DataMask generation page to) = (page.0 < aim.pages) × (to.page ≡ page.0)
IsPlaced aim (Data generation page mask to) = (page.0 < aim.pages) × (to.page ≡ page.0)
IsPlaced aim Over = Unit {0}

-- the phases in which a processor's access can be at a place
abbrev pub IsAt : Place → Phase → Type 0
IsAt Start phase = phase ≡ Idle
IsAt Check phase = phase ≡ Entered
IsAt (TableMask walk generation page index) phase = phase ≡ In generation
IsAt (TableRead walk generation page index) phase = phase ≡ In generation
IsAt (DataMask generation page to) phase = phase ≡ In generation
IsAt (Data generation page mask to) phase = phase ≡ In generation
IsAt Over phase = IsIn phase

-- a port that may be lent to an access at this place
pub record Serves (aim : Aim) (place : Place) (seat : Seat) : Type 0 where
  pub phase : IsAt place seat.phase
  pub pages : seat.limits.pages ≡ aim.pages
  pub vp : seat.vp < seat.limits.vps

-- what an answer says of what is left of the access
abbrev pub Goes : Aim → PathTurn → Place → Tree Decision → Type 0
Goes aim Moved place t = Rest aim place t
Goes aim (Granted grant) place t = (fill : Option Fill) × (t ≡ Ends (Grants grant fill)) × (place ≡ Over)
Goes aim (Denied page mask generation kind gpa) place t = (fill : Option Fill) × (t ≡ Ends (Denies page.0 mask generation kind gpa fill)) × (place ≡ Over)
Goes aim (Fault fault) place t = (t ≡ Ends (Faults fault)) × (place ≡ Over)

-- an access is over exactly where it has come to a decision
abbrev pub Matches : PathTurn → Place → Type 0
Matches Moved place = place ≢ Over
Matches (Granted grant) place = place ≡ Over
Matches (Denied page mask generation kind gpa) place = place ≡ Over
Matches (Fault fault) place = place ≡ Over

-- the step from a place, as its port saw it, and where it led
pub record Steps (aim : Aim) (place : Place) (old new : Seat) (next : Stepped) : Type 0 where
  pub event : new.last ≡ Some next.event
  pub turned : (t : Tree Decision) → Rest aim place t → Turned t old new (Goes aim next.turn next.place)
  pub placed : IsPlaced aim next.place
  pub matches : Matches next.turn next.place
  pub serves : Serves aim next.place new
