-- What is left of an access where it has come to.
use Rattle.std.specs.Prelude.{◌≡◌, ℕ, ◌-◌, ◌/◌, ◌^◌, ◌<◌, Bool, true, false, if◌then◌else◌, Option, Some, None, List}
use Rattle.std.specs.Prelude.{take}
use Rattle.vsm_base.specs.declared.places.Access.{Access}
use Rattle.vsm_base.specs.declared.places.Access.TheVariants.{Read, Write, Execute}
use Rattle.vsm_core.specs.declared.mark.Grant.{Grant}
use Rattle.vsm_core.specs.Access.{Goal, Decision, Grants, Denies, Faults, access, from_check, query_of, tables}
use Rattle.vsm_core.specs.Access.{by_table_mask, entry_step, by_mask, behind_mask, reaches}
use Rattle.vsm_core.specs.Fills.{Fill}
use Rattle.vsm_core.specs.Tree.{Tree, Ends, Asks, Checking, Masking}
use Rattle.page_walk.specs.Half.{Stands}
use Rattle.page_walk.specs.Told.{translation_of}
use Rattle.attempt.specs.declared.path.Aim.{Aim}
use Rattle.attempt.specs.declared.path.Fill.{Fill as Kept}
use Rattle.attempt.specs.declared.path.Path.{Path}
use Rattle.attempt.specs.declared.path.Place.{Place}
use Rattle.attempt.specs.declared.path.Place.TheVariants.{Start, Check, TableMask, TableRead, DataMask, Data}
use Rattle.attempt.specs.declared.path.Reached.{Reached}
use Rattle.attempt.specs.declared.path.Reached.TheVariants.{On, Granted, Denied, Fault}

-- the access that an aim asks for
abbrev pub goal_of : Aim → Goal
goal_of aim = record {
  level = aim.level;
  cpl = aim.cpl;
  cr0 = aim.cr0;
  cr3 = aim.cr3;
  gva = aim.gva.0;
  access = aim.access;
  need = aim.need;
  aligned = aim.aligned;
  value = aim.value;
  pages = aim.pages;
}

abbrev pub fill_of : Kept → Fill
fill_of f = record { at = f.at; to = translation_of f.to; mask = f.mask; generation = f.generation }

-- the translation that a denied access has filled, where it has
abbrev pub filled_by : Path → Bool → Option Fill
filled_by p filled = if filled then Some (fill_of p.fill) else None

-- the grant of an access that leads there and has found this value
abbrev pub grant_of : Kept → ℕ → Grant
grant_of f value = record {
  page = record { 0 = f.to.page };
  mask = f.mask;
  generation = f.generation;
  value =
      value;
  hit = false;
}

-- an access of this kind needs an address that is a multiple of 8
abbrev pub is_aligned : Access → Bool
is_aligned Read = true
is_aligned Write = true
is_aligned Execute = false

-- the value of the word that an access of this kind was for: what was read there, or what was written
abbrev pub found_by : Access → (value answer : ℕ) → ℕ
found_by Read value answer = answer
found_by Write value answer = value
found_by Execute value answer = answer

-- the entries that the walk has taken
abbrev pub taken_of : Path → List ℕ
taken_of p = take p.taken p.entries

-- the tables that are left of the walk
abbrev pub tables_of : Path → List ℕ → Tree Decision
tables_of p = tables (3 - p.taken) (goal_of p.aim) p.fill.generation

-- what is left where the walk has come to the table of its next entry
abbrev pub table_rest : Path → (page index : ℕ) → Tree Decision
table_rest p page index = behind_mask p.aim.level page
    (by_table_mask (tables_of p) (taken_of p) p.fill.generation page index)
    (entry_step (tables_of p) (taken_of p) page index)

-- what is left of the access from this place on
abbrev pub place_rest : Path → Place → Tree Decision
place_rest p Start = access (goal_of p.aim)
place_rest p Check = Asks Checking (from_check (goal_of p.aim))
place_rest p TableMask = Asks (Masking p.page.0)
    (by_table_mask (tables_of p) (taken_of p) p.fill.generation p.page.0 p.index)
place_rest p TableRead = entry_step (tables_of p) (taken_of p) p.page.0 p.index
place_rest p DataMask = Asks (Masking p.fill.to.page)
    (by_mask (goal_of p.aim) (translation_of p.fill.to) p.fill.generation)
place_rest p Data = reaches (goal_of p.aim) (translation_of p.fill.to) p.fill.generation p.fill.mask

abbrev pub path_rest : Path → Tree Decision
path_rest p = place_rest p p.place

abbrev pub reached_rest : Path → Reached → Tree Decision
reached_rest p On = path_rest p
reached_rest p (Granted value) = Ends (Grants (grant_of p.fill value) (Some (fill_of p.fill)))
reached_rest p (Denied r) = Ends (Denies r.page.0 r.mask r.generation r.access r.gpa (filled_by p r.filled))
reached_rest p (Fault fault) = Ends (Faults fault)

-- its walk wants one more entry
pub record IsWalking (p : Path) : Type 0 where
  pub depth : p.walk.depth < 4
  pub few : p.taken < 4
  pub stands : Stands p.walk (query_of (goal_of p.aim)) (taken_of p)

-- it leads to a page, from the address that it is for
pub record Leads (p : Path) : Type 0 where
  pub page : p.fill.to.page < 2 ^ 32
  pub at : p.fill.at ≡ p.aim.gva.0 / 4096

-- the places that an access can come to
abbrev pub PlaceIs : Path → Place → Type 0
PlaceIs p Start = Unit {0}
PlaceIs p Check = Unit {0}
PlaceIs p TableMask = IsWalking p
PlaceIs p TableRead = IsWalking p
PlaceIs p DataMask = Leads p
PlaceIs p Data = Leads p

abbrev pub IsPlaced : Path → Type 0
IsPlaced p = PlaceIs p p.place

-- a denial is of the aim's address
abbrev pub IsReached : Path → Reached → Type 0
IsReached p On = IsPlaced p
IsReached p (Granted value) = p.fill.to.page < 2 ^ 32
IsReached p (Denied r) = r.gva ≡ Some p.aim.gva.0
IsReached p (Fault fault) = Unit {0}

-- an access for this has come to where this is left of it
pub record Reaches (wanted : Aim) (new : Path) (reached : Reached) (tree : Tree Decision) : Type 0 where
  pub rest : reached_rest new reached ≡ tree
  pub is : IsReached new reached
  pub aim : new.aim ≡ wanted
