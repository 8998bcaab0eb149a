-- A walk that is under way, and where some entries leave it.
use Rattle.std.specs.Prelude.{◌≡◌, ℕ, ◌+◌, ◌<◌, Bool, true, ◌&&◌, List, [], ◌∷◌, length}
use Rattle.std.specs.List.{list_all}
use Rattle.vsm_base.specs.declared.places.Access.{Access}
use Rattle.vsm_core.specs.Walk.{Query, is_paging, is_canonical, is_present, frame_of, is_writable, is_user, is_executable}

-- what a walk is for, how many entries it has taken, the page of the next table or, after four, of the data, and what the entries allow
pub record Half : Type 0 where
  pub gva : ℕ
  pub access : Access
  pub cpl : ℕ
  pub depth : ℕ
  pub table : ℕ
  pub write : Bool
  pub user : Bool
  pub execute : Bool

-- the walk after one more entry
abbrev pub with_entry : Half → ℕ → Half
with_entry h entry = record h {
  depth = h.depth + 1;
  table = frame_of entry;
  write = h.write && is_writable entry;
  user = h.user && is_user entry;
  execute = h.execute && is_executable entry;
}

abbrev pub with_entries : Half → List ℕ → Half
with_entries h [] = h
with_entries h (e ∷ es) = with_entries (with_entry h e) es

-- the walk before its first entry
abbrev pub fresh : (cr3 gva : ℕ) → Access → (cpl : ℕ) → Half
fresh cr3 gva access cpl = record { gva = gva; access = access; cpl = cpl; depth = 0; table = frame_of cr3; write = true; user = true; execute = true }

-- the walk under way is where these entries, all present and fewer than four, leave the walk of a query with paging on and a canonical address
pub record Stands (h : Half) (q : Query) (entries : List ℕ) : Type 0 where
  pub paging : is_paging q.cr0 ≡ true
  pub canonical : is_canonical q.gva ≡ true
  pub at : h ≡ with_entries (fresh q.cr3 q.gva q.access q.cpl) entries
  pub few : length entries < 4
  pub present : list_all is_present entries ≡ true
