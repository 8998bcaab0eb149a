-- Translations, and what an attempt does to those that its processor has cached.
use Rattle.std.specs.Prelude.{ℕ, Bool, true, Option}
use Rattle.vsm_base.specs.declared.places.Vtl.{Vtl}

-- the page that an address leads to, and what the walked entries allow
pub record Translation : Type 0 where
  pub page : ℕ
  pub write : Bool
  pub user : Bool
  pub execute : Bool

-- with paging off an address leads to its own page, with all rights
abbrev pub straight : ℕ → Translation
straight page = record { page = page; write = true; user = true; execute = true }

-- what a cache keeps of an access that walked: the address page, where it leads, the page's mask (none for level 1) and the generation that was checked
pub record Fill : Type 0 where
  pub at : ℕ
  pub to : Translation
  pub mask : Option ℕ
  pub generation : ℕ

-- a translation was filled, an address page dropped, or a whole level
pub data Cached : Type 0 where
  Filled : Vtl → Fill → Cached
  Dropped : Vtl → ℕ → Cached
  Emptied : Vtl → Cached
