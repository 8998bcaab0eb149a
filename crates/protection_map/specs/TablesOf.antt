-- The tables that are kept beside the entries.
use Rattle.std.specs.Prelude.{◌≡◌, ℕ, ◌^◌, ◌<◌, ◌≤◌, List, length}
use Rattle.vsm_core.specs.declared.journal.Entry.{Entry}
use Rattle.vsm_core.specs.Journal.{Tables, tables, rounds}

-- the tables are those of the entries, the entries fit the room, and all counts are within their ranges
pub record IsKept (opening : List ℕ) (kept : Tables) (entries : List Entry) (room : ℕ) : Type 0 where
  pub of_entries : kept ≡ tables opening entries
  pub of_rounds : kept.rounds ≡ rounds entries
  pub pages : length kept.masks ≡ length opening
  pub few_pages : length opening < 2 ^ 32
  pub few_rounds : kept.rounds ≤ length entries
  pub within : length entries ≤ room
  pub few_entries : room < 2 ^ 32
