-- What the partition's journal comes to: the masks of the pages, the masks as last reported, and the number of rounds.
use Rattle.std.specs.Prelude.{ℕ, ◌+◌, List, [], slice_set}
use Rattle.std.specs.List.{fold}
use Rattle.vsm_core.specs.declared.journal.Entry.{Entry}
use Rattle.vsm_core.specs.declared.journal.Entry.TheVariants.{Ask, Report}

-- the mask of each page, its mask when a round was last reported, and how many rounds were reported
pub record Tables : Type 0 where
  pub masks : List ℕ
  pub settled : List ℕ
  pub rounds : ℕ

-- an ask gives one page its mask, and a report settles the masks of all
abbrev pub tables_after : Tables → Entry → Tables
tables_after t (Ask page mask) = record { masks = slice_set t.masks page.0 mask; settled = t.settled; rounds = t.rounds }
tables_after t (Report round) = record { masks = t.masks; settled = t.masks; rounds = t.rounds + 1 }
tables_after t _ = t

-- before the first entry
abbrev pub opening_tables : List ℕ → Tables
opening_tables opening = record { masks = opening; settled = opening; rounds = 0 }

-- the tables after these entries, from the opening masks
abbrev pub tables : List ℕ → List Entry → Tables
tables opening entries = fold tables_after (opening_tables opening) entries

-- the opening masks with the asks applied in their order
abbrev pub masks : List ℕ → List Entry → List ℕ
masks opening entries = (tables opening entries).masks

-- the masks up to the last report, and the opening masks where there is none
abbrev pub settled : List ℕ → List Entry → List ℕ
settled opening entries = (tables opening entries).settled

-- the number of reports, whatever the opening masks are
abbrev pub rounds : List Entry → ℕ
rounds entries = (tables [] entries).rounds
