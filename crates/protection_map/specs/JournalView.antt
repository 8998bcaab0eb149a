-- What contracts see of a journal.
use Rattle.std.specs.Prelude.{ℕ, ◌+◌, ◌*◌, ◌<◌, List, [], ◌∷◌, ◌++◌}
use Rattle.vsm_base.specs.declared.places.Limits.{Limits}
use Rattle.vsm_core.specs.declared.journal.Entry.{Entry}
use Rattle.vsm_core.specs.declared.journal.Entry.TheVariants.{Ask}

-- the opening masks, the entries so far, and for how many entries room was taken
pub record JournalView : Type 0 where
  pub opening : List ℕ
  pub entries : List Entry
  pub room : ℕ

-- a journal with no entry, and room for all that the marks of a run can add to it, and for one ask of each page
abbrev pub empty_journal : Limits → List ℕ → JournalView
empty_journal limits opening = record { opening = opening; entries = []; room = limits.vps * limits.budget * (limits.vps + 11) + limits.pages }

-- the journal with one entry more at its end
abbrev pub with_entry : JournalView → Entry → JournalView
with_entry journal entry = record journal { entries = journal.entries ++ entry ∷ [] }

abbrev pub with_ask : JournalView → ℕ → ℕ → JournalView
with_ask journal page mask = with_entry journal (Ask (record { 0 = page }) mask)

-- the page of an ask is one of the first so many
abbrev pub IsWithin : ℕ → Entry → Type 0
IsWithin pages (Ask page mask) = page.0 < pages
IsWithin pages _ = Unit {0}
