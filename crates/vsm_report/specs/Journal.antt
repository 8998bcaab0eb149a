-- The lines of the journal's entries.
use Rattle.std.specs.Prelude.{ℕ, List, [], ◌∷◌, codes}
use Rattle.std.specs.Fmt.{decimal}
use Rattle.vsm_base.specs.Levels.{level_number}
use Rattle.vsm_core.specs.declared.journal.Entry.{Entry}
use Rattle.vsm_core.specs.declared.journal.Entry.TheVariants as entries
use Rattle.vsm_report.specs.Pieces.{hex_digits, line}

-- an entry that tells one number
abbrev pub one_text : List ℕ → ℕ → List ℕ
one_text head n = line (head ∷ decimal n ∷ [])

-- an entry that tells two numbers
abbrev pub two_text : List ℕ → ℕ → ℕ → List ℕ
two_text head n m = line (head ∷ decimal n ∷ codes " " ∷ decimal m ∷ [])

-- the line of an entry
abbrev pub entry_text : Entry → List ℕ
entry_text (entries.Enable by) = one_text (codes "j enable ") by.0
entry_text (entries.Level by vp) = two_text (codes "j level ") by.0 vp.0
entry_text (entries.Config by value) = line (codes "j config " ∷ decimal by.0 ∷ codes " 0x" ∷ hex_digits 16 value ∷ [])
entry_text (entries.Start by vp level) =
    line (codes "j start " ∷ decimal by.0 ∷ codes " " ∷ decimal vp.0 ∷ codes " " ∷ decimal (level_number level) ∷ [])
entry_text (entries.Fetch vp) = one_text (codes "j fetch ") vp.0
entry_text (entries.Look by) = one_text (codes "j look ") by.0
entry_text (entries.Refuse by status) = line (codes "j refuse " ∷ decimal by.0 ∷ codes " 0x" ∷ hex_digits 4 status.0 ∷ [])
entry_text (entries.Ask page mask) = two_text (codes "j ask ") page.0 mask
entry_text (entries.Turn round by) = two_text (codes "j turn ") round by.0
entry_text (entries.Clear vp) = one_text (codes "j clear ") vp.0
entry_text (entries.Report round) = one_text (codes "j report ") round
