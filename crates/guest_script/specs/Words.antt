-- The memory words that a script gives, and the table by which they are found.
use Rattle.std.specs.Prelude.{◌≡◌, ℕ, ◌+◌, ◌*◌, ◌<◌, List, get_or, Bool, false, ◌&&◌, ◌==◌}
use Rattle.std.specs.List.{list_any}
use Rattle.vsm_base.specs.declared.places.Page.{Page}

-- the page of this number
abbrev pub page_of : ℕ → Page
page_of x = record { 0 = x }

-- the word has a value
abbrev pub is_given : ℕ → ℕ → List (Page × ℕ × ℕ) → Bool
is_given page index words = list_any (λ w. w.0.0 == page && w.1 == index) words

-- each page has 512 places in the table, which say whether the word there has a value
abbrev pub IsTable : List Bool → List (Page × ℕ × ℕ) → Type 0
IsTable given words = (page index : ℕ) → index < 512 → get_or given (page * 512 + index) false ≡ is_given page index words
