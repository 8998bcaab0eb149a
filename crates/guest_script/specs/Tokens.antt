-- The words of a text with their places.
use Rattle.std.specs.Prelude.{ℕ, ◌+◌, List, drop, Bool, not, ◌||◌, if◌then◌else◌, ◌==◌, Option, Some, None}
use Rattle.std.specs.List.{prefix_len}

-- a space
abbrev pub is_space : ℕ → Bool
is_space b = b == 32

-- a byte of a word: neither a space nor a line feed
abbrev pub is_of_word : ℕ → Bool
is_of_word b = not (b == 32 || b == 10)

-- the span of a word that begins here and has so many bytes; there is none where it has none
abbrev pub span_from : ℕ → ℕ → Option (ℕ × ℕ)
span_from start len = if len == 0 then None else Some (start, start + len)

-- the span of the first word from a place on, where one comes before the line's end: spaces are passed over, and the word goes on
-- as far as it can
unfoldable pub next_span : List ℕ → ℕ → Option (ℕ × ℕ)
next_span bytes from = span_from (from + prefix_len is_space (drop from bytes)) (prefix_len is_of_word (drop (from + prefix_len is_space (drop from bytes)) bytes))
