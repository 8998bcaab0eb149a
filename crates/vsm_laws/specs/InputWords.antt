-- The words that a slice of a call reads of the page of its input.
use Rattle.std.specs.Prelude.{ℕ, ◌+◌, ◌/◌, List, take, drop}
use Rattle.vsm_core.specs.Messages.{words_in}
use Rattle.vsm_core.specs.Reps.{first_word, words_between}

-- a page as its bytes, with an input that begins at this offset, whose header has 16 bytes and each of whose elements
-- has so many: the words that
-- hold the elements from the first to the last
unfoldable pub read_of : (page : List ℕ) (offset size start past : ℕ) → List ℕ
read_of page offset size start past =
    take (words_between size start past) (drop (offset / 8 + 2 + first_word size start) (words_in 512 page))
