-- All shared words in one list, and an attempt's steps on them.
use Rattle.std.specs.Prelude.{◌≡◌, ℕ, ◌+◌, ◌*◌, ◌<◌, List, length, bit_or, slice_index, slice_set, take, drop}
use Rattle.vsm_base.specs.declared.places.Limits.{Limits}
use Rattle.vsm_core.specs.Tree.{WordStep, Entering, Checking, Masking, Reading, Writing, Leaving, Posting, Taking}
use Rattle.vsm_core.specs.Whole.{Flat, masks_in, generation_in, memory_place, posted_place}

-- the places of the parts, in this order: a mask for each page, the generation, for each processor a busy word, a
-- start word and eight words of pending vectors, and the memory
abbrev pub generation_at : Limits → ℕ
generation_at limits = limits.pages

abbrev pub busy_at : Limits → ℕ → ℕ
busy_at limits p = limits.pages + 1 + p

abbrev pub posted_at : Limits → ℕ
posted_at limits = limits.pages + 1 + limits.vps

abbrev pub memory_at : Limits → ℕ
memory_at limits = limits.pages + 1 + 10 * limits.vps

-- how many words there are
abbrev pub word_count : Limits → ℕ
word_count limits = memory_at limits + 512 * limits.pages

-- the word that a processor's step is on
abbrev pub place_of : Limits → ℕ → WordStep → ℕ
place_of limits p Entering = busy_at limits p
place_of limits p Checking = generation_at limits
place_of limits p (Masking page) = page
place_of limits p (Reading page index) = memory_at limits + memory_place page index
place_of limits p (Writing page index value) = memory_at limits + memory_place page index
place_of limits p Leaving = busy_at limits p
place_of limits p (Posting vp word bits) = posted_at limits + posted_place limits vp word
place_of limits p (Taking word) = posted_at limits + posted_place limits p word

-- the word itself
abbrev pub word_at : Limits → ℕ → List ℕ → WordStep → ℕ
word_at limits p words s = slice_index words (place_of limits p s)

abbrev pub with_word : Limits → ℕ → List ℕ → WordStep → ℕ → List ℕ
with_word limits p words s value = slice_set words (place_of limits p s) value

-- what a step learns from the words as they stand
abbrev pub answer_of : Limits → ℕ → List ℕ → WordStep → ℕ
answer_of limits p words Entering = 0
answer_of limits p words Checking = word_at limits p words Checking
answer_of limits p words (Masking page) = word_at limits p words (Masking page)
answer_of limits p words (Reading page index) = word_at limits p words (Reading page index)
answer_of limits p words (Writing page index value) = 0
answer_of limits p words Leaving = 0
answer_of limits p words (Posting vp word bits) = 0
answer_of limits p words (Taking word) = word_at limits p words (Taking word)

-- the words after a step
abbrev pub words_by : Limits → ℕ → List ℕ → WordStep → List ℕ
words_by limits p words Entering = with_word limits p words Entering 1
words_by limits p words (Writing page index value) = with_word limits p words (Writing page index value) value
words_by limits p words Leaving = with_word limits p words Leaving 0
words_by limits p words (Posting vp word bits) = with_word limits p words (Posting vp word bits) (bit_or (word_at limits p words (Posting vp word bits)) bits)
words_by limits p words (Taking word) = with_word limits p words (Taking word) 0
words_by limits p words _ = words

-- the words have the masks and the generation of this journal, these posted words and this memory
pub record Holds (limits : Limits) (words : List ℕ) (flat : Flat) : Type 0 where
  pub long : generation_at limits < length words
  pub of_masks : take limits.pages words ≡ masks_in flat
  pub of_generation : slice_index words (generation_at limits) ≡ generation_in flat
  pub of_posted : take (9 * limits.vps) (drop (posted_at limits) words) ≡ flat.posted
  pub of_memory : drop (memory_at limits) words ≡ flat.memory
