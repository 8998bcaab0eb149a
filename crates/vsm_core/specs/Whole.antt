-- What a whole attempt works on at once: the journal, by which the masks and the generation are known, a list of posted words and a list of memory words.
use Rattle.std.specs.Prelude.{ℕ, ◌+◌, ◌*◌, List, ◌++◌, bit_or, slice_index, slice_set}
use Rattle.std.specs.List.{fold}
use Rattle.vsm_base.specs.declared.places.Limits.{Limits}
use Rattle.vsm_base.specs.Levels.{level_number}
use Rattle.vsm_core.specs.declared.event.PendingWord.{PendingWord}
use Rattle.vsm_core.specs.declared.event.PendingWord.TheVariants.{Start, Vectors}
use Rattle.vsm_core.specs.Journal.{masks, rounds}
use Rattle.vsm_core.specs.declared.journal.Entry.{Entry}
use Rattle.vsm_core.specs.declared.journal.Entry.TheVariants as entries
use Rattle.vsm_core.specs.Tree.{WordStep, Entering, Checking, Masking, Reading, Writing, Leaving, Posting, Taking}

-- the place of a memory word among all words of memory
abbrev pub memory_place : ℕ → ℕ → ℕ
memory_place page index = 512 * page + index

-- the place of a processor's start word, or of one of its words of pending vectors, among all of these: the start
-- words first, then eight words of vectors for each processor, by level and part
abbrev pub posted_place : Limits → ℕ → PendingWord → ℕ
posted_place limits p Start = p
posted_place limits p (Vectors level part) = limits.vps + 8 * p + 4 * level_number level + part

-- what an attempt works on: the opening masks and the partition's journal so far, the words that are posted to, and the memory words
pub record Flat : Type 0 where
  pub opening : List ℕ
  pub journal : List Entry
  pub posted : List ℕ
  pub memory : List ℕ

-- the masks are those of the journal, and the generation is the number of its reports
abbrev pub masks_in : Flat → List ℕ
masks_in flat = masks flat.opening flat.journal

abbrev pub generation_in : Flat → ℕ
generation_in flat = rounds flat.journal

-- the posted words after an entry: that of a start posts to the processor's start word
abbrev pub posted_by_entry : List ℕ → Entry → List ℕ
posted_by_entry posted (entries.Start by vp level) = slice_set posted vp.0 (bit_or (slice_index posted vp.0) 1)
posted_by_entry posted _ = posted

-- once a request has added these entries
abbrev pub with_entries : Flat → List Entry → Flat
with_entries flat added = record flat { journal = flat.journal ++ added; posted = fold posted_by_entry flat.posted added }

-- what a step of a processor learns
abbrev pub answer_in : Limits → ℕ → Flat → WordStep → ℕ
answer_in limits p flat Entering = 0
answer_in limits p flat Checking = generation_in flat
answer_in limits p flat (Masking page) = slice_index (masks_in flat) page
answer_in limits p flat (Reading page index) = slice_index flat.memory (memory_place page index)
answer_in limits p flat (Writing page index value) = 0
answer_in limits p flat Leaving = 0
answer_in limits p flat (Posting vp word bits) = 0
answer_in limits p flat (Taking word) = slice_index flat.posted (posted_place limits p word)

abbrev pub with_posted : Flat → ℕ → ℕ → Flat
with_posted flat place value = record flat { posted = slice_set flat.posted place value }

-- the words after a step of a processor
abbrev pub flat_after : Limits → ℕ → Flat → WordStep → Flat
flat_after limits p flat (Writing page index value) = record flat { memory = slice_set flat.memory (memory_place page index) value }
flat_after limits p flat (Posting vp word bits) = with_posted flat (posted_place limits vp word) (bit_or (slice_index flat.posted (posted_place limits vp word)) bits)
flat_after limits p flat (Taking word) = with_posted flat (posted_place limits p word) 0
flat_after limits p flat _ = flat
