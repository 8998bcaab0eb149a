-- The words and masks with which a script's run begins.
use Rattle.std.specs.Prelude.{◌≡◌, ℕ, ◌+◌, ◌*◌, ◌<◌, List, fold, replicate, slice_index, slice_set}
use Rattle.vsm_base.specs.declared.places.Page.{Page}
use Rattle.vsm_core.specs.Whole.{memory_place}
use Rattle.guest_script.specs.declared.script.Script.{Script}

-- how many memory words there are
abbrev pub word_count : Script → ℕ
word_count s = 512 * s.limits.pages

-- the words with one that the script gives
abbrev pub with_word : List ℕ → Page × ℕ × ℕ → List ℕ
with_word words w = slice_set words (memory_place w.0.0 w.1) w.2

-- the masks with one that the script gives
abbrev pub with_mask : List ℕ → Page × ℕ → List ℕ
with_mask masks m = slice_set masks m.0.0 m.1

-- the memory words: 0, but for those that the script gives
unfoldable pub opening_words : Script → List ℕ
opening_words s = fold with_word (replicate (word_count s) 0) s.words

-- the masks: all rights, but for those that the script gives
unfoldable pub opening_masks : Script → List ℕ
opening_masks s = fold with_mask (replicate s.limits.pages 15) s.masks

-- a stretch of sixteen pages of a list of words
pub record IsStretch (words : List ℕ) (stretch : ℕ) (part : List ℕ) : Type 0 where
  pub same : (i : ℕ) → i < 8192 → slice_index part i ≡ slice_index words (8192 * stretch + i)
