-- Words that are given one after another, as they stand in one stretch.
use Rattle.std.proofs.Common.{◌≡◌, ℕ, ◌+◌, ◌*◌, ◌/◌, ◌%◌, ◌<◌, ◌≤◌, List, [], ◌∷◌, length, take, get_or, replicate, refl, sym, ap, subst, ◌∙◌, arith}
use Rattle.std.specs.Prelude.{slice_index}
use Rattle.std.specs.List.{fold}
use Rattle.std.proofs.lemmas.List.{get_or-replicate, get_or_past, take_all, length-replicate, length-set}
use Rattle.std.proofs.lemmas.List.Sums.{fold_more}
use Rattle.vsm_base.specs.declared.places.Page.{Page}
use Rattle.vsm_core.specs.Whole.{memory_place}
use Rattle.guest_script.specs.declared.script.Script.{Script}
use Rattle.vsm_report.specs.Opening.{IsStretch, opening_words, with_word, word_count}

-- the memory words when the first so many are given
abbrev pub words_so_far : Script → ℕ → List ℕ
words_so_far s i = fold with_word (replicate (word_count s) 0) (take i s.words)

-- among zeros and past them there is 0
zero_at : (n i : ℕ) → slice_index (replicate n 0) i ≡ 0
zero_at n i = grind (arith, get_or-replicate, get_or_past, length-replicate)

-- with no word given all are 0
pub stretch_of_zeros : (n stretch : ℕ) → IsStretch (replicate n 0) stretch (replicate 8192 0)
stretch_of_zeros n stretch = record { same = λ i k. zero_at 8192 i ∙ sym (zero_at n (8192 * stretch + i)) }

-- one word more
pub stretch_more : (s : Script) (ws : List (Page × ℕ × ℕ)) (i : ℕ) (d : Page × ℕ × ℕ) (stretch : ℕ) (part : List ℕ) → ws ≡ s.words → i < length ws → IsStretch (with_word (words_so_far s i) (get_or ws i d)) stretch part → IsStretch (words_so_far s (i + 1)) stretch part
stretch_more s ws i d stretch part e l p =
    subst (λ x. IsStretch x stretch part) (ap (λ us. with_word (words_so_far s i) (get_or us i d)) e ∙ sym (fold_more with_word (replicate (word_count s) 0) s.words i d (subst (λ us. i < length us) e l))) p

-- all words
pub stretch_whole : (s : Script) (ws : List (Page × ℕ × ℕ)) (i stretch : ℕ) (part : List ℕ) → ws ≡ s.words → length ws ≤ i → IsStretch (words_so_far s i) stretch part → IsStretch (opening_words s) stretch part
unfolding opening_words
stretch_whole s ws i stretch part e l p =
    subst (λ x. IsStretch x stretch part) (ap (fold with_word (replicate (word_count s) 0)) (take_all i s.words (subst (λ us. length us ≤ i) e l))) p

-- the word of a place, in its stretch
pub stretch_at : (words part : List ℕ) (at : ℕ) → IsStretch words (at / 8192) part → slice_index part (at % 8192) ≡ slice_index words at
stretch_at words part at p =
    let e : 8192 * (at / 8192) + at % 8192 ≡ at = omega arith in
    p.same (at % 8192) (omega arith) ∙ ap (slice_index words) e

-- a place that is not the first of a stretch has the stretch of the place before it
pub stretch_still : (words part : List ℕ) (at : ℕ) → IsStretch words (at / 8192) part → 0 < (at + 1) % 8192 → IsStretch words ((at + 1) / 8192) part
stretch_still words part at p l =
    let e : at / 8192 ≡ (at + 1) / 8192 = omega arith in
    subst (λ stretch. IsStretch words stretch part) e p

-- however many words are given, their number stays
pub length-fold-with_word : (words : List ℕ) (ws : List (Page × ℕ × ℕ)) → length (fold with_word words ws) ≡ length words
length-fold-with_word words [] = refl
length-fold-with_word words (w ∷ ws) = length-fold-with_word (with_word words w) ws ∙ length-set words (memory_place w.0.0 w.1) w.2

pub length-words_so_far : (s : Script) (i : ℕ) → length (words_so_far s i) ≡ 512 * s.limits.pages
length-words_so_far s i = length-fold-with_word (replicate (word_count s) 0) (take i s.words) ∙ length-replicate (word_count s) 0
