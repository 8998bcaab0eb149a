-- Lines of masks and memory words that are printed are read again.
use Rattle.std.proofs.Common.{◌≡◌, ℕ, ◌^◌, ◌<◌, ◌≤◌, List, [], ◌∷◌, ◌++◌, map, true, false, Ok, refl, sym, subst, ◌∙◌, arith, append_assoc, append-nil}
use Rattle.std.specs.Fmt.{decimal}
use Rattle.std.proofs.lemmas.Bool.Decides.{nat_tests}
use Rattle.vsm_base.specs.Masks.{is_mask}
use Rattle.vsm_base.specs.declared.places.Page.{Page}
use Rattle.guest_script.specs.Fields.{no_more}
use Rattle.guest_script.specs.Line.{after_first, mask_line, word_line, is_masked}
use Rattle.guest_script.specs.Print.{hex, mask_words, word_words}
use Rattle.guest_script.specs.Words.{is_given}
use Rattle.guest_script.specs.declared.keyword.Keyword.TheVariants as words
use Rattle.guest_script.specs.declared.keyword.Stage.TheVariants as stages
use Rattle.guest_script.specs.declared.reading.Reading.{Reading}
use Rattle.guest_script.proofs.Printable.{AreMasks, AreWords}
use Rattle.guest_script.proofs.ReadBackLines.{Leads, leads_nowhere, leads_on}
use Rattle.guest_script.proofs.Spoken.{AreSpoken}
use Rattle.guest_script.proofs.SpokenLines.{after_first-keyword}
use Rattle.guest_script.proofs.SpokenNumbers.{decimal_is_word, hex_is_word, keyword_is_word, number-decimal, number-hex}

-- a mask is small
few_bits : (m : ℕ) → is_mask m ≡ true → m < 16
few_bits m e = grind (arith, nat_tests)

-- the words of a mask line
mask_is_spoken : (m : Page × ℕ) → m.0.0 < 2 ^ 64 → m.1 < 2 ^ 64 → AreSpoken (mask_words m)
mask_is_spoken m p b = (keyword_is_word words.Mask, (decimal_is_word m.0.0 p, (decimal_is_word m.1 b, tt)))

-- what has been read, with these masks
abbrev with_masks : Reading → List (Page × ℕ) → Reading
with_masks r masks = record r { masks = masks }

-- a mask line
mask_read : (r : Reading) (m : Page × ℕ) → r.stage ≡ stages.Memory → r.limits.pages ≤ 256 → m.0.0 < r.limits.pages → is_mask m.1 ≡ true → is_masked m.0.0 r.masks ≡ false → after_first r (mask_words m) ≡ Ok (with_masks r (r.masks ++ m ∷ []))
unfolding mask_line no_more
mask_read r m s k p b n =
    let w = few_bits m.1 b in
    let x = number-decimal 0 r.limits.pages m.0.0 (decimal m.1 ∷ []) (omega arith) (omega arith) p in
    let y = number-decimal 0 16 m.1 [] (omega arith) (omega arith) w in
    after_first-keyword r words.Mask (decimal m.0.0 ∷ decimal m.1 ∷ []) (rw s refl) ∙ rw (x, y, b, n) refl

-- all the mask lines
pub masks_read : (r : Reading) (masks : List (Page × ℕ)) → r.stage ≡ stages.Memory → r.limits.pages ≤ 256 → AreMasks r.limits.pages r.masks masks → Leads r (map mask_words masks) (record r { masks = r.masks ++ masks })
masks_read r [] s k a = subst (λ ms. Leads r [] (with_masks r ms)) (sym (append-nil r.masks)) (leads_nowhere r)
masks_read r (m ∷ masks) s k a =
    let w = few_bits m.1 a.1.0 in
    let p = a.0 in
    let rest = masks_read (with_masks r (r.masks ++ m ∷ [])) masks s k a.1.1.1 in
    leads_on (mask_is_spoken m (omega arith) (omega arith)) (mask_read r m s k a.0 a.1.0 a.1.1.0) (subst (λ ms. Leads (with_masks r (r.masks ++ m ∷ [])) (map mask_words masks) (with_masks r ms)) (append_assoc r.masks (m ∷ []) masks) rest)

-- the words of a word line
word_is_spoken : (w : Page × ℕ × ℕ) → w.0.0 < 2 ^ 64 → w.1 < 2 ^ 64 → w.2 < 2 ^ 128 → AreSpoken (word_words w)
word_is_spoken w p i v = (keyword_is_word words.Word, (decimal_is_word w.0.0 p, (decimal_is_word w.1 i, (hex_is_word w.2 v, tt))))

-- what has been read, with these memory words
abbrev with_words : Reading → List (Page × ℕ × ℕ) → Reading
with_words r words = record r { words = words }

-- a word line
word_read : (r : Reading) (w : Page × ℕ × ℕ) → r.stage ≡ stages.Memory → r.limits.pages ≤ 256 → w.0.0 < r.limits.pages → w.1 < 512 → w.2 < 2 ^ 64 → is_given w.0.0 w.1 r.words ≡ false → after_first r (word_words w) ≡ Ok (with_words r (r.words ++ w ∷ []))
unfolding word_line no_more
word_read r w s k p i v n =
    let x = number-decimal 0 r.limits.pages w.0.0 (decimal w.1 ∷ hex w.2 ∷ []) (omega arith) (omega arith) p in
    let y = number-decimal 0 512 w.1 (hex w.2 ∷ []) (omega arith) (omega arith) i in
    let z = number-hex 0 (2 ^ 64) w.2 [] (omega arith) (omega arith) v in
    after_first-keyword r words.Word (decimal w.0.0 ∷ decimal w.1 ∷ hex w.2 ∷ []) (rw s refl) ∙ rw (x, y, z, n) refl

-- all the word lines
pub words_read : (r : Reading) (given : List (Page × ℕ × ℕ)) → r.stage ≡ stages.Memory → r.limits.pages ≤ 256 → AreWords r.limits.pages r.words given → Leads r (map word_words given) (record r { words = r.words ++ given })
words_read r [] s k a = subst (λ ws. Leads r [] (with_words r ws)) (sym (append-nil r.words)) (leads_nowhere r)
words_read r (w ∷ given) s k a =
    let p = a.0 in
    let i = a.1.0 in
    let v = a.1.1.0 in
    let rest = words_read (with_words r (r.words ++ w ∷ [])) given s k a.1.1.1.1 in
    leads_on (word_is_spoken w (omega arith) (omega arith) (omega arith)) (word_read r w s k p i v a.1.1.1.0) (subst (λ ws. Leads (with_words r (r.words ++ w ∷ [])) (map word_words given) (with_words r ws)) (append_assoc r.words (w ∷ []) given) rest)
