-- A line that is printed is cut at its feed, and its words come out as they were.
use Rattle.std.proofs.Common.{◌≡◌, ℕ, List, [], ◌∷◌, ◌++◌, Bool, true, false, ◌&&◌, ◌==◌, Some, refl, ap, ◌∙◌, arith, append_assoc, ne_eqb}
use Rattle.std.specs.List.{list_all, flat_map, onto_first}
use Rattle.std.proofs.lemmas.Bool.Decides.{nat_tests}
use Rattle.std.proofs.lemmas.List.Folds.{list_all-append}
use Rattle.guest_script.proofs.Spoken.{IsWord, AreSpoken, is_shown}
use Rattle.guest_script.proofs.SpokenNumbers.{keyword_of-spelling}
use Rattle.guest_script.specs.Fields.{Words}
use Rattle.guest_script.specs.Grammar.{said_by, gone_on, next_number}
use Rattle.guest_script.specs.Keywords.{spelling, stands, keyword_of, all_keywords}
use Rattle.guest_script.specs.Line.{after_line, after_first, after_words, is_text, is_comment}
use Rattle.guest_script.specs.Lines.{lines_of, words_of, goes_on}
use Rattle.guest_script.specs.Print.{after_space, line_text}
use Rattle.guest_script.specs.declared.keyword.Keyword.{Keyword}
use Rattle.guest_script.specs.declared.reading.Reading.{Reading}

-- both tests pass
both : (a b : Bool) → a && b ≡ true → (a ≡ true) × (b ≡ true)
both true b e = (refl, e)
both false b e = cc

-- a byte that passes a test, and those after it
parts : (test : ℕ → Bool) (x : ℕ) (w : List ℕ) → list_all test (x ∷ w) ≡ true → (test x ≡ true) × (list_all test w ≡ true)
parts test x w e = both (test x) (list_all test w) e

-- a shown byte is text, and no space
shown_is_text : (x : ℕ) → is_shown x ≡ true → (is_text x ≡ true) × ((x == 32) ≡ false)
shown_is_text x e = (grind (arith, nat_tests), grind (arith, nat_tests))

-- a feed isn't text
text_is_no_feed : (x : ℕ) → is_text x ≡ true → (x == 10) ≡ false
text_is_no_feed x e = grind (arith, nat_tests)

-- a word is text
word_is_text : (w : List ℕ) → list_all is_shown w ≡ true → list_all is_text w ≡ true
word_is_text [] e = refl
word_is_text (x ∷ w) e =
    let p = parts is_shown x w e in
    rw ((shown_is_text x p.0).0, word_is_text w p.1) refl

-- words behind spaces are text
others_are_text : (ws : Words) → AreSpoken ws → list_all is_text (flat_map after_space ws) ≡ true
others_are_text [] s = refl
others_are_text (w ∷ ws) s =
    list_all-append is_text w (flat_map after_space ws) ∙ rw (word_is_text w s.0.shown, others_are_text ws s.1) refl

-- a line of these words without its feed
abbrev unended : Words → List ℕ
unended [] = []
unended (w ∷ ws) = w ++ flat_map after_space ws

-- such a line is text
unended_is_text : (ws : Words) → AreSpoken ws → list_all is_text (unended ws) ≡ true
unended_is_text [] s = refl
unended_is_text (w ∷ ws) s = others_are_text (w ∷ ws) s

-- a printed line, its feed apart
feed_at_end : (ws : Words) (rest : List ℕ) → line_text ws ++ rest ≡ unended ws ++ 10 ∷ rest
feed_at_end [] rest = refl
feed_at_end (w ∷ ws) rest = simp append_assoc

-- text, its feed, and the rest
lines_of-append : (line rest : List ℕ) → list_all is_text line ≡ true → lines_of (line ++ 10 ∷ rest) ≡ line ∷ lines_of rest
lines_of-append [] rest t = refl
lines_of-append (x ∷ line) rest t =
    let p = parts is_text x line t in
    rw (text_is_no_feed x p.0, lines_of-append line rest p.1) refl

-- within a word
within : (x y : ℕ) (w : List ℕ) → (x == 32) ≡ false → (y == 32) ≡ false → words_of (x ∷ y ∷ w) ≡ onto_first x (words_of (y ∷ w))
within x y w a b = rw (a, b) refl

-- a word, and what doesn't go on with it
word_first : (w rest : List ℕ) → IsWord w → goes_on rest ≡ false → words_of (w ++ rest) ≡ w ∷ words_of rest
word_first [] rest s g = absurd (omega (arith, s.some))
word_first (x ∷ []) rest s g = rw ((shown_is_text x (parts is_shown x [] s.shown).0).1, g) refl
word_first (x ∷ y ∷ w) rest s g =
    let p = parts is_shown x (y ∷ w) s.shown in
    let q = parts is_shown y w p.1 in
    let e = word_first (y ∷ w) rest (record { some = omega arith; shown = p.1 }) g in
    within x y (w ++ rest) (shown_is_text x p.0).1 (shown_is_text y q.0).1 ∙ ap (onto_first x) e

-- a space comes before each word but the first
none_goes_on : (ws : Words) → goes_on (flat_map after_space ws) ≡ false
none_goes_on [] = refl
none_goes_on (w ∷ ws) = refl

-- words behind spaces come out as they were
others_of : (ws : Words) → AreSpoken ws → words_of (flat_map after_space ws) ≡ ws
others_of [] s = refl
others_of (w ∷ ws) s = word_first w (flat_map after_space ws) s.0 (none_goes_on ws) ∙ ap (λ more. w ∷ more) (others_of ws s.1)

-- the words of such a line
unended_words : (ws : Words) → AreSpoken ws → words_of (unended ws) ≡ ws
unended_words [] s = refl
unended_words (w ∷ ws) s = others_of (w ∷ ws) s

-- no word that begins a line begins a comment
no_comment : (word : List ℕ) (k : Keyword) → keyword_of word ≡ Some k → is_comment word ≡ false
unfolding keyword_of all_keywords
no_comment [] k e = refl
no_comment (b ∷ word) k e = ne_eqb b 35 (λ h. let n = rw h at e in cc)

-- what a line of this kind does where it can stand
pub after_first-keyword : (r : Reading) (k : Keyword) (ws : Words) → stands k r.stage ≡ true → after_first r (spelling k ∷ ws) ≡ after_words r k ws
after_first-keyword r k ws s =
    rw (no_comment (spelling k) k (keyword_of-spelling k), keyword_of-spelling k, s) refl

-- what a line does whose words these are
unended_said : (r : Reading) (ws : Words) → AreSpoken ws → after_line r (unended ws) ≡ after_first r ws
unfolding after_line
unended_said r ws s = rw (unended_is_text ws s, unended_words ws s) refl

-- the words of a line that is printed say what they say
pub said_by_line : (r : Reading) (n : ℕ) (ws : Words) (rest : List ℕ) → AreSpoken ws → said_by r n (lines_of (line_text ws ++ rest)) ≡ gone_on (after_first r ws) n (λ next. said_by next (next_number n) (lines_of rest))
said_by_line r n ws rest s =
    ap (said_by r n) (ap lines_of (feed_at_end ws rest) ∙ lines_of-append (unended ws) rest (unended_is_text ws s)) ∙ ap (λ said. gone_on said n (λ next. said_by next (next_number n) (lines_of rest))) (unended_said r ws s)
