-- The parts of a printed script, put one after another.
use Rattle.std.proofs.Common.{◌≡◌, ℕ, List, [], ◌∷◌, ◌++◌, map, append_assoc}
use Rattle.std.specs.List.{flat_map}
use Rattle.std.proofs.lemmas.Grind.{flat_map-append}
use Rattle.guest_script.specs.Keywords.{spelling}
use Rattle.guest_script.specs.Print.{head_lines, line_text, lines_said, mask_words, printed, programs_lines, schedule_words, word_words}
use Rattle.guest_script.specs.declared.keyword.Keyword.TheVariants as keywords
use Rattle.guest_script.specs.declared.script.Script.{Script}

-- six texts that are put one after another
in_turn : {X : Type 0} (text : X → List ℕ) (a b c d e f : List X) (start : List ℕ) → start ++ flat_map text a ++ flat_map text b ++ flat_map text c ++ flat_map text d ++ flat_map text e ++ flat_map text f ≡ start ++ flat_map text (a ++ b ++ c ++ d ++ e ++ f)
in_turn text a b c d e f start = simp (append_assoc, flat_map-append)

-- what is there after each part of a script
pub record IsPut (s : Script) (start head masks words programs schedule : List ℕ) : Type 0 where
  pub head_put : head ≡ start ++ flat_map line_text (head_lines s.limits s.started)
  pub masks_put : masks ≡ head ++ flat_map line_text (map mask_words s.masks)
  pub words_put : words ≡ masks ++ flat_map line_text (map word_words s.words)
  pub programs_put : programs ≡ words ++ flat_map line_text (programs_lines 0 s.programs)
  pub schedule_put : schedule ≡ programs ++ flat_map line_text (map schedule_words s.schedule)

-- behind them comes the last line
pub printed_whole : (s : Script) (start head masks words programs schedule : List ℕ) → IsPut s start head masks words programs schedule → schedule ++ line_text (spelling keywords.End ∷ []) ≡ start ++ printed s
unfolding printed lines_said
printed_whole s start head masks words programs schedule p =
    rw (p.schedule_put, p.programs_put, p.words_put, p.masks_put, p.head_put) (in_turn line_text (head_lines s.limits s.started) (map mask_words s.masks) (map word_words s.words) (programs_lines 0 s.programs) (map schedule_words s.schedule) ((spelling keywords.End ∷ []) ∷ []) start)
