-- Pieces that are spelled one after another.
use Rattle.std.proofs.Common.{◌≡◌, ℕ, ◌+◌, ◌<◌, ◌≤◌, List, ◌++◌, [], length, take, drop, get_or, sym, ap, ◌∙◌, zero-add, arith}
use Rattle.std.specs.List.{flat_map, range_with_len}
use Rattle.std.proofs.lemmas.List.{take-append-drop, take_more, take_all, flat_map_more}
use Rattle.std.proofs.lemmas.List.FromFn.{length-range_with_len, get_or-range_with_len}
use Rattle.std.proofs.lemmas.Grind.{flat_map-append}

-- the list in three: before a place, the place, and after it
pub flat_map_cut : {X : Type 0} (f : X → List ℕ) (xs : List X) (i : ℕ) (d : X) → i < length xs → (flat_map f (take i xs) ++ f (get_or xs i d)) ++ flat_map f (drop (i + 1) xs) ≡ flat_map f xs
flat_map_cut f xs i d l =
    ap (λ y. y ++ flat_map f (drop (i + 1) xs)) (flat_map_more f [] (take i xs) (get_or xs i d) ∙ ap (flat_map f) (sym (take_more xs i d l))) ∙ sym (flat_map-append f (take (i + 1) xs) (drop (i + 1) xs)) ∙ ap (flat_map f) (take-append-drop (i + 1) xs)

-- the items before a place and the place are the items before the next place
pub flat_map_step : {X : Type 0} (f : X → List ℕ) (xs : List X) (i : ℕ) (d : X) → i < length xs → flat_map f (take i xs) ++ f (get_or xs i d) ≡ flat_map f (take (i + 1) xs)
flat_map_step f xs i d l =
    flat_map_more f [] (take i xs) (get_or xs i d) ∙ ap (flat_map f) (sym (take_more xs i d l))

-- the same of an element that is read at a place
pub flat_map_cut_at : {X : Type 0} (f : X → List ℕ) (xs : List X) (i : ℕ) (x : X) → x ≡ get_or xs i x → i < length xs → (flat_map f (take i xs) ++ f x) ++ flat_map f (drop (i + 1) xs) ≡ flat_map f xs
flat_map_cut_at f xs i x e l = ap (λ y. (flat_map f (take i xs) ++ f y) ++ flat_map f (drop (i + 1) xs)) e ∙ flat_map_cut f xs i x l

pub flat_map_step_at : {X : Type 0} (f : X → List ℕ) (xs : List X) (i : ℕ) (x : X) → x ≡ get_or xs i x → i < length xs → flat_map f (take i xs) ++ f x ≡ flat_map f (take (i + 1) xs)
flat_map_step_at f xs i x e l = ap (λ y. flat_map f (take i xs) ++ f y) e ∙ flat_map_step f xs i x l

-- the same of the places of a list
pub flat_map_range_cut : (f : ℕ → List ℕ) (n i : ℕ) → i < n → (flat_map f (take i (range_with_len 0 n)) ++ f i) ++ flat_map f (drop (i + 1) (range_with_len 0 n)) ≡ flat_map f (range_with_len 0 n)
flat_map_range_cut f n i l =
    ap (λ j. (flat_map f (take i (range_with_len 0 n)) ++ f j) ++ flat_map f (drop (i + 1) (range_with_len 0 n))) (sym (get_or-range_with_len 0 n i 0 l ∙ zero-add i)) ∙ flat_map_cut f (range_with_len 0 n) i 0 (omega (arith, length-range_with_len 0 n))

pub flat_map_range_more : (f : ℕ → List ℕ) (n i : ℕ) → i < n → flat_map f (take i (range_with_len 0 n)) ++ f i ≡ flat_map f (take (i + 1) (range_with_len 0 n))
flat_map_range_more f n i l =
    ap (λ j. flat_map f (take i (range_with_len 0 n)) ++ f j) (sym (get_or-range_with_len 0 n i 0 l ∙ zero-add i)) ∙ flat_map_more f [] (take i (range_with_len 0 n)) (get_or (range_with_len 0 n) i 0) ∙ ap (flat_map f) (sym (take_more (range_with_len 0 n) i 0 (omega (arith, length-range_with_len 0 n))))

pub flat_map_range_all : (f : ℕ → List ℕ) (n i : ℕ) → n ≤ i → flat_map f (take i (range_with_len 0 n)) ≡ flat_map f (range_with_len 0 n)
flat_map_range_all f n i l = ap (flat_map f) (take_all i (range_with_len 0 n) (omega (arith, length-range_with_len 0 n)))
