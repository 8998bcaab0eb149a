-- Texts of the items of a list, put one after another.
use Rattle.std.proofs.Common.{◌≡◌, ℕ, ◌≤◌, List, length, take, map, sym, ap, ◌∙◌}
use Rattle.std.specs.List.{flat_map}
use Rattle.std.proofs.lemmas.List.{take_all}
use Rattle.std.proofs.lemmas.List.Folds.{flat_map-map}

-- behind the last item
pub all_mapped : {A B : Type 0} (text : B → List ℕ) (view : A → B) (items : List A) (i : ℕ) → length items ≤ i → flat_map (λ item. text (view item)) (take i items) ≡ flat_map text (map view items)
all_mapped text view items i h = ap (flat_map (λ item. text (view item))) (take_all i items h) ∙ sym (flat_map-map text view items)
