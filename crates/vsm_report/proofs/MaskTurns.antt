-- Masks that are given one after another, as one page sees them.
use Rattle.std.proofs.Common.{◌≡◌, ℕ, ◌+◌, ◌<◌, ◌≤◌, List, [], ◌∷◌, length, take, get_or, replicate, refl, sym, ap, subst, ◌∙◌}
use Rattle.std.specs.Prelude.{slice_index}
use Rattle.std.specs.List.{fold}
use Rattle.std.proofs.lemmas.List.{take_all, length-replicate, length-set}
use Rattle.std.proofs.lemmas.List.Sums.{fold_more}
use Rattle.vsm_base.specs.declared.places.Page.{Page}
use Rattle.guest_script.specs.declared.script.Script.{Script}
use Rattle.vsm_report.specs.Opening.{opening_masks, with_mask}

-- the masks when the first so many are given
abbrev pub masks_so_far : Script → ℕ → List ℕ
masks_so_far s i = fold with_mask (replicate s.limits.pages 15) (take i s.masks)

-- one mask more
pub mask_more : (s : Script) (ms : List (Page × ℕ)) (i : ℕ) (x : Page × ℕ) (page mask : ℕ) → ms ≡ s.masks → x ≡ get_or ms i x → i < length ms → slice_index (with_mask (masks_so_far s i) x) page ≡ mask → slice_index (masks_so_far s (i + 1)) page ≡ mask
mask_more s ms i x page mask e is l p =
    subst (λ masks. slice_index masks page ≡ mask) (ap (with_mask (masks_so_far s i)) (is ∙ ap (λ us. get_or us i x) e) ∙ sym (fold_more with_mask (replicate s.limits.pages 15) s.masks i x (subst (λ us. i < length us) e l))) p

-- all masks
pub mask_whole : (s : Script) (ms : List (Page × ℕ)) (i page mask : ℕ) → ms ≡ s.masks → length ms ≤ i → slice_index (masks_so_far s i) page ≡ mask → mask ≡ slice_index (opening_masks s) page
unfolding opening_masks
mask_whole s ms i page mask e l p =
    sym p ∙ ap (λ x. slice_index x page) (ap (fold with_mask (replicate s.limits.pages 15)) (take_all i s.masks (subst (λ us. length us ≤ i) e l)))

-- however many masks are given, their number stays
pub length-fold-with_mask : (masks : List ℕ) (given : List (Page × ℕ)) → length (fold with_mask masks given) ≡ length masks
length-fold-with_mask masks [] = refl
length-fold-with_mask masks (m ∷ given) = length-fold-with_mask (with_mask masks m) given ∙ length-set masks m.0.0 m.1

pub length-masks_so_far : (s : Script) (i : ℕ) → length (masks_so_far s i) ≡ s.limits.pages
length-masks_so_far s i = length-fold-with_mask (replicate s.limits.pages 15) (take i s.masks) ∙ length-replicate s.limits.pages 15
