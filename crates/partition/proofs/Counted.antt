-- Counts over the first numbers.
use Rattle.std.proofs.Common.{◌≡◌, ◌∙◌, ℕ, ◌+◌, ◌<◌, Bool, true, false, ap, sym, arith, take}
use Rattle.std.proofs.Math.Seq.{take-length}
use Rattle.std.proofs.lemmas.List.FromFn.{length-range_with_len, get_or-range_with_len}
use Rattle.std.proofs.lemmas.List.Sums.{count_by_more_yes, count_by_more_no}
use Rattle.std.specs.List.{count_by, range_with_len}

pub counted-yes : (p : ℕ → Bool) (n i : ℕ) → i < n → p i ≡ true → count_by p (take (i + 1) (range_with_len 0 n)) ≡ count_by p (take i (range_with_len 0 n)) + 1
counted-yes p n i lt e =
    let same : 0 + i ≡ i = omega arith in
    count_by_more_yes p (range_with_len 0 n) i 0 (rw (length-range_with_len 0 n) lt) (ap p (get_or-range_with_len 0 n i 0 lt ∙ same) ∙ e)

pub counted-no : (p : ℕ → Bool) (n i : ℕ) → i < n → p i ≡ false → count_by p (take (i + 1) (range_with_len 0 n)) ≡ count_by p (take i (range_with_len 0 n))
counted-no p n i lt e =
    let same : 0 + i ≡ i = omega arith in
    count_by_more_no p (range_with_len 0 n) i 0 (rw (length-range_with_len 0 n) lt) (ap p (get_or-range_with_len 0 n i 0 lt ∙ same) ∙ e)

pub counted-all : (p : ℕ → Bool) (n i : ℕ) → i ≡ n → count_by p (take i (range_with_len 0 n)) ≡ count_by p (range_with_len 0 n)
counted-all p n i e = ap (count_by p) (ap (λ m. take m (range_with_len 0 n)) (e ∙ sym (length-range_with_len 0 n)) ∙ take-length (range_with_len 0 n))
