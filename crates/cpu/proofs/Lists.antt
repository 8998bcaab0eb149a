-- Lists that grow at their end.
use Rattle.std.proofs.Common.{◌≡◌, ◌-◌, List, [], ◌∷◌, ◌++◌, length, drop, take, refl, arith, length-append}
use Rattle.std.proofs.Math.Seq.{drop-append_seam, take-append_seam}
use Rattle.std.specs.List.{All}
use Rattle.std.proofs.lemmas.List.Elements.{All-cons, All-nil}

pub drop-length : {A : Type 0} (xs : List A) → drop (length xs) xs ≡ []
drop-length [] = refl
drop-length (x ∷ xs) = drop-length xs

-- whatever holds of all new items holds where there are none
pub none-new : {A : Type 0} (P : A → Type 0) (xs : List A) → All P (drop (length xs) xs)
none-new P xs = rw (drop-length xs) (All-nil P)

-- the list before its last item
pub all-but-last : {A : Type 0} (xs : List A) (x : A) → take (length (xs ++ x ∷ []) - 1) (xs ++ x ∷ []) ≡ xs
all-but-last xs x = let e : length (xs ++ x ∷ []) - 1 ≡ length xs = omega (arith, length-append xs (x ∷ [])) in
    rw e (take-append_seam xs (x ∷ []))

-- and of the one new item
pub one-new : {A : Type 0} (P : A → Type 0) (xs : List A) (x : A) → P x → All P (drop (length xs) (xs ++ x ∷ []))
one-new P xs x h = rw (drop-append_seam xs (x ∷ [])) (All-cons P x [] h (All-nil P))
