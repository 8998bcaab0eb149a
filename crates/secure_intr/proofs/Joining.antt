-- Word by word, a set takes the vectors of another.
use Rattle.std.proofs.Common.{◌≡◌, ℕ, zero, suc, ◌+◌, bit_or, slice_set, get_or, List, [], ◌∷◌, length, refl, add-one, arith}
use Rattle.vsm_core.specs.Vectors.{joined}

-- a set of which so many words have taken those of another
unfoldable pub partly : ℕ → List ℕ → List ℕ → List ℕ
partly zero set others = set
partly (suc n) set others = slice_set (partly n set others) n (bit_or (get_or (partly n set others) n 0) (get_or others n 0))

pub partly-none : (set others : List ℕ) → set ≡ partly 0 set others
unfolding partly
partly-none set others = refl

pub partly-more : (n : ℕ) (set others now : List ℕ) → now ≡ partly n set others → slice_set now n (bit_or (get_or now n 0) (get_or others n 0)) ≡ partly (n + 1) set others
unfolding partly
partly-more n set others now e = rw (e, add-one) refl

-- a list of four
four : (P : List ℕ → Type 0) → ((a b c d : ℕ) → P (a ∷ b ∷ c ∷ d ∷ [])) → (xs : List ℕ) → length xs ≡ 4 → P xs
four P f (a ∷ b ∷ c ∷ d ∷ []) e = f a b c d
four P f [] e = absurd (omega arith)
four P f (a ∷ []) e = absurd (omega arith)
four P f (a ∷ b ∷ []) e = absurd (omega arith)
four P f (a ∷ b ∷ c ∷ []) e = absurd (omega arith)
four P f (a ∷ b ∷ c ∷ d ∷ x ∷ xs) e = absurd (omega arith)

pub partly-all : (set others : List ℕ) → length set ≡ 4 → length others ≡ 4 → partly 4 set others ≡ joined set others
unfolding partly
partly-all set others e f =
    four (λ (s : List ℕ). partly 4 s others ≡ joined s others)
    (λ a b c d. four (λ (o : List ℕ). partly 4 (a ∷ b ∷ c ∷ d ∷ []) o ≡ joined (a ∷ b ∷ c ∷ d ∷ []) o) (λ w x y z. refl) others f) set e
