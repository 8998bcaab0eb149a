-- A page's words and the elements of an input.
use Rattle.std.proofs.Common.{◌≡◌, ◌≤◌, ◌<◌, ◌+◌, ◌*◌, ◌-◌, ◌/◌, ◌%◌, ◌^◌, ℕ, zero, suc, false, List, [], ◌∷◌, Option}
use Rattle.std.proofs.Common.{None, Some, Ok, All, take, drop, not, ◌==◌, refl, sym, ap, ◌∙◌, arith, nat_lt}
use Rattle.std.proofs.lemmas.Bool.Decides.{nat_tests}
use Rattle.std.proofs.lemmas.List.{drop-take, take-take, drop-drop, get_or-take, get_or-drop}
use Rattle.std.specs.Int.{from_le_bytes, w32, w64}
use Rattle.std.specs.List.{slice_range, slice_index}
use Rattle.vsm_base.specs.declared.status.HvStatus.{HvStatus}
use Rattle.vsm_core.proofs.Checks.{none-fails}
use Rattle.vsm_core.specs.Calls.{unless, first_failed, part_checks, part_at}
use Rattle.vsm_core.specs.Messages.{words_in}
use Rattle.vsm_core.specs.RegisterCalls.{halves, settings}

-- words that are left aside are eight bytes each
drop-words : (m n : ℕ) (bytes : List ℕ) → m ≤ n → drop m (words_in n bytes) ≡ words_in (n - m) (drop (8 * m) bytes)
drop-words zero n bytes h = let same : n ≡ n - 0 = omega (arith) in ap (λ k. words_in k bytes) same
drop-words (suc m) zero bytes h = absurd (omega (arith, h))
drop-words (suc m) (suc n) bytes h =
    let long : 8 + 8 * m ≡ 8 * suc m = omega (arith) in
    let left : n - m ≡ suc n - suc m = omega (arith) in
    drop-words m n (drop 8 bytes) (omega (arith, h))
    ∙ ap (λ k. words_in k (drop (8 * m) (drop 8 bytes))) left
    ∙ ap (words_in (suc n - suc m)) (drop-drop (8 * m) 8 bytes ∙ ap (λ k. drop k bytes) long)

-- and so are those that are taken
take-words : (m n : ℕ) (bytes : List ℕ) → m ≤ n → take m (words_in n bytes) ≡ words_in m (take (8 * m) bytes)
take-words zero n bytes h = refl
take-words (suc m) zero bytes h = absurd (omega (arith, h))
take-words (suc m) (suc n) bytes h =
    let long : 8 + 8 * m ≡ 8 * suc m = omega (arith) in
    rw (
      ← long,
      take-words m n (drop 8 bytes) (omega (arith, h)),
      take-take 8 (8 + 8 * m) bytes (omega (arith)),
      drop-take 8 (8 * m) bytes,
    ) refl

-- a part of a part
pub part-part : (xs : List ℕ) (k w j m : ℕ) → j + m ≤ w
    → take m (drop j (take w (drop k xs))) ≡ take m (drop (k + j) xs)
part-part xs k w j m h =
    let all : w ≡ j + (w - j) = omega (arith, h) in
    ap (λ x. take m (drop j (take x (drop k xs)))) all
    ∙ ap (take m) (drop-take j (w - j) (drop k xs))
    ∙ take-take m (w - j) (drop j (drop k xs)) (omega (arith, h))
    ∙ ap (take m) (drop-drop j k xs)

-- a part of the words of a page
pub read-words : (page : List ℕ) (n k w j m : ℕ) → j + m ≤ w → (k + j) + m ≤ n
    → take m (drop j (take w (drop k (words_in n page)))) ≡ words_in m (take (8 * m) (drop (8 * (k + j)) page))
read-words page n k w j m h g =
    part-part (words_in n page) k w j m h
    ∙ ap (take m) (drop-words (k + j) n page (omega (arith, g)))
    ∙ take-words m (n - (k + j)) (drop (8 * (k + j)) page) (omega (arith, g))

-- an element of a call that sets registers is four words
settings-four : (j : ℕ) (words : List ℕ) → ((words : List ℕ) → drop j (settings words) ≡ settings (drop (4 * j) words))
    → drop (suc j) (settings words) ≡ settings (drop (suc (suc (suc (suc (4 * j))))) words)
settings-four j (a ∷ b ∷ c ∷ d ∷ words) h = h words
settings-four j (a ∷ b ∷ c ∷ []) h = refl
settings-four j (a ∷ b ∷ []) h = refl
settings-four j (a ∷ []) h = refl
settings-four j [] h = refl

settings-drop : (j : ℕ) (words : List ℕ) → drop j (settings words) ≡ settings (drop (4 * j) words)
settings-drop zero words = refl
settings-drop (suc j) words =
    let long : suc (suc (suc (suc (4 * j)))) ≡ 4 * suc j = omega (arith) in
    settings-four j words (settings-drop j) ∙ ap (λ k. settings (drop k words)) long

pub setting-at : (j : ℕ) (words : List ℕ) → take 1 (drop j (settings words)) ≡ settings (take 4 (drop (4 * j) words))
setting-at j words = ap (take 1) (settings-drop j words) ∙ one (drop (4 * j) words)
  where
    one : (words : List ℕ) → take 1 (settings words) ≡ settings (take 4 words)
    one (a ∷ b ∷ c ∷ d ∷ words) = refl
    one (a ∷ b ∷ c ∷ []) = refl
    one (a ∷ b ∷ []) = refl
    one (a ∷ []) = refl
    one [] = refl

-- an element of a call that gets registers is half a word
halves-drop : (q : ℕ) (words : List ℕ) → drop (2 * q) (halves words) ≡ halves (drop q words)
halves-drop zero words = refl
halves-drop (suc q) [] = ap (λ k. drop k (halves [])) (twice q)
  where
    twice : (q : ℕ) → 2 * suc q ≡ suc (suc (2 * q))
    twice q = omega (arith)
halves-drop (suc q) (w ∷ words) =
    let long : 2 * suc q ≡ suc (suc (2 * q)) = omega (arith) in
    ap (λ k. drop k (halves (w ∷ words))) long ∙ halves-drop q words

-- what a part has checked
pub record IsPart (page : List ℕ) (offset first size : ℕ) (part : List ℕ) : Type 0 where
  pub aligned : offset % 8 ≡ 0
  pub inside : first + size ≤ 4096
  pub is : part ≡ take size (drop first page)

unless-none : {A : Type 0} (refused : Option HvStatus) (a b : A) → unless refused a ≡ Ok b → (refused ≡ None) × (b ≡ a)
unless-none None a b e = (refl, cc)
unless-none (Some status) a b e = cc

pub is-part : (page : List ℕ) (offset first size : ℕ) (part : List ℕ) → part_at page offset first size ≡ Ok part
    → IsPart page offset first size part
is-part page offset first size part e =
    let all : (first_failed (part_checks offset (first + size)) ≡ None) × (part
    ≡ slice_range page first (first + size)) = unless-none _ _ _ e in
    let checked : (not (offset % 8 == 0) ≡ false) × ((nat_lt 4096 (first + size) ≡ false) × Unit {0}) =
    none-fails (part_checks offset (first + size)) all.0 in
    let aligned : not (offset % 8 == 0) ≡ false = checked.0 in
    let inside : nat_lt 4096 (first + size) ≡ false = checked.1.0 in
    let short : (first + size) - first ≡ size = omega (arith) in
    record {
      aligned = grind (arith, nat_tests);
      inside = grind (arith, nat_tests);
      is = all.1
          ∙ ap (λ k. take k (drop first page)) short;
    }

-- the halves of a word are the numbers of its lower and of its upper four bytes
small-at : (xs : List ℕ) → All (λ b. b < 256) xs → (i : ℕ) → slice_index xs i < 256
small-at [] h i = omega (arith)
small-at (x ∷ xs) h zero = h 0 0 (omega (arith))
small-at (x ∷ xs) h (suc i) = small-at xs (λ k d l. h (suc k) d (omega (arith, l))) i

lower-of : (a b c d e f g h : ℕ) → a < 256 → b < 256 → c < 256 → d < 256
    → (a + b * 256 ^ 1 + c * 256 ^ 2 + d * 256 ^ 3 + e * 256 ^ 4 + f * 256 ^ 5 + g * 256 ^ 6 + h * 256 ^ 7) % 2 ^ 32
    ≡ a + b * 256 ^ 1 + c * 256 ^ 2 + d * 256 ^ 3
lower-of a b c d e f g h la lb lc ld = omega (arith, la, lb, lc, ld)

upper-of : (a b c d e f g h : ℕ) → a < 256 → b < 256 → c < 256 → d < 256
    → (a + b * 256 ^ 1 + c * 256 ^ 2 + d * 256 ^ 3 + e * 256 ^ 4 + f * 256 ^ 5 + g * 256 ^ 6 + h * 256 ^ 7) / 2 ^ 32
    ≡ e + f * 256 ^ 1 + g * 256 ^ 2 + h * 256 ^ 3
upper-of a b c d e f g h la lb lc ld = omega (arith, la, lb, lc, ld)

lower : (xs : List ℕ) → All (λ b. b < 256) xs → from_le_bytes w64 (take 8 xs) % 2 ^ 32 ≡ from_le_bytes w32 (take 4 xs)
lower xs h =
    let t : (i : ℕ) → i < 8 → slice_index (take 8 xs) i ≡ slice_index xs i = λ i l. get_or-take 8 xs i 0 l in
    let u : (i : ℕ) → i < 4 → slice_index (take 4 xs) i ≡ slice_index xs i = λ i l. get_or-take 4 xs i 0 l in
    let s : (i : ℕ) → slice_index xs i < 256 = small-at xs h in
    rw (
      t 0 (omega arith),
      t 1 (omega arith),
      t 2 (omega arith),
      t 3 (omega arith),
      t 4 (omega arith),
      t 5 (omega arith),
      t 6 (omega arith),
      t 7 (omega arith),
      u 0 (omega arith),
      u 1 (omega arith),
      u 2 (omega arith),
      u 3 (omega arith),
    )
    (lower-of (slice_index xs 0) (slice_index xs 1) (slice_index xs 2) (slice_index xs 3) (slice_index xs 4)
    (slice_index xs 5) (slice_index xs 6) (slice_index xs 7) (s 0) (s 1) (s 2) (s 3))

upper : (xs : List ℕ) → All (λ b. b < 256) xs → from_le_bytes w64 (take 8 xs) / 2 ^ 32
    ≡ from_le_bytes w32 (take 4 (drop 4 xs))
upper xs h =
    let t : (i : ℕ) → i < 8 → slice_index (take 8 xs) i ≡ slice_index xs i = λ i l. get_or-take 8 xs i 0 l in
    let u : (i j : ℕ) → i < 4 → 4 + i ≡ j → slice_index (take 4 (drop 4 xs)) i ≡ slice_index xs j =
    λ i j l e. get_or-take 4 (drop 4 xs) i 0 l ∙ get_or-drop 4 xs i 0 ∙ ap (slice_index xs) e in
    let s : (i : ℕ) → slice_index xs i < 256 = small-at xs h in
    rw (
      t 0 (omega arith),
      t 1 (omega arith),
      t 2 (omega arith),
      t 3 (omega arith),
      t 4 (omega arith),
      t 5 (omega arith),
      t 6 (omega arith),
      t 7 (omega arith),
      u 0 4 (omega arith) refl,
      u 1 5 (omega arith) refl,
      u 2 6 (omega arith) refl,
      u 3 7 (omega arith) refl,
    )
    (upper-of (slice_index xs 0) (slice_index xs 1) (slice_index xs 2) (slice_index xs 3) (slice_index xs 4)
    (slice_index xs 5) (slice_index xs 6) (slice_index xs 7) (s 0) (s 1) (s 2) (s 3))

-- the half of a word, by its place
abbrev pub half-at : ℕ → List ℕ → List ℕ
half-at b words = take 1 (drop b (halves (take 1 words)))

half-one : (b : ℕ) (words : List ℕ) → b < 2 → take 1 (drop b (halves words)) ≡ half-at b words
half-one zero [] l = refl
half-one zero (w ∷ words) l = refl
half-one (suc zero) [] l = refl
half-one (suc zero) (w ∷ words) l = refl
half-one (suc (suc b)) words l = absurd (omega (arith, l))

pub number-at : (q b : ℕ) (words : List ℕ) → b < 2 → take 1 (drop (2 * q + b) (halves words))
    ≡ half-at b (take 1 (drop q words))
number-at q b words l =
    ap (take 1) (sym (drop-drop b (2 * q) (halves words)) ∙ ap (drop b) (halves-drop q words))
    ∙ half-one b (drop q words) l ∙ ap (λ ws. take 1 (drop b (halves ws))) (sym
    (take-take 1 1 (drop q words) (omega arith)))

pub word-half : (b : ℕ) (xs : List ℕ) → b < 2 → All (λ x. x < 256) xs
    → half-at b (words_in 1 (take 8 xs)) ≡ from_le_bytes w32 (take 4 (drop (4 * b) xs)) ∷ []
word-half zero xs l h = ap (λ w. w % 2 ^ 32 ∷ []) (ap (from_le_bytes w64) (take-take 8 8 xs (omega arith)))
    ∙ ap (λ w. w ∷ []) (lower xs h)
word-half (suc zero) xs l h = ap (λ w. w / 2 ^ 32 ∷ []) (ap (from_le_bytes w64) (take-take 8 8 xs (omega arith)))
    ∙ ap (λ w. w ∷ []) (upper xs h)
word-half (suc (suc b)) xs l h = absurd (omega (arith, l))
