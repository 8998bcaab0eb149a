-- The elements of a slice are what its words have.
use Rattle.std.proofs.Common.{◌≡◌, ◌≤◌, ◌<◌, ◌+◌, ◌*◌, ◌-◌, ◌/◌, ◌%◌, ℕ, List, [], ◌∷◌, Ok, All, take, drop, sym, ap}
use Rattle.std.proofs.Common.{◌∙◌, arith}
use Rattle.vsm_core.specs.Calls.{element_at}
use Rattle.vsm_core.specs.Messages.{words_in}
use Rattle.vsm_core.specs.RegisterCalls.{numbers, settings}
use Rattle.vsm_core.specs.Reps.{first_word, words_between}
use Rattle.std.proofs.lemmas.List.Elements.{All-drop}
use Rattle.std.proofs.lemmas.List.{drop-drop}
use Rattle.std.specs.Int.{from_le_bytes, w32}
use Rattle.vsm_core.specs.RegisterCalls.{halves}
use Rattle.vsm_laws.specs.InputWords.{read_of}
use Rattle.vsm_laws.proofs.PageWords.{IsPart, is-part, part-part, read-words, setting-at, half-at, number-at, word-half}

pub masks-at : (page element : List ℕ) (offset start past i : ℕ) → start ≤ i → i < past
    → element_at page offset 16 i 8 ≡ Ok element
    → take 1 (drop (i - start) (read_of page offset 8 start past)) ≡ words_in 1 element
unfolding Rattle.vsm_laws.specs.InputWords.read_of
masks-at page element offset start past i low below e =
    let p : IsPart page offset (offset + 16 + i * 8) 8 element =
    is-part page offset (offset + 16 + i * 8) 8 element e in
    let aligned : offset % 8 ≡ 0 = p.aligned in
    let inside : offset + 16 + i * 8 + 8 ≤ 4096 = p.inside in
    let at : 8 * (offset / 8 + 2 + first_word 8 start + (i - start)) ≡ offset + 16 + i * 8 =
    omega (arith, aligned, low) in
    read-words page 512 (offset / 8 + 2 + first_word 8 start) (words_between 8 start past) (i - start) 1 (omega (
      arith,
      low,
      below,
    )) (omega (arith, aligned, inside, low))
    ∙ ap (λ k. words_in 1 (take 8 (drop k page))) at ∙ ap (words_in 1) (sym p.is)

pub settings-at : (page element : List ℕ) (offset start past i : ℕ) → start ≤ i → i < past
    → element_at page offset 16 i 32 ≡ Ok element
    → take 1 (drop (i - start) (settings (read_of page offset 32 start past))) ≡ settings (words_in 4 element)
unfolding Rattle.vsm_laws.specs.InputWords.read_of
settings-at page element offset start past i low below e =
    let p : IsPart page offset (offset + 16 + i * 32) 32 element =
    is-part page offset (offset + 16 + i * 32) 32 element e in
    let aligned : offset % 8 ≡ 0 = p.aligned in
    let inside : offset + 16 + i * 32 + 32 ≤ 4096 = p.inside in
    let at : 8 * (offset / 8 + 2 + first_word 32 start + 4 * (i - start)) ≡ offset + 16 + i * 32 =
    omega (arith, aligned, low) in
    setting-at (i - start) _
    ∙ ap settings (read-words page 512 (offset / 8 + 2 + first_word 32 start) (words_between 32 start past)
    (4 * (i - start)) 4 (omega (arith, low, below)) (omega (arith, aligned, inside, low))
    ∙ ap (λ k. words_in 4 (take 32 (drop k page))) at ∙ ap (words_in 4) (sym p.is))

pub numbers-at : (page element : List ℕ) (offset start past i : ℕ) → All (λ b. b < 256) page → start ≤ i → i < past
    → element_at page offset 16 i 4 ≡ Ok element
    → take 1 (drop (i - start) (numbers start past (read_of page offset 4 start past))) ≡ from_le_bytes w32 element ∷ []
unfolding Rattle.vsm_laws.specs.InputWords.read_of
numbers-at page element offset start past i small low below e =
    let p : IsPart page offset (offset + 16 + i * 4) 4 element =
    is-part page offset (offset + 16 + i * 4) 4 element e in
    let aligned : offset % 8 ≡ 0 = p.aligned in
    let inside : offset + 16 + i * 4 + 4 ≤ 4096 = p.inside in
    let k : ℕ = offset / 8 + 2 + first_word 4 start in
    let q : ℕ = (start % 2 + (i - start)) / 2 in
    let b : ℕ = i % 2 in
    let two : b < 2 = omega (arith) in
    let place : start % 2 + (i - start) ≡ 2 * q + b = omega (arith, low) in
    let first : 8 * (k + q) + 4 * b ≡ offset + 16 + i * 4 = omega (arith, aligned, low) in
    let page_words : List ℕ = take (words_between 4 start past) (drop k (words_in 512 page)) in
    part-part (halves page_words) (start % 2) (past - start) (i - start) 1 (omega (arith, low, below))
    ∙ ap (λ x. take 1 (drop x (halves page_words))) place
    ∙ number-at q b page_words two
    ∙ ap (half-at b) (read-words page 512 k (words_between 4 start past) q 1 (omega (arith, low, below)) (omega (
      arith,
      aligned,
      inside,
      low,
    )))
    ∙ word-half b (drop (8 * (k + q)) page) two (All-drop (λ x. x < 256) (8 * (k + q)) page small)
    ∙ ap (λ x. from_le_bytes w32 (take 4 x) ∷ []) (drop-drop (4 * b) (8 * (k + q)) page ∙ ap (λ x. drop x page) first)
    ∙ ap (λ x. from_le_bytes w32 x ∷ []) (sym p.is)
