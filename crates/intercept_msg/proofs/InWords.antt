-- The words that bytes are read as.
use Rattle.std.proofs.Common.{◌≡◌, ℕ, zero, suc, ◌+◌, ◌*◌, List, [], ◌∷◌, length, take, drop, refl, sym, ap, ◌∙◌, arith}
use Rattle.std.proofs.lemmas.List.{get_or-take, drop-drop}
use Rattle.std.specs.Int.{from_le_bytes, w64}
use Rattle.byteorder.specs.Endian.{little_number, IsRead}
use Rattle.vsm_core.specs.Messages.{words_in}

-- eight bytes
pub word : (bytes : List ℕ) → little_number 8 bytes ≡ from_le_bytes w64 (take 8 bytes)
word bytes =
    rw (
      get_or-take 8 bytes 0 0 (omega arith),
      get_or-take 8 bytes 1 0 (omega arith),
      get_or-take 8 bytes 2 0 (omega arith),
      get_or-take 8 bytes 3 0 (omega arith),
      get_or-take 8 bytes 4 0 (omega arith),
      get_or-take 8 bytes 5 0 (omega arith),
      get_or-take 8 bytes 6 0 (omega arith),
      get_or-take 8 bytes 7 0 (omega arith),
    ) (omega arith)

eight_more : (k : ℕ) → 8 * suc k ≡ 8 + 8 * k
eight_more k = omega arith

-- one word after the other
pub words-read : (n : ℕ) (bytes words : List ℕ) → length words ≡ n → IsRead little_number 8 bytes words → words ≡ words_in n bytes
words-read zero bytes [] long read = refl
words-read zero bytes (w ∷ ws) long read = absurd (omega arith)
words-read (suc n) bytes [] long read = absurd (omega arith)
words-read (suc n) bytes (w ∷ ws) long read =
    let first : w ≡ from_le_bytes w64 (take 8 bytes) = read 0 (omega arith) ∙ word bytes in
    let moved : (k : ℕ) → drop (8 * suc k) bytes ≡ drop (8 * k) (drop 8 bytes) = λ k. ap (λ (n : ℕ). drop n bytes) (eight_more k) ∙ sym (drop-drop (8 * k) 8 bytes) in
    let rest : ws ≡ words_in n (drop 8 bytes) = words-read n (drop 8 bytes) ws (omega arith) (λ k lt. read (suc k) (omega arith) ∙ ap (little_number 8) (moved k)) in
    cc
