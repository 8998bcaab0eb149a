-- The words that a poll takes.
use Rattle.std.proofs.Common.{◌≡◌, ◌<◌, ◌+◌, ℕ, zero, suc, ◌∷◌, refl, drop, arith}
use Rattle.vsm_core.specs.Controllers.{vector_words}
use Rattle.attempt.specs.Words.{word_at}

abbrev Next : ℕ → Type 0
Next count = drop count vector_words ≡ word_at count ∷ drop (count + 1) vector_words

-- the next word
pub next-taken : (count : ℕ) → count < 8 → Next count
next-taken zero low = refl
next-taken (suc zero) low = refl
next-taken (suc (suc zero)) low = refl
next-taken (suc (suc (suc zero))) low = refl
next-taken (suc (suc (suc (suc zero)))) low = refl
next-taken (suc (suc (suc (suc (suc zero))))) low = refl
next-taken (suc (suc (suc (suc (suc (suc zero)))))) low = refl
next-taken (suc (suc (suc (suc (suc (suc (suc zero))))))) low = refl
next-taken (suc (suc (suc (suc (suc (suc (suc (suc n)))))))) low = absurd (omega arith)
