-- What is left of an attempt, as a tree.
use Rattle.std.specs.Prelude.{ℕ, zero, suc, ◌≤◌, List, [], ◌∷◌, ◌++◌, take, drop, Option, Some, None}
use Rattle.vsm_core.specs.declared.event.PendingWord.{PendingWord}
use Rattle.vsm_core.specs.declared.request.Heard.{Heard}
use Rattle.vsm_core.specs.declared.request.Request.{Request}
use Rattle.vsm_core.specs.declared.request.Reply.{Reply}

-- what a processor asks of one shared word
pub data WordStep : Type 0 where
  Entering : WordStep
  Checking : WordStep
  Masking : (page : ℕ) → WordStep
  Reading : (page index : ℕ) → WordStep
  Writing : (page index value : ℕ) → WordStep
  Leaving : WordStep
  Posting : (vp : ℕ) → PendingWord → (bits : ℕ) → WordStep
  Taking : PendingWord → WordStep

-- what is done from here on, whatever is answered: it comes to an end, asks one shared word and goes on by its
-- answer, or wants a request served and goes on by the reply
pub data Tree (A : Type 0) : Type 0 where
  Ends : A → Tree A
  Asks : WordStep → (ℕ → Tree A) → Tree A
  Wants : Request → (Reply → Tree A) → Tree A

-- first the one, and then what its end says
abbrev pub then_ : {A B : Type 0} → Tree A → (A → Tree B) → Tree B
then_ (Ends a) f = f a
then_ (Asks s k) f = Asks s (λ x. then_ (k x) f)
then_ (Wants q k) f = Wants q (λ r. then_ (k r) f)

-- what is left after the answer of one word
abbrev pub after : {A : Type 0} → Tree A → ℕ → Tree A
after (Ends a) x = Ends a
after (Asks s k) x = k x
after (Wants q k) x = Wants q k

-- what is left after these answers of words
abbrev pub follow : {A : Type 0} → Tree A → List ℕ → Tree A
follow t [] = t
follow t (x ∷ xs) = follow (after t x) xs

-- what is left once its request had this reply
abbrev pub by_reply : {A : Type 0} → Tree A → Reply → Tree A
by_reply (Ends a) r = Ends a
by_reply (Asks s k) r = Asks s k
by_reply (Wants q k) r = k r

-- what is left after these answers of words and, in its place among them, the reply that was had, if there was one
abbrev pub followed : {A : Type 0} → Tree A → Option Heard → List ℕ → Tree A
followed t None xs = follow t xs
followed t (Some h) xs = follow (by_reply (follow t (take h.after xs)) h.reply) (drop h.after xs)

-- these steps, which teach nothing, and then the rest
abbrev pub asks_all : {A : Type 0} → List WordStep → Tree A → Tree A
asks_all [] rest = rest
asks_all (s ∷ steps) rest = Asks s (λ _. asks_all steps rest)

-- these words are taken from, and then it goes on by what they held, after what was found before
abbrev pub takes : {A : Type 0} → List PendingWord → List ℕ → (List ℕ → Tree A) → Tree A
takes [] found rest = rest found
takes (word ∷ words) found rest = Asks (Taking word) (λ x. takes words (found ++ x ∷ []) rest)

-- so many words of a page are read, from this place on, and then it goes on by them, after what was found before
abbrev pub reads : {A : Type 0} → ℕ → ℕ → ℕ → List ℕ → (List ℕ → Tree A) → Tree A
reads page index zero found rest = rest found
reads page index (suc count) found rest = Asks (Reading page index) (λ x. reads page (suc index) count (found ++ x ∷ []) rest)

-- whatever is answered, each end comes after no more steps than it may have; so many have been made already
abbrev pub Counts : {A : Type 0} → (A → ℕ) → ℕ → Tree A → Type 0
Counts most made (Ends a) = made ≤ most a
Counts most made (Asks s k) = (x : ℕ) → Counts most (suc made) (k x)
Counts most made (Wants q k) = (r : Reply) → Counts most made (k r)
