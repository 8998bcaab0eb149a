-- Entries that are read one after another.
use Rattle.std.proofs.Common.{◌≡◌, ℕ, List, [], ◌∷◌, ◌++◌, Result, Ok, Err, refl, sym, ap, ◌∙◌, append_assoc}
use Rattle.std.proofs.lemmas.List.{append-nil}
use Rattle.guest_script.specs.Fields.{◌>>=◌, entry, entries}
use Rattle.guest_script.specs.declared.script.Turns.{Turns}
use Rattle.guest_script.specs.declared.script.Why.{Why}

-- turns that have been read, before those that are still to come
abbrev pub with_front : List Turns → Result (List Turns) Why → Result (List Turns) Why
with_front front said = said >>= λ more. Ok (front ++ more)

split : (front : List Turns) (t : Turns) (said : Result (List Turns) Why) → with_front (front ++ t ∷ []) said ≡ with_front front (said >>= λ others. Ok (t ∷ others))
split front t (Ok others) = ap Ok (append_assoc front (t ∷ []) others)
split front t (Err why) = refl

pub entries_step : (front : List Turns) (vps : ℕ) (ws : List (List ℕ)) (word : List ℕ) (others : List (List ℕ)) (t : Turns) → ws ≡ word ∷ others → entry vps word ≡ Ok t → with_front (front ++ t ∷ []) (entries vps others) ≡ with_front front (entries vps ws)
unfolding entries
entries_step front vps ws word others t w e =
    split front t (entries vps others) ∙ sym (ap (λ r. with_front front (r >>= λ first. entries vps others >>= λ more. Ok (first ∷ more))) e) ∙ sym (ap (λ x. with_front front (entries vps x)) w)

pub entries_err : (front : List Turns) (vps : ℕ) (ws : List (List ℕ)) (word : List ℕ) (others : List (List ℕ)) (why : Why) → ws ≡ word ∷ others → entry vps word ≡ Err why → with_front front (entries vps ws) ≡ Err why
unfolding entries
entries_err front vps ws word others why w e =
    ap (λ x. with_front front (entries vps x)) w ∙ ap (λ r. with_front front (r >>= λ first. entries vps others >>= λ more. Ok (first ∷ more))) e

pub entries_end : (front : List Turns) (vps : ℕ) (ws : List (List ℕ)) → ws ≡ [] → with_front front (entries vps ws) ≡ Ok front
unfolding entries
entries_end front vps ws w = ap (λ x. with_front front (entries vps x)) w ∙ ap Ok (append-nil front)
