-- Entries that name processors that there are.
use Rattle.std.proofs.Common.{ℕ, ◌<◌, List, [], ◌∷◌, ◌++◌, Bool, IsTrue, nat_lt, refl, arith}
use Rattle.std.specs.List.{list_all}
use Rattle.std.proofs.lemmas.Bool.Decides.{nat_tests}
use Rattle.std.proofs.lemmas.List.Folds.{list_all-append}
use Rattle.guest_script.specs.Schedules.{all_known}
use Rattle.guest_script.specs.declared.script.Turns.{Turns}

one_more : {X : Type 0} (test : X → Bool) (xs : List X) (x : X) → IsTrue (list_all test xs) → IsTrue (test x) → IsTrue (list_all test (xs ++ x ∷ []))
one_more test xs x p q = rw (list_all-append test xs (x ∷ []), p, q) refl

-- one more entry of a line
pub known_entry : (vps : ℕ) (turns : List Turns) (t : Turns) → IsTrue (all_known vps turns) → t.vp.0 < vps → IsTrue (all_known vps (turns ++ t ∷ []))
known_entry vps turns t p h =
    let q : IsTrue (nat_lt t.vp.0 vps) = grind (arith, nat_tests) in
    one_more (λ t. nat_lt t.vp.0 vps) turns t p q

-- one more line
pub known_line : (vps : ℕ) (lines : List (List Turns)) (turns : List Turns) → IsTrue (list_all (all_known vps) lines) → IsTrue (all_known vps turns) → IsTrue (list_all (all_known vps) (lines ++ turns ∷ []))
known_line vps lines turns p q = one_more (all_known vps) lines turns p q
