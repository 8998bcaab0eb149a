-- Texts that are gathered one after another.
use Rattle.std.proofs.Common.{◌≡◌, ℕ, ◌+◌, ◌<◌, List, [], ◌∷◌, ◌++◌, length, take, drop, get_or, Option, Result, Ok, Err, sym, ap, subst, ◌∙◌, append_assoc, arith}
use Rattle.std.proofs.lemmas.List.{append-nil, take_more, take-append-drop}
use Rattle.std.specs.Io.KnownBytes.{append_known}
use Rattle.vsm_base.specs.Whole.{Puts, AppendsFront}
use Rattle.vsm_report.specs.Gathering.{Gathers, Passes}
use Rattle.vsm_base.specs.declared.whole.WriteFailed.{WriteFailed}
use Rattle.vsm_base.proofs.Known.{append_known-append}
use Rattle.vsm_base.proofs.Putting.{front_more, front_behind}

-- the same text in other words
pub gathers_same : {a b : Option (List ℕ)} {h k : List ℕ} {i j : ℕ} {r : Result (Unit {0}) WriteFailed} {s t : List ℕ} → s ≡ t → Gathers a h b k i j r s → Gathers a h b k i j r t
gathers_same {a} {b} {h} {k} {i} {j} {r} {s} {t} e p = subst (λ x. Gathers a h b k i j r x) e p

-- what went before and what went now is a front of the whole
front_on : (a b c : Option (List ℕ)) (h k s t : List ℕ) → Passes a h b k s → AppendsFront b c (k ++ t) → AppendsFront a c (h ++ (s ++ t))
front_on a b c h k s t p f =
    let e : p.0 ++ (k ++ t) ≡ h ++ (s ++ t) = sym (append_assoc p.0 k t) ∙ ap (λ x. x ++ t) p.2 ∙ append_assoc h s t in
    subst (λ x. AppendsFront a c x) e (front_behind a b c p.0 (k ++ t) p.1 f)

passes_on : (a b c : Option (List ℕ)) (h k m s t : List ℕ) → Passes a h b k s → Passes b k c m t → Passes a h c m (s ++ t)
passes_on a b c h k m s t p q =
    (p.0 ++ q.0, q.1 ∙ ap (λ o. append_known o q.0) p.1 ∙ append_known-append a p.0 q.0, append_assoc p.0 q.0 m ∙ ap (λ x. p.0 ++ x) q.2 ∙ sym (append_assoc p.0 k t) ∙ ap (λ x. x ++ t) p.2 ∙ append_assoc h s t)

-- one text whole, and then another
pub gathers_and : {a b c : Option (List ℕ)} {h k m : List ℕ} {i j l : ℕ} {x : Unit {0}} {r : Result (Unit {0}) WriteFailed} {s t : List ℕ} → Gathers a h b k i j (Ok x) s → Gathers b k c m j l r t → Gathers a h c m i l r (s ++ t)
gathers_and {a} {b} {c} {h} {k} {m} {i} {j} {l} {x} {r = Ok y} {s} {t} p q =
    record { whole = passes_on a b c h k m s t p.whole q.whole; front = tt; later = omega (arith, p.later, q.later); risen = tt }
gathers_and {a} {b} {c} {h} {k} {m} {i} {j} {l} {x} {r = Err e} {s} {t} p q =
    let u = p.later in let v = q.later in let w = q.risen in
    record { whole = tt; front = front_on a b c h k s t p.whole q.front; later = omega arith; risen = omega arith }

-- a write that failed, with more text to come
pub gathers_cut : {a b : Option (List ℕ)} {h k : List ℕ} {i j : ℕ} {e : WriteFailed} {s : List ℕ} (t : List ℕ) → Gathers a h b k i j (Err e) s → Gathers a h b k i j (Err e) (s ++ t)
gathers_cut {a} {b} {h} {k} {i} {j} {e} {s} t p =
    record { whole = tt; front = subst (λ x. AppendsFront a b x) (append_assoc h s t) (front_more a b (h ++ s) t p.front); later = p.later; risen = p.risen }

-- what was gathered is put at last
pub gathers_put : {a b c : Option (List ℕ)} {h k : List ℕ} {i j l : ℕ} {x : Unit {0}} {r : Result (Unit {0}) WriteFailed} {s : List ℕ} → Gathers a h b k i j (Ok x) s → Puts b c j l r k → Puts a c i l r (h ++ s)
gathers_put {a} {b} {c} {h} {k} {i} {j} {l} {x} {r = Ok y} {s} p q =
    let e = p.whole in
    record { whole = q.whole ∙ ap (λ o. append_known o k) e.1 ∙ append_known-append a e.0 k ∙ ap (append_known a) e.2; front = tt; later = omega (arith, p.later, q.later); risen = tt }
gathers_put {a} {b} {c} {h} {k} {i} {j} {l} {x} {r = Err y} {s} p q =
    let e = p.whole in let u = p.later in let v = q.later in let w = q.risen in
    record { whole = tt; front = subst (λ t. AppendsFront a c t) e.2 (front_behind a b c e.0 k e.1 q.front); later = omega arith; risen = omega arith }

-- a text that failed as it was gathered
pub gathers_failed : {a b : Option (List ℕ)} {k : List ℕ} {i j : ℕ} {e : WriteFailed} {s : List ℕ} → Gathers a [] b k i j (Err e) s → Puts a b i j (Err e) s
gathers_failed p = record { whole = tt; front = p.front; later = p.later; risen = p.risen }

-- a flush that failed before the text came
pub gathers_stuck : {a b : Option (List ℕ)} {h k : List ℕ} {i j : ℕ} {e : WriteFailed} (t : List ℕ) → Puts a b i j (Err e) h → Gathers a h b k i j (Err e) t
gathers_stuck {a} {b} {h} t p = record { whole = tt; front = front_more a b h t p.front; later = p.later; risen = p.risen }

-- a list in three: before a place, the place, and after it
pub cut_at : (xs : List ℕ) (i : ℕ) → i < length xs → (take i xs ++ get_or xs i 0 ∷ []) ++ drop (i + 1) xs ≡ xs
cut_at xs i l = ap (λ x. x ++ drop (i + 1) xs) (sym (take_more xs i 0 l)) ∙ take-append-drop (i + 1) xs

-- one text added, and then another
pub added_then : (a s t : List ℕ) {b c : List ℕ} → b ≡ a ++ s → c ≡ b ++ t → c ≡ a ++ (s ++ t)
added_then a s t {b} {c} e f = f ∙ ap (λ x. x ++ t) e ∙ append_assoc a s t

-- nothing gathered, and then a text added
pub gathers_added : {a b : Option (List ℕ)} {h k m : List ℕ} {i j : ℕ} {x : Unit {0}} {s : List ℕ} → Gathers a h b k i j (Ok x) [] → m ≡ k ++ s → Gathers a h b m i j (Ok x) s
gathers_added {a} {b} {h} {k} {m} {i} {j} {x} {s} p e =
    let w = p.whole in
    let f : w.0 ++ m ≡ h ++ s = ap (λ y. w.0 ++ y) e ∙ sym (append_assoc w.0 k s) ∙ ap (λ y. y ++ s) (w.2 ∙ append-nil h) in
    record { whole = (w.0, w.1, f); front = tt; later = p.later; risen = tt }
