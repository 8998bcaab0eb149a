-- Texts that are written one after another.
use Rattle.std.proofs.Common.{◌≡◌, ℕ, ◌+◌, min, List, ◌++◌, length, take, Option, Result, Ok, Err, sym, ap, subst, ◌∙◌, arith}
use Rattle.std.specs.Io.KnownBytes.{append_known}
use Rattle.std.proofs.lemmas.List.{take_min, take-append-le}
use Rattle.std.proofs.Math.Seq.{take-append-add}
use Rattle.vsm_base.specs.Whole.{Puts, AppendsFront}
use Rattle.vsm_base.specs.declared.whole.WriteFailed.{WriteFailed}
use Rattle.vsm_base.proofs.Known.{append_known-append}

-- a front of a text is a front of a longer one
pub front_more : (a b : Option (List ℕ)) (s t : List ℕ) → AppendsFront a b s → AppendsFront a b (s ++ t)
front_more a b s t f =
    (min f.0 (length s), f.1 ∙ ap (append_known a) (sym (take-append-le (min f.0 (length s)) s t (omega arith) ∙ take_min f.0 s)))

-- behind a text that was written whole
pub front_behind : (a b c : Option (List ℕ)) (s t : List ℕ) → b ≡ append_known a s → AppendsFront b c t → AppendsFront a c (s ++ t)
front_behind a b c s t e f =
    (length s + f.0, f.1 ∙ ap (λ o. append_known o (take f.0 t)) e ∙ append_known-append a s (take f.0 t) ∙ ap (append_known a) (sym (take-append-add s t f.0)))

-- one text whole, and then another
pub puts_then : (a b c : Option (List ℕ)) (i j k : ℕ) (x : Unit {0}) (r : Result (Unit {0}) WriteFailed) (s t : List ℕ) → Puts a b i j (Ok x) s → Puts b c j k r t → Puts a c i k r (s ++ t)
puts_then a b c i j k x (Ok y) s t p q =
    record { whole = q.whole ∙ ap (λ o. append_known o t) p.whole ∙ append_known-append a s t; front = tt; later = omega arith; risen = tt }
puts_then a b c i j k x (Err e) s t p q =
    let lp = p.later in let lq = q.later in let r = q.risen in
    record { whole = tt; front = front_behind a b c s t p.whole q.front; later = omega arith; risen = omega arith }

-- a write that failed, with more text to come
pub puts_stop : (a b : Option (List ℕ)) (i j : ℕ) (e : WriteFailed) (s t : List ℕ) → Puts a b i j (Err e) s → Puts a b i j (Err e) (s ++ t)
puts_stop a b i j e s t p = record { whole = tt; front = front_more a b s t p.front; later = p.later; risen = p.risen }

-- the same text in other words
pub puts_same : (a b : Option (List ℕ)) (i j : ℕ) (r : Result (Unit {0}) WriteFailed) (s t : List ℕ) → s ≡ t → Puts a b i j r s → Puts a b i j r t
puts_same a b i j r s t e p = subst (λ x. Puts a b i j r x) e p

-- a write that failed in the middle of a text
pub puts_within : (a b c : Option (List ℕ)) (i j k : ℕ) (x : Unit {0}) (e : WriteFailed) (done piece rest whole : List ℕ) → done ++ piece ++ rest ≡ whole → Puts a b i j (Ok x) done → Puts b c j k (Err e) piece → Puts a c i k (Err e) whole
puts_within a b c i j k x e done piece rest whole t p q =
    puts_same a c i k (Err e) (done ++ piece ++ rest) whole t (puts_stop a c i k e (done ++ piece) rest (puts_then a b c i j k x (Err e) done piece p q))

-- the two of them, whose arguments the facts give
pub puts_and : {a b c : Option (List ℕ)} {i j k : ℕ} {x : Unit {0}} {r : Result (Unit {0}) WriteFailed} {s t : List ℕ} → Puts a b i j (Ok x) s → Puts b c j k r t → Puts a c i k r (s ++ t)
puts_and {a} {b} {c} {i} {j} {k} {x} {r} {s} {t} p q = puts_then a b c i j k x r s t p q

pub puts_cut : {a b : Option (List ℕ)} {i j : ℕ} {e : WriteFailed} {s : List ℕ} (t : List ℕ) → Puts a b i j (Err e) s → Puts a b i j (Err e) (s ++ t)
puts_cut {a} {b} {i} {j} {e} {s} t p = puts_stop a b i j e s t p
