-- Schedule lines that are printed are read again.
use Rattle.std.proofs.Common.{◌≡◌, ℕ, ◌+◌, ◌^◌, ◌<◌, ◌≤◌, List, [], ◌∷◌, ◌++◌, length, map, drop, get_or, Bool, true, false, cond, ◌&&◌, ◌==◌, nat_lt, nat_le, IsTrue, true≢false, Some, None, Ok, position, refl, sym, ap, subst, ◌∙◌, arith, append_assoc, append-nil, add-one}
use Rattle.std.specs.Char.{digit_value}
use Rattle.std.specs.Fmt.{decimal}
use Rattle.std.specs.List.{list_all, position_or_len}
use Rattle.std.proofs.lemmas.Bool.{ne_eqb}
use Rattle.std.proofs.lemmas.Bool.Decides.{nat_tests}
use Rattle.std.proofs.lemmas.Fmt.{decimal_is_IsNumeral}
use Rattle.std.proofs.lemmas.List.{take_at, get_or_at, get_or_append_left, length-append}
use Rattle.std.proofs.lemmas.List.Folds.{list_all-append}
use Rattle.std.proofs.lemmas.List.Sums.{position_or_len_is, sum_by-cons, sum_by_push}
use Rattle.guest_script.specs.Fields.{Words, entry, entries}
use Rattle.guest_script.specs.Keywords.{stands}
use Rattle.guest_script.specs.Line.{after_first, schedule_line}
use Rattle.guest_script.specs.Numbers.{numeral}
use Rattle.guest_script.specs.Print.{entry_word, schedule_words}
use Rattle.guest_script.specs.Schedules.{turns_of, all_turns, all_known}
use Rattle.guest_script.specs.declared.keyword.Keyword.TheVariants as words
use Rattle.guest_script.specs.declared.keyword.Stage.{Stage}
use Rattle.guest_script.specs.declared.keyword.Stage.TheVariants as stages
use Rattle.guest_script.specs.declared.reading.Reading.{Reading}
use Rattle.guest_script.specs.declared.script.Turns.{Turns}
use Rattle.guest_script.proofs.Printable.{IsEntry, AreEntries, AreLines}
use Rattle.guest_script.proofs.ReadBackLines.{Leads, leads_nowhere, leads_on}
use Rattle.guest_script.proofs.Spoken.{IsWord, AreSpoken, is_shown}
use Rattle.guest_script.proofs.SpokenLines.{after_first-keyword}
use Rattle.guest_script.proofs.SpokenNumbers.{digit_at, decimal_is_word, keyword_is_word, numeral-decimal}

-- the byte between a processor and its count
abbrev is_star : ℕ → Bool
is_star b = b == 42

-- no digit is a star
no_star : (n k : ℕ) → n < 2 ^ 64 → k < length (decimal n) → is_star (get_or (decimal n) k 0) ≡ false
no_star n k f l =
    let d = digit_at 10 (decimal n) k (decimal_is_IsNumeral n f).0.1 l in
    ne_eqb (get_or (decimal n) k 0) 42 (λ e. let r : digit_value 42 < 10 = rw e at d in absurd (omega (arith, r)))

-- digits alone have no star
star_of-digits : (n : ℕ) → n < 2 ^ 64 → position is_star (decimal n) ≡ None
star_of-digits n f =
    let ds = decimal n in
    let at : position_or_len is_star ds ≡ length ds = position_or_len_is is_star ds (length ds) 0 (omega arith) (λ k l. no_star n k f l) (λ l. absurd (omega arith)) in
    let off : nat_lt (position_or_len is_star ds) (length ds) ≡ false = grind (arith, nat_tests) in
    ap (λ b. cond b (Some (position_or_len is_star ds)) None) off

-- the first star stands behind the digits
star_of-counted : (n : ℕ) (rest : List ℕ) → n < 2 ^ 64 → position is_star (decimal n ++ 42 ∷ rest) ≡ Some (length (decimal n))
star_of-counted n rest f =
    let ds = decimal n in
    let word = ds ++ 42 ∷ rest in
    let long = length-append ds (42 ∷ rest) in
    let at : position_or_len is_star word ≡ length ds = position_or_len_is is_star word (length ds) 0 (omega arith) (λ k l. ap is_star (get_or_append_left ds (42 ∷ rest) 0 k l) ∙ no_star n k f l) (λ l. ap is_star (get_or_at ds 42 rest 0 (length ds) refl)) in
    let on : nat_lt (position_or_len is_star word) (length word) ≡ true = grind (arith, nat_tests) in
    ap (λ b. cond b (Some (position_or_len is_star word)) None) on ∙ ap Some at

-- what stands behind a byte
behind : (xs : List ℕ) (x : ℕ) (ys : List ℕ) → drop (length xs + 1) (xs ++ x ∷ ys) ≡ ys
behind [] x ys = refl
behind (z ∷ xs) x ys = rw add-one (rw add-one at (behind xs x ys))

-- an entry by its parts
abbrev turns : ℕ → Bool → ℕ → Turns
turns vp single count = record { vp = record { 0 = vp }; single = single; count = count }

-- a processor alone
entry-alone : (vps vp : ℕ) → vp < vps → vps ≤ 8 → entry vps (decimal vp) ≡ Ok (turns vp false 1)
unfolding entry
entry-alone vps vp v k =
    let p = star_of-digits vp (omega arith) in
    let a = numeral-decimal vp (omega arith) in
    let t : nat_lt vp vps ≡ true = grind (arith, nat_tests) in
    rw (p, a, t) refl

-- a processor and how many times
entry-counted : (vps vp count : ℕ) → vp < vps → vps ≤ 8 → 1 ≤ count → count ≤ 100000 → entry vps (decimal vp ++ 42 ∷ decimal count) ≡ Ok (turns vp false count)
unfolding entry
entry-counted vps vp count v k s m =
    let p = star_of-counted vp (decimal count) (omega arith) in
    let a = ap (numeral 10 39) (take_at (decimal vp) (42 ∷ decimal count) (length (decimal vp)) refl) ∙ numeral-decimal vp (omega arith) in
    let b = ap (numeral 10 39) (behind (decimal vp) 42 (decimal count)) ∙ numeral-decimal count (omega arith) in
    let t : nat_lt vp vps ≡ true = grind (arith, nat_tests) in
    let x : nat_le 1 count ≡ true = grind (arith, nat_tests) in
    let y : nat_le count 100000 ≡ true = grind (arith, nat_tests) in
    rw (p, a, b, t, x, y) refl

-- what stands behind the processor's number, where it is known whether the count is 1
abbrev ending : Bool → ℕ → List ℕ
ending once count = cond once [] (42 ∷ decimal count)

-- an entry, by cases on whether the count is 1
entry_by : (once : Bool) (vps vp count : ℕ) → (count == 1) ≡ once → vp < vps → vps ≤ 8 → 1 ≤ count → count ≤ 100000 → entry vps (decimal vp ++ ending once count) ≡ Ok (turns vp false count)
entry_by true vps vp count e v k s m =
    let one : count ≡ 1 = grind (arith, nat_tests) in
    ap (entry vps) (append-nil (decimal vp)) ∙ entry-alone vps vp v k ∙ ap (λ n. Ok (turns vp false n)) (sym one)
entry_by false vps vp count e v k s m = entry-counted vps vp count v k s m

-- its word
word_by : (once : Bool) (vp count : ℕ) → vp < 2 ^ 64 → count < 2 ^ 64 → IsWord (decimal vp ++ ending once count)
word_by true vp count f g = subst IsWord (sym (append-nil (decimal vp))) (decimal_is_word vp f)
word_by false vp count f g =
    let a = decimal_is_word vp f in
    let b = decimal_is_word count g in
    let s = a.some in
    record {
      some = omega (arith, length-append (decimal vp) (42 ∷ decimal count));
      shown = list_all-append is_shown (decimal vp) (42 ∷ decimal count) ∙ rw (a.shown, b.shown) refl;
    }

-- an entry of whole attempts
entry_with : (vps vp count : ℕ) (single : Bool) → single ≡ false → vp < vps → vps ≤ 8 → 1 ≤ count → count ≤ 100000 → entry vps (entry_word (turns vp single count)) ≡ Ok (turns vp single count)
entry_with vps vp count true e v k s m = cc
entry_with vps vp count false e v k s m =
    ap (λ w. entry vps (w ++ ending (count == 1) count)) (append-nil (decimal vp)) ∙ entry_by (count == 1) vps vp count refl v k s m

-- its word
word_with : (vp count : ℕ) (single : Bool) → single ≡ false → vp < 2 ^ 64 → count < 2 ^ 64 → IsWord (entry_word (turns vp single count))
word_with vp count true e f g = absurd (true≢false e)
word_with vp count false e f g = subst (λ w. IsWord (w ++ ending (count == 1) count)) (sym (append-nil (decimal vp))) (word_by (count == 1) vp count f g)

-- an entry
entry_read : (vps : ℕ) (t : Turns) → vps ≤ 8 → IsEntry t → IsTrue (nat_lt t.vp.0 vps) → entry vps (entry_word t) ≡ Ok t
entry_read vps t k i v = entry_with vps t.vp.0 t.count t.single i.whole (grind (arith, nat_tests)) k i.some i.few

-- the word of an entry
entry_is_word : (vps : ℕ) (t : Turns) → vps ≤ 8 → IsEntry t → IsTrue (nat_lt t.vp.0 vps) → IsWord (entry_word t)
entry_is_word vps t k i v =
    let below : t.vp.0 < vps = grind (arith, nat_tests) in
    let few = i.few in
    word_with t.vp.0 t.count t.single i.whole (omega arith) (omega arith)

-- both parts of a test that passes
and_first : (a b : Bool) → IsTrue (a && b) → IsTrue a
and_first true b e = refl
and_first false b e = e

and_second : (a b : Bool) → IsTrue (a && b) → IsTrue b
and_second true b e = e
and_second false b e = cc

-- the first entry names a processor that there is
first_known : (vps : ℕ) (t : Turns) (line : List Turns) → IsTrue (all_known vps (t ∷ line)) → IsTrue (nat_lt t.vp.0 vps)
first_known vps t line e = and_first (nat_lt t.vp.0 vps) (all_known vps line) e

-- so do the others
others_known : (vps : ℕ) (t : Turns) (line : List Turns) → IsTrue (all_known vps (t ∷ line)) → IsTrue (all_known vps line)
others_known vps t line e = and_second (nat_lt t.vp.0 vps) (all_known vps line) e

-- the entries of a line
entries_read : (vps : ℕ) (line : List Turns) → vps ≤ 8 → AreEntries line → IsTrue (all_known vps line) → entries vps (map entry_word line) ≡ Ok line
unfolding entries
entries_read vps [] k a e = refl
entries_read vps (t ∷ line) k a e =
    rw (entry_read vps t k a.0 (first_known vps t line e), entries_read vps line k a.1 (others_known vps t line e)) refl

-- their words
entries_are_spoken : (vps : ℕ) (line : List Turns) → vps ≤ 8 → AreEntries line → IsTrue (all_known vps line) → AreSpoken (map entry_word line)
entries_are_spoken vps [] k a e = tt
entries_are_spoken vps (t ∷ line) k a e =
    (entry_is_word vps t k a.0 (first_known vps t line e), entries_are_spoken vps line k a.1 (others_known vps t line e))

-- a schedule line
line_read : (r : Reading) (line : List Turns) → stands words.Schedule r.stage ≡ true → r.limits.vps ≤ 8 → 0 < length line → AreEntries line → IsTrue (all_known r.limits.vps line) → turns_of line + all_turns r.schedule ≤ 100000 → after_first r (schedule_words line) ≡ Ok (record r { stage = stages.Schedule; schedule = r.schedule ++ line ∷ [] })
unfolding schedule_line
line_read r [] s k o a e few = absurd (omega arith)
line_read r (t ∷ line) s k o a e few =
    let x = entries_read r.limits.vps (t ∷ line) k a e in
    let y : nat_le (turns_of (t ∷ line) + all_turns r.schedule) 100000 ≡ true = grind (arith, nat_tests) in
    after_first-keyword r words.Schedule (map entry_word (t ∷ line)) s ∙ rw (x, y) refl

-- lines that lead to this schedule, and to some stage at which the end may come
pub record LeadsOut (r : Reading) (lines : List Words) (schedule : List (List Turns)) : Type 0 where
  pub stage : Stage
  pub end : stands words.End stage ≡ true
  pub leads : Leads r lines (record r { stage = stage; schedule = schedule })

-- what has been read, with this stage and this schedule
abbrev with_schedule : Reading → Stage → List (List Turns) → Reading
with_schedule r stage schedule = record r { stage = stage; schedule = schedule }

-- all the schedule lines
pub schedule_read : (r : Reading) (lines : List (List Turns)) → stands words.Schedule r.stage ≡ true → stands words.End r.stage ≡ true → r.limits.vps ≤ 8 → AreLines lines → IsTrue (list_all (all_known r.limits.vps) lines) → all_turns lines + all_turns r.schedule ≤ 100000 → LeadsOut r (map schedule_words lines) (r.schedule ++ lines)
schedule_read r [] s d k a e few = record {
  stage = r.stage;
  end = d;
  leads = subst (λ all. Leads r [] (with_schedule r r.stage all)) (sym (append-nil r.schedule)) (leads_nowhere r);
}
schedule_read r (line ∷ lines) s d k a e few =
    let sum = sum_by-cons turns_of line lines in
    let more = sum_by_push turns_of r.schedule line in
    let here = and_first (all_known r.limits.vps line) (list_all (all_known r.limits.vps) lines) e in
    let next = with_schedule r stages.Schedule (r.schedule ++ line ∷ []) in
    let rest = schedule_read next lines refl refl k a.1.1 (and_second (all_known r.limits.vps line) (list_all (all_known r.limits.vps) lines) e) (omega arith) in
    record {
      stage = rest.stage;
      end = rest.end;
      leads = leads_on (keyword_is_word words.Schedule, entries_are_spoken r.limits.vps line k a.1.0 here) (line_read r line s k a.0 a.1.0 here (omega arith)) (subst (λ all. Leads next (map schedule_words lines) (with_schedule next rest.stage all)) (append_assoc r.schedule (line ∷ []) lines) rest.leads);
    }
