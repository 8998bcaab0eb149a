-- What is known of a field that was read.
use Rattle.std.proofs.Common.{◌≡◌, ℕ, ◌+◌, ◌^◌, ◌<◌, ◌≤◌, List, [], ◌∷◌, length, take, drop, Bool, true, false, cond, ◌&&◌, ◌==◌, nat_lt, nat_le, codes, position, Option, Some, None, Result, Ok, Err, refl, ap, subst, arith}
use Rattle.std.specs.Char.{is_digit}
use Rattle.std.specs.List.{list_all}
use Rattle.std.specs.Str.{bytes_eq}
use Rattle.std.specs.Str.Parse.{digits_value}
use Rattle.std.proofs.lemmas.Bool.Decides.{nat_tests}
use Rattle.vsm_base.specs.Masks.{is_mask}
use Rattle.vsm_base.specs.Names.{is_general}
use Rattle.vsm_base.specs.declared.name.Name.{Name}
use Rattle.vsm_core.specs.declared.operation.Operand.{Operand}
use Rattle.vsm_core.specs.declared.operation.Operand.TheVariants.{Number, Register}
use Rattle.guest_script.specs.Fields.{◌>>=◌, Words, any_number, number, spelled, valid_mask, is_target, is_named, any_register, register, named_register, begins_with_letter, register_operand, number_operand, operand, counted, starred, entry, entries}
use Rattle.guest_script.specs.Numbers.{is_numeral, numeral, number_of}
use Rattle.guest_script.specs.Line.{some_entries}
use Rattle.guest_script.specs.Schedules.{all_known}
use Rattle.guest_script.specs.declared.script.Turns.{Turns}
use Rattle.guest_script.specs.declared.script.Why.{Why}
use Rattle.guest_script.specs.declared.script.Why.TheVariants.{BadName, BadNumber, OutOfRange}
use Rattle.guest_script.proofs.Printable.{CanWrite, IsEntry, AreEntries}

-- a step that wasn't refused, and what came after it
pub record Bound {A B : Type 0} (m : Result A Why) (f : A → Result B Why) (y : B) : Type 0 where
  pub value : A
  pub came : m ≡ Ok value
  pub rest : f value ≡ Ok y

-- the parts of a step and what comes after it
pub bound : {A B : Type 0} (m : Result A Why) (f : A → Result B Why) (y : B) → (m >>= f) ≡ Ok y → Bound m f y
bound (Ok x) f y e = record { value = x; came = refl; rest = e }
bound (Err why) f y e = cc

-- a test that was passed
pub passed : {A : Type 0} (b : Bool) (x y : A) (why : Why) → cond b (Ok x) (Err why) ≡ Ok y → (b ≡ true) × (x ≡ y)
passed true x y why e = (refl, cc)
passed false x y why e = cc

-- a test that was to fail, and did
pub unmet : {A : Type 0} (b : Bool) (x y : A) (why : Why) → cond b (Err why) (Ok x) ≡ Ok y → (b ≡ false) × (x ≡ y)
unmet true x y why e = cc
unmet false x y why e = (refl, cc)

-- both of two tests hold
pub and_first : (a b : Bool) → a && b ≡ true → a ≡ true
and_first true b e = refl
and_first false b e = e

pub and_second : (a b : Bool) → a && b ≡ true → b ≡ true
and_second true b e = e
and_second false b e = cc

-- a test that was passed, of a value that may not be there
found : {A : Type 0} (b : Bool) (x y : A) → cond b (Some x) None ≡ Some y → (b ≡ true) × (x ≡ y)
found true x y e = (refl, cc)
found false x y e = cc

-- what a test of two numbers tells
pub less : (a b : ℕ) → nat_lt a b ≡ true → a < b
less a b e = grind (arith, nat_tests)

pub no_more_than : (a b : ℕ) → nat_le a b ≡ true → a ≤ b
no_more_than a b e = grind (arith, nat_tests)

-- a numeral is below 2^128
numeral_below : (base most : ℕ) (word : List ℕ) (n : ℕ) → numeral base most word ≡ Some n → n < 2 ^ 128
numeral_below base most word n e =
    let f = found (is_numeral base most word) (digits_value base word) n e in
    let l = less (digits_value base word) (2 ^ 128) (and_second (nat_le 1 (length word) && nat_le (length word) most && list_all (λ c. is_digit c base) word) (nat_lt (digits_value base word) (2 ^ 128)) f.0) in
    omega (arith, l, f.1)

-- a word spells a number below 2^128
number_of_below : (word : List ℕ) (n : ℕ) → number_of word ≡ Some n → n < 2 ^ 128
unfolding number_of
number_of_below word n e =
    let either : (b : Bool) → cond b (numeral 16 32 (drop 2 word)) (numeral 10 39 word) ≡ Some n → n < 2 ^ 128 = λ b. elim b as (λ b. cond b (numeral 16 32 (drop 2 word)) (numeral 10 39 word) ≡ Some n → n < 2 ^ 128) [ true ↦ numeral_below 16 32 (drop 2 word) n | false ↦ numeral_below 10 39 word n ] in
    either (bytes_eq (take 2 word) (codes "0x")) e

-- a word that spelled something
pub spelled_ok : {A : Type 0} (why : Why) (o : Option A) (ws : Words) (x : A × Words) → spelled why o ws ≡ Ok x → o ≡ Some x.0
spelled_ok why None ws x e = cc
spelled_ok why (Some y) ws x e = cc

-- any number is below 2^128
pub any_number_below : (ws : Words) (n : ℕ × Words) → any_number ws ≡ Ok n → n.0 < 2 ^ 128
unfolding any_number
any_number_below [] n e = cc
any_number_below (word ∷ ws) n e =
    number_of_below word n.0 (spelled_ok BadNumber (number_of word) ws n e)

-- a number keeps its bounds
pub number_between : (low high : ℕ) (ws : Words) (n : ℕ × Words) → number low high ws ≡ Ok n → (low ≤ n.0) × (n.0 < high)
unfolding number
number_between low high ws n e =
    let b = bound (any_number ws) _ n e in
    let p = passed (nat_le low b.value.0 && nat_lt b.value.0 high) b.value n OutOfRange b.rest in
    let l = no_more_than low b.value.0 (and_first (nat_le low b.value.0) (nat_lt b.value.0 high) p.0) in
    let h = less b.value.0 high (and_second (nat_le low b.value.0) (nat_lt b.value.0 high) p.0) in
    (rw p.1 at l, rw p.1 at h)

-- a register's name
pub register_ok : (ws : Words) (name : Name × Words) → register ws ≡ Ok name → is_target name.0 ≡ true
unfolding register
register_ok ws name e =
    let b = bound (any_register ws) _ name e in
    let p = passed (is_target b.value.0) b.value name BadName b.rest in
    rw p.1 at p.0

-- the name of a register that set and get may name
pub named_register_ok : (ws : Words) (name : Name × Words) → named_register ws ≡ Ok name → is_named name.0 ≡ true
unfolding named_register
named_register_ok ws name e =
    let b = bound (any_register ws) _ name e in
    let p = passed (is_named b.value.0) b.value name BadName b.rest in
    rw p.1 at p.0

-- a register that a store writes
register_operand_ok : (ws : Words) (value : Operand × Words) → register_operand ws ≡ Ok value → CanWrite value.0
unfolding register_operand
register_operand_ok ws value e =
    let b = bound (any_register ws) _ value e in
    let p = passed (is_general b.value.0) (Register b.value.0, b.value.1) value BadName b.rest in
    subst (λ v. CanWrite v.0) p.1 p.0

-- a number that a store writes
number_operand_ok : (ws : Words) (value : Operand × Words) → number_operand ws ≡ Ok value → CanWrite value.0
unfolding number_operand
number_operand_ok ws value e =
    let b = bound (number 0 (2 ^ 64) ws) _ value e in
    let p : (Number b.value.0, b.value.1) ≡ value = cc in
    subst (λ v. CanWrite v.0) p (number_between 0 (2 ^ 64) ws b.value b.came).1

-- what a store writes
pub operand_ok : (ws : Words) (value : Operand × Words) → operand ws ≡ Ok value → CanWrite value.0
unfolding operand
operand_ok [] value e = cc
operand_ok (word ∷ ws) value e =
    let either : (b : Bool) → cond b (register_operand (word ∷ ws)) (number_operand (word ∷ ws)) ≡ Ok value → CanWrite value.0 = λ b. elim b as (λ b. cond b (register_operand (word ∷ ws)) (number_operand (word ∷ ws)) ≡ Ok value → CanWrite value.0) [ true ↦ register_operand_ok (word ∷ ws) value | false ↦ number_operand_ok (word ∷ ws) value ] in
    either (begins_with_letter word) e

-- a mask
pub valid_mask_ok : (bits mask : ℕ) → valid_mask bits ≡ Ok mask → is_mask mask ≡ true
valid_mask_ok bits mask e =
    let p = passed (is_mask bits) bits mask OutOfRange e in
    rw p.1 at p.0

-- an entry of a processor that there is
pub record IsCounted (vps : ℕ) (t : Turns) : Type 0 where
  pub entry : IsEntry t
  pub known : t.vp.0 < vps

-- an entry of these two numbers
counted_ok : (vps : ℕ) (vp count : Option ℕ) (t : Turns) → counted vps vp count ≡ Ok t → IsCounted vps t
counted_ok vps None count t e = cc
counted_ok vps (Some vp) None t e = cc
counted_ok vps (Some vp) (Some count) t e =
    let made : Turns = record { vp = record { 0 = vp }; single = false; count = count } in
    let p = passed (nat_lt vp vps && nat_le 1 count && nat_le count 100000) made t OutOfRange e in
    let both = and_first (nat_lt vp vps && nat_le 1 count) (nat_le count 100000) p.0 in
    let few = no_more_than count 100000 (and_second (nat_lt vp vps && nat_le 1 count) (nat_le count 100000) p.0) in
    let some = no_more_than 1 count (and_second (nat_lt vp vps) (nat_le 1 count) both) in
    let known = less vp vps (and_first (nat_lt vp vps) (nat_le 1 count) both) in
    let is : IsCounted vps made = record { entry = record { whole = refl; some = some; few = few }; known = known } in
    subst (IsCounted vps) p.1 is

-- an entry with a star at this place, or with none
starred_ok : (vps : ℕ) (at : Option ℕ) (word : List ℕ) (t : Turns) → starred vps at word ≡ Ok t → IsCounted vps t
starred_ok vps None word t e = counted_ok vps (numeral 10 39 word) (Some 1) t e
starred_ok vps (Some at) word t e =
    counted_ok vps (numeral 10 39 (take at word)) (numeral 10 39 (drop (at + 1) word)) t e

-- an entry
entry_ok : (vps : ℕ) (word : List ℕ) (t : Turns) → entry vps word ≡ Ok t → IsCounted vps t
unfolding entry
entry_ok vps word t e = starred_ok vps (position (λ b. b == 42) word) word t e

-- entries of processors that there are
pub record AreCounted (vps : ℕ) (turns : List Turns) : Type 0 where
  pub entries : AreEntries turns
  pub known : all_known vps turns ≡ true

-- all the words as entries
entries_ok : (vps : ℕ) (ws : Words) (turns : List Turns) → entries vps ws ≡ Ok turns → AreCounted vps turns
unfolding entries
entries_ok vps [] turns e =
    let p : [] ≡ turns = cc in
    subst (AreCounted vps) p (record { entries = tt; known = refl })
entries_ok vps (word ∷ ws) turns e =
    let a = bound (entry vps word) _ turns e in
    let b = bound (entries vps ws) _ turns a.rest in
    let p : a.value ∷ b.value ≡ turns = cc in
    let first = entry_ok vps word a.value a.came in
    let others = entries_ok vps ws b.value b.came in
    let h = first.known in
    let t : nat_lt a.value.vp.0 vps ≡ true = grind (arith, nat_tests) in
    subst (AreCounted vps) p (record { entries = (first.entry, others.entries); known = rw (t, others.known) refl })

-- entries of which there is one at least
pub some_entries_ok : (vps : ℕ) (ws : Words) (turns : List Turns) → some_entries vps ws ≡ Ok turns → (0 < length turns) × AreCounted vps turns
unfolding entries
some_entries_ok vps [] turns e = cc
some_entries_ok vps (word ∷ ws) turns e =
    let a = bound (entry vps word) _ turns e in
    let b = bound (entries vps ws) _ turns a.rest in
    let p : a.value ∷ b.value ≡ turns = cc in
    (omega (arith, ap length p), entries_ok vps (word ∷ ws) turns e)
