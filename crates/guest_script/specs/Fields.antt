-- What the words of a line say, one after another, or why the line is refused.
use Rattle.std.specs.Prelude.{ℕ, ◌+◌, ◌^◌, List, [], ◌∷◌, take, drop, Bool, true, false, ◌&&◌, if◌then◌else◌, ◌==◌, nat_lt, nat_le, Option, Some, None, Result, Ok, Err, position, ◌≡◌}
use Rattle.std.specs.Char.{is_ascii_alphabetic}
use Rattle.vsm_base.specs.Masks.{is_mask}
use Rattle.vsm_base.specs.Names.{named_by, is_general}
use Rattle.vsm_base.specs.declared.name.Name.{Name}
use Rattle.vsm_base.specs.declared.name.Name.TheVariants as names
use Rattle.vsm_core.specs.declared.operation.Operand.{Operand}
use Rattle.vsm_core.specs.declared.operation.Operand.TheVariants.{Number, Register}
use Rattle.guest_script.specs.Numbers.{number_of, numeral}
use Rattle.guest_script.specs.declared.script.Turns.{Turns}
use Rattle.guest_script.specs.declared.script.Why.{Why}
use Rattle.guest_script.specs.declared.script.Why.TheVariants.{MissingWord, BadNumber, BadName, BadEntry, OutOfRange, ExtraWord}

infixl 10 ◌>>=◌
-- one step after another, as long as none is refused
abbrev pub ◌>>=◌ : {A B E : Type 0} → Result A E → (A → Result B E) → Result B E
(Ok x) >>= f = f x
(Err e) >>= f = Err e

-- what the code answers is what is said here, seen by view
abbrev pub Gives : {X Y : Type 0} → (X → Y) → Result X Why → Result Y Why → Type 0
Gives view (Ok x) said = said ≡ Ok (view x)
Gives view (Err why) said = said ≡ Err why

-- the words of a line that are still to be read
abbrev pub Words : Type 0
Words = List (List ℕ)

-- what a word spells, where it spells something, and the words after it
abbrev pub spelled : {A : Type 0} → Why → Option A → Words → Result (A × Words) Why
spelled why None words = Err why
spelled why (Some x) words = Ok (x, words)

-- any number, which is below 2^128, and the words after it
unfoldable pub any_number : Words → Result (ℕ × Words) Why
any_number [] = Err MissingWord
any_number (word ∷ words) = spelled BadNumber (number_of word) words

-- a number from low on and below high, and the words after it
unfoldable pub number : ℕ → ℕ → Words → Result (ℕ × Words) Why
number low high words = do
  n ← any_number words
  if nat_le low n.0 && nat_lt n.0 high then Ok n else Err OutOfRange

-- the mask of these bits
abbrev pub valid_mask : ℕ → Result ℕ Why
valid_mask bits = if is_mask bits then Ok bits else Err OutOfRange

-- a general register or Rsp, into which a load or an acknowledgement writes
abbrev pub is_target : Name → Bool
is_target names.Rsp = true
is_target name = is_general name

-- a register that set and get may name: never Rip or a register of level 1's intercepts
abbrev pub is_named : Name → Bool
is_named names.Rip = false
is_named names.CrInterceptControl = false
is_named names.CrInterceptCr0Mask = false
is_named names.CrInterceptCr4Mask = false
is_named _ = true

-- the name of any register, and the words after it
unfoldable pub any_register : Words → Result (Name × Words) Why
any_register [] = Err MissingWord
any_register (word ∷ words) = spelled BadName (named_by word) words

-- the name of a general register or Rsp, and the words after it
unfoldable pub register : Words → Result (Name × Words) Why
register words = do
  name ← any_register words
  if is_target name.0 then Ok name else Err BadName

-- the name of a register that set and get may name, and the words after it
unfoldable pub named_register : Words → Result (Name × Words) Why
named_register words = do
  name ← any_register words
  if is_named name.0 then Ok name else Err BadName

-- a word begins with a letter
abbrev pub begins_with_letter : List ℕ → Bool
begins_with_letter [] = false
begins_with_letter (b ∷ word) = is_ascii_alphabetic b

-- the name of a general register as what a store writes, and the words after it
unfoldable pub register_operand : Words → Result (Operand × Words) Why
register_operand words = do
  name ← any_register words
  if is_general name.0 then Ok (Register name.0, name.1) else Err BadName

-- a number below 2^64 as what a store writes, and the words after it
unfoldable pub number_operand : Words → Result (Operand × Words) Why
number_operand words = do
  n ← number 0 (2 ^ 64) words
  Ok (Number n.0, n.1)

-- what a store writes, and the words after it; a word that begins with a letter is a register's name
unfoldable pub operand : Words → Result (Operand × Words) Why
operand [] = Err MissingWord
operand (word ∷ words) = if begins_with_letter word then register_operand (word ∷ words) else number_operand (word ∷ words)

-- no word is left
unfoldable pub no_more : Words → Result (Unit {0}) Why
no_more [] = Ok tt
no_more (word ∷ words) = Err ExtraWord

-- an entry of these two numbers, where each is in range
abbrev pub counted : ℕ → Option ℕ → Option ℕ → Result Turns Why
counted vps None count = Err BadEntry
counted vps (Some vp) None = Err BadEntry
counted vps (Some vp) (Some count) = if nat_lt vp vps && nat_le 1 count && nat_le count 100000 then Ok (record { vp = record { 0 = vp }; single = false; count = count }) else Err OutOfRange

-- an entry whose word has its first star here, or none
abbrev pub starred : ℕ → Option ℕ → List ℕ → Result Turns Why
starred vps None word = counted vps (numeral 10 39 word) (Some 1)
starred vps (Some at) word = counted vps (numeral 10 39 (take at word)) (numeral 10 39 (drop (at + 1) word))

-- P, or P*C, of so many processors
unfoldable pub entry : ℕ → List ℕ → Result Turns Why
entry vps word = starred vps (position (λ b. b == 42) word) word

-- all the words as entries
unfoldable pub entries : ℕ → Words → Result (List Turns) Why
entries vps [] = Ok []
entries vps (word ∷ words) = do
  first ← entry vps word
  others ← entries vps words
  Ok (first ∷ others)
