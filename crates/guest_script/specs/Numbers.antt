-- The number that a word spells.
use Rattle.std.specs.Prelude.{ℕ, ◌^◌, List, length, drop, take, Bool, ◌&&◌, if◌then◌else◌, nat_lt, nat_le, codes, Option, Some, None}
use Rattle.std.specs.Char.{is_digit}
use Rattle.std.specs.Str.{bytes_eq}
use Rattle.std.specs.Str.Parse.{digits_value}
use Rattle.std.specs.List.{list_all}

-- one digit or more and no more than that many, which spell a number below 2^128
abbrev pub is_numeral : ℕ → ℕ → List ℕ → Bool
is_numeral base most word =
    nat_le 1 (length word) && nat_le (length word) most && list_all (λ c. is_digit c base) word && nat_lt (digits_value base word) (2 ^ 128)

-- the number that digits in a base spell
abbrev pub numeral : ℕ → ℕ → List ℕ → Option ℕ
numeral base most word = if is_numeral base most word then Some (digits_value base word) else None

-- 0x and up to 32 digits of either case, or up to 39 decimal digits
unfoldable pub number_of : List ℕ → Option ℕ
number_of word = if bytes_eq (take 2 word) (codes "0x") then numeral 16 32 (drop 2 word) else numeral 10 39 word
