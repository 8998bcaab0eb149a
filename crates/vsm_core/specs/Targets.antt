-- The input VTL byte of a call, by which the caller names the level that it means (TLFS, HV_INPUT_VTL).
use Rattle.std.specs.Prelude.{ℕ, ◌/◌, ◌%◌, ◌^◌, ◌==◌, ◌&&◌, ◌||◌, Bool, true, false, not, if◌then◌else◌, nat_lt, List, slice_index}
use Rattle.vsm_base.specs.Levels.{level_number}
use Rattle.vsm_base.specs.declared.places.Vtl.{Vtl}
use Rattle.vsm_base.specs.declared.places.Vtl.TheVariants.{Zero, One}
use Rattle.vsm_core.specs.Partition.{byte_in, padding_in}

-- bit 4 says that bits 3:0 name a level; else the caller's own level is meant
abbrev pub names_level : ℕ → Bool
names_level byte = byte / 2 ^ 4 % 2 == 1

-- in a word that has the byte, a level that is named is 0 or 1, and no bit is set above bit 4 or behind the byte
abbrev pub is_byte_word : ℕ → Bool
is_byte_word word = (byte_in word / 2 ^ 5 == 0) && (not (names_level (byte_in word)) || nat_lt (byte_in word % 2 ^ 4) 2) && (padding_in word == 0)

-- most calls have it in their second word
abbrev pub is_byte_form : List ℕ → Bool
is_byte_form words = is_byte_word (slice_index words 1)

abbrev pub level_of : ℕ → Vtl
level_of number = if number == 1 then One else Zero

-- the level that a caller of this level means by such a word
abbrev pub level_meant : Vtl → ℕ → Vtl
level_meant caller word = if names_level (byte_in word) then level_of (byte_in word % 2 ^ 4) else caller

abbrev pub target_level : Vtl → List ℕ → Vtl
target_level caller words = level_meant caller (slice_index words 1)

-- the one level is above the other
abbrev pub is_above : Vtl → Vtl → Bool
is_above One Zero = true
is_above _ _ = false

-- the one level is the other
abbrev pub is_level : Vtl → Vtl → Bool
is_level one other = level_number one == level_number other
