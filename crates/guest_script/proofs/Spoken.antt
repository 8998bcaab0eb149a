-- Words that stay whole where a line of them is read.
use Rattle.std.proofs.Common.{ℕ, ◌<◌, ◌≡◌, List, [], ◌∷◌, length, Bool, true, ◌&&◌, nat_le}
use Rattle.std.specs.List.{list_all}
use Rattle.guest_script.specs.Fields.{Words}

-- a byte of text that is no space
abbrev pub is_shown : ℕ → Bool
is_shown b = nat_le 33 b && nat_le b 126

-- some bytes, each of text and no space
pub record IsWord (word : List ℕ) : Type 0 where
  pub some : 0 < length word
  pub shown : list_all is_shown word ≡ true

abbrev pub AreSpoken : Words → Type 0
AreSpoken [] = Unit {0}
AreSpoken (word ∷ others) = IsWord word × AreSpoken others
