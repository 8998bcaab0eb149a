-- The commands, by the words of a command line.
use Rattle.std.specs.Prelude.{ℕ, List, [], ◌∷◌, Bool, false, ◌&&◌, if◌then◌else◌, ◌==◌, ◌≤◌, nat_le, codes, Option, Some, None}
use Rattle.std.specs.Str.{bytes_eq}
use Rattle.guest_script.specs.Numbers.{numeral}
use Rattle.vsm_serve.specs.declared.command.Command.{Command}
use Rattle.vsm_serve.specs.declared.command.Command.TheVariants as commands

-- a word that begins with a zero
abbrev pub begins_with_zero : List ℕ → Bool
begins_with_zero [] = false
begins_with_zero (b ∷ word) = b == 48

-- the number, where it is from 1 to 1,000
abbrev pub as_size : Option ℕ → Option ℕ
as_size None = None
as_size (Some n) = if nat_le 1 n && nat_le n 1000 then Some n else None

-- the number from 1 to 1,000 that a word spells in decimal digits, without a leading zero
abbrev pub size_of : List ℕ → Option ℕ
size_of word = if begins_with_zero word then None else as_size (numeral 10 39 word)

-- a command with a number
abbrev pub sized : List ℕ → Option ℕ → Option Command
sized word None = None
sized word (Some n) =
    if bytes_eq word (codes "make") then Some (commands.Make n)
    else (if bytes_eq word (codes "sample") then Some (commands.Sample n) else None)

-- the command that the words are
abbrev pub command_of : List (List ℕ) → Option Command
command_of [] = None
command_of (word ∷ []) = if bytes_eq word (codes "trace") then Some commands.Trace else None
command_of (word ∷ size ∷ []) = sized word (size_of size)
command_of (word ∷ size ∷ other ∷ words) = None

-- the number of a command is from 1 to 1,000
abbrev pub IsSized : Command → Type 0
IsSized commands.Trace = Unit {0}
IsSized (commands.Make n) = (1 ≤ n) × (n ≤ 1000)
IsSized (commands.Sample n) = (1 ≤ n) × (n ≤ 1000)
