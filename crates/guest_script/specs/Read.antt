-- What the reader answers.
use Rattle.std.specs.Prelude.{Result, Ok, Err, ◌≡◌}
use Rattle.guest_script.specs.declared.script.Refusal.{Refusal}
use Rattle.guest_script.specs.declared.script.Script.{Script}
use Rattle.guest_script.specs.declared.reader.ReadError.{ReadError}
use Rattle.guest_script.specs.declared.reader.ReadError.TheVariants.{Refused, Memory}

-- the answer is the script or the refusal that is said here, unless memory ran out
abbrev pub IsReadAs : Result Script ReadError → Result Script Refusal → Type 0
IsReadAs (Ok s) said = said ≡ Ok s
IsReadAs (Err (Refused r)) said = said ≡ Err r
IsReadAs (Err Memory) said = Unit {0}
