-- Which registers a switch leaves as they are.
use Rattle.std.specs.Prelude.{◌≢◌, ℕ, Option, Some, None}
use Rattle.vsm_base.specs.declared.name.Name.{Name}
use Rattle.vsm_base.specs.declared.name.Name.TheVariants as names

-- a register that no pair of values is given to, of which the first is RAX's and the second RCX's
abbrev pub IsNotGiven : Option (ℕ × ℕ) → Name → Type 0
IsNotGiven None name = Unit {0}
IsNotGiven (Some pair) name = (name ≢ names.Rax) × (name ≢ names.Rcx)
