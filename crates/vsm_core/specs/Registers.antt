-- A processor's registers: which values each takes, where each is kept, and what each is at the opening.
use Rattle.std.specs.Prelude.{◌≡◌, ℕ, suc, ◌^◌, ◌%◌, ◌==◌, ◌&&◌, Bool, not, if◌then◌else◌, nat_lt, List, [], ◌∷◌, map, slice_index, slice_set, filter, length}
use Rattle.vsm_base.specs.declared.name.Name.{Name}
use Rattle.vsm_base.specs.declared.name.Name.TheVariants as names
use Rattle.vsm_base.specs.declared.places.Vtl.{Vtl}
use Rattle.vsm_base.specs.declared.places.Vtl.TheVariants.{Zero, One}
use Rattle.vsm_base.specs.Names.{number_of, is_shared, all_names}

-- the bits of a register that may be set: from the first on, and below the second. All others must be zero
unfoldable pub bits_of : Name → ℕ × ℕ
bits_of names.Rflags = (0, 32)
bits_of names.Cr0 = (0, 32)
bits_of names.Cr3 = (0, 52)
bits_of names.Cr4 = (0, 32)
bits_of names.Cr8 = (0, 4)
bits_of names.Dr6 = (0, 32)
bits_of names.Dr7 = (0, 32)
bits_of names.Es = (0, 128)
bits_of names.Cs = (0, 128)
bits_of names.Ss = (0, 128)
bits_of names.Ds = (0, 128)
bits_of names.Fs = (0, 128)
bits_of names.Gs = (0, 128)
bits_of names.Ldtr = (0, 128)
bits_of names.Tr = (0, 128)
bits_of names.Idtr = (48, 128)
bits_of names.Gdtr = (48, 128)
bits_of names.Efer = (0, 16)
bits_of _ = (0, 64)

-- no bit is set but these
unfoldable pub has_bits : ℕ × ℕ → ℕ → Bool
has_bits bits value = (value % 2 ^ bits.0 == 0) && nat_lt value (2 ^ bits.1)

-- a register may have this value
abbrev pub is_legal : Name → ℕ → Bool
is_legal name value = has_bits (bits_of name) value

-- what a register is before the first operation
unfoldable pub opening_value : Name → ℕ
opening_value names.Rflags = 2
opening_value names.Cr0 = 1
opening_value names.Sint0 = 0x10000
opening_value _ = 0

-- the registers that the levels have as one, and those that each has as its own, in the order of their numbers
unfoldable pub shared_names : List Name
shared_names = filter is_shared all_names

unfoldable pub private_names : List Name
private_names = filter (λ name. not (is_shared name)) all_names

-- a register's place among some
abbrev pub place_among : List Name → Name → ℕ
place_among [] name = 0
place_among (other ∷ names) name = if number_of other == number_of name then 0 else suc (place_among names name)

unfoldable pub shared_place : Name → ℕ
shared_place name = place_among shared_names name

unfoldable pub private_place : Name → ℕ
private_place name = place_among private_names name

-- the values of a processor's registers: those that the levels share, and each level's own
pub record Registers : Type 0 where
  pub shared : List ℕ
  pub zero : List ℕ
  pub one : List ℕ

-- each register has its place
pub record IsWhole (registers : Registers) : Type 0 where
  pub shared : length registers.shared ≡ 24
  pub zero : length registers.zero ≡ 32
  pub one : length registers.one ≡ 32

-- a level's own
abbrev pub private_of : Registers → Vtl → List ℕ
private_of registers Zero = registers.zero
private_of registers One = registers.one

abbrev pub with_private : Registers → Vtl → List ℕ → Registers
with_private registers Zero values = record registers { zero = values }
with_private registers One values = record registers { one = values }

abbrev pub get : Registers → Vtl → Name → ℕ
get registers level name =
    if is_shared name then slice_index registers.shared (shared_place name)
    else slice_index (private_of registers level) (private_place name)

abbrev pub put : Registers → Vtl → Name → ℕ → Registers
put registers level name value =
    if is_shared name then record registers { shared = slice_set registers.shared (shared_place name) value }
    else with_private registers level (slice_set (private_of registers level) (private_place name) value)

unfoldable pub opening_shared : List ℕ
opening_shared = map opening_value shared_names

unfoldable pub opening_private : List ℕ
opening_private = map opening_value private_names

abbrev pub opening : Registers
opening = record { shared = opening_shared; zero = opening_private; one = opening_private }
