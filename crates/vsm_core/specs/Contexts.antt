-- The initial context of a level: where its words have each register, and what it makes of the level's registers (TLFS, HV_INITIAL_VP_CONTEXT).
use Rattle.std.specs.Prelude.{ℕ, zero, suc, ◌+◌, ◌*◌, ◌^◌, ◌==◌, ◌&&◌, Bool, true, not, if◌then◌else◌, Option, Some, None, List, [], ◌∷◌, map, slice_index}
use Rattle.vsm_base.specs.declared.name.Name.{Name}
use Rattle.vsm_base.specs.declared.name.Name.TheVariants as names
use Rattle.vsm_base.specs.Names.{number_of}
use Rattle.vsm_base.specs.declared.places.Vtl.{Vtl}
use Rattle.vsm_base.specs.declared.places.Vtl.TheVariants.{Zero, One}
use Rattle.vsm_core.specs.Registers.{is_legal, opening_value, private_names, with_private}
use Rattle.vsm_core.specs.State.{State}

-- a register, the first of its words and how many it has
pub record Place : Type 0 where
  pub name : Name
  pub first : ℕ
  pub count : ℕ

abbrev pub at : Name → ℕ → ℕ → Place
at name first count = record { name = name; first = first; count = count }

unfoldable pub context_places : List Place
context_places =
    at names.Rip 0 1 ∷
    at names.Rsp 1 1 ∷
    at names.Rflags 2 1 ∷
    at names.Cs 3 2 ∷
    at names.Ds 5 2 ∷
    at names.Es 7 2 ∷
    at names.Fs 9 2 ∷
    at names.Gs 11 2 ∷
    at names.Ss 13 2 ∷
    at names.Tr 15 2 ∷
    at names.Ldtr 17 2 ∷
    at names.Idtr 19 2 ∷
    at names.Gdtr 21 2 ∷
    at names.Efer 23 1 ∷
    at names.Cr0 24 1 ∷
    at names.Cr3 25 1 ∷
    at names.Cr4 26 1 ∷
    at names.Pat 27 1 ∷ []

-- the number that so many words make, the low one first
abbrev pub value_at : List ℕ → ℕ → ℕ → ℕ
value_at words first zero = 0
value_at words first (suc zero) = slice_index words first
value_at words first (suc (suc count)) = slice_index words first + 2 ^ 64 * value_at words (first + 1) (suc count)

-- the values of a context's registers, in the order of the places
unfoldable pub values_of : List ℕ → List ℕ
values_of words = map (λ place. value_at words place.first place.count) context_places

-- each register may have its value
abbrev pub are_legal : List Place → List ℕ → Bool
are_legal (place ∷ places) (value ∷ values) = is_legal place.name value && are_legal places values
are_legal _ _ = true

-- what a register is under a context: the context's value, and for one that isn't in it the opening value
abbrev pub value_under : List Place → List ℕ → Name → ℕ
value_under (place ∷ places) (value ∷ values) name = if number_of place.name == number_of name then value else value_under places values name
value_under _ _ name = opening_value name

unfoldable pub placed : List ℕ → List ℕ
placed values = map (value_under context_places values) private_names

-- each register may have the value that the words give it
abbrev pub is_legal_context : List ℕ → Bool
is_legal_context words = are_legal context_places (values_of words)

-- a level is enabled: its own registers become those of a context's values, and those that the context doesn't name what they are at the opening
abbrev pub enabled_by : State → Vtl → List ℕ → State
enabled_by state level values = record {
  registers = with_private state.registers level (placed values);
  active = state.active;
  enabled = true;
}

-- level 0 always is enabled
abbrev pub has_level : State → Vtl → Bool
has_level state Zero = true
has_level state One = state.enabled

-- the state after a reply that may have brought a level's context; a level that is enabled already keeps its registers
abbrev pub with_context : State → Option (Vtl × List ℕ) → State
with_context state None = state
with_context state (Some context) =
    if not (has_level state context.0) && is_legal_context context.1 then enabled_by state context.0 (values_of context.1) else state
