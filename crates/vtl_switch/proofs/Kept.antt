-- What a switch keeps of the registers.
use Rattle.std.proofs.Common.{◌≡◌, ◌≢◌, ◌==◌, ◌+◌, ◌/◌, ◌&&◌, ℕ, Bool, true, false, cond, if◌then◌else◌, Option, Some, None, IsTrue, refl, ◌∙◌}
use Rattle.std.proofs.lemmas.List.{get_or-set_other}
use Rattle.vsm_base.specs.declared.name.Name.{Name}
use Rattle.vsm_base.specs.declared.name.Name.TheVariants as names
use Rattle.vsm_base.specs.declared.places.Vtl.{Vtl}
use Rattle.vsm_base.specs.declared.places.Vtl.TheVariants.{Zero, One}
use Rattle.vsm_base.specs.Names.{is_shared}
use Rattle.vsm_core.specs.Registers.{Registers, is_legal, get, put, private_place, shared_place}
use Rattle.vsm_core.specs.State.{State, put as put_active, put_legal, gone_on, rip_of, privilege_of, word_of}
use Rattle.vsm_core.specs.Switch.{is_zero, may_call, may_return, called, returned, with_active, with_pair}
use Rattle.vtl_switch.specs.Stays.{IsNotGiven}
use Rattle.vsm_core.proofs.KeptRegisters.{put-rax, put-rcx, if-legal, gone_on-keeps}

with_pair-keeps : (state : State) (pair : Option (ℕ × ℕ)) (level : Vtl) (name : Name) → IsNotGiven pair name → get (with_pair state pair).registers level name ≡ get state.registers level name
with_pair-keeps state None level name other = refl
with_pair-keeps state (Some pair) level name other =
    let given = put_legal state names.Rax pair.0 in
    if-legal (is_legal names.Rcx pair.1) (put_active given names.Rcx pair.1) given level name (put-rcx given.registers given.active level name pair.1 other.1)
    ∙ if-legal (is_legal names.Rax pair.0) (put_active state names.Rax pair.0) state level name (put-rax state.registers state.active level name pair.0 other.0)

zero-of : (level : Vtl) → IsTrue (is_zero level) → level ≡ Zero
zero-of Zero h = refl
zero-of One h = cc

one-of : (level : Vtl) → IsTrue (cond (is_zero level) false true) → level ≡ One
one-of One h = refl
one-of Zero h = cc

middle : (p q r : Bool) → IsTrue ((p && q) && r) → IsTrue q
middle true true r h = refl
middle true false r h = cc
middle false q r h = cc

first : (p q : Bool) → IsTrue (p && q) → IsTrue p
first true q h = refl
first false q h = cc

pub call-keeps : (before : State) (after : Registers) → IsTrue (may_call before) → after ≡ (called before).registers → (level : Vtl) (name : Name) → ¬ ((level ≡ Zero) × (name ≡ names.Rip)) → get after level name ≡ get before.registers level name
call-keeps before after lawful e level name other =
    let at : before.active ≡ Zero = zero-of before.active (middle (privilege_of before == 0) (is_zero before.active) before.enabled (first ((privilege_of before == 0) && is_zero before.active && before.enabled) (word_of before names.Rcx == 0) lawful)) in
    rw e (gone_on-keeps before level name (λ p. other (p.0 ∙ at, p.1)))

pub return-keeps : (before : State) (pair : Option (ℕ × ℕ)) (after : Registers) → IsTrue (may_return before) → after ≡ (returned before pair).registers → (level : Vtl) (name : Name) → ¬ ((level ≡ One) × (name ≡ names.Rip)) → IsNotGiven pair name → get after level name ≡ get before.registers level name
return-keeps before pair after lawful e level name other others =
    let at : before.active ≡ One = one-of before.active (middle (privilege_of before == 0) (if is_zero before.active then false else true) (word_of before names.Rcx / 2 == 0) lawful) in
    rw e (with_pair-keeps (with_active (gone_on before) Zero) pair level name others ∙ gone_on-keeps before level name (λ p. other (p.0 ∙ at, p.1)))
