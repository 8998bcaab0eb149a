-- What a write of one register keeps of the others.
use Rattle.std.proofs.Common.{◌≡◌, ◌≢◌, ◌+◌, ℕ, Bool, true, false, cond, refl}
use Rattle.std.proofs.lemmas.List.{get_or-set_other}
use Rattle.vsm_base.specs.declared.name.Name.{Name}
use Rattle.vsm_base.specs.declared.name.Name.TheVariants as names
use Rattle.vsm_base.specs.declared.places.Vtl.{Vtl}
use Rattle.vsm_base.specs.declared.places.Vtl.TheVariants.{Zero, One}
use Rattle.vsm_base.specs.Names.{is_shared}
use Rattle.vsm_core.specs.Registers.{Registers, is_legal, get, put, private_place, shared_place}
use Rattle.vsm_core.specs.State.{State, put as put_active, put_legal, gone_on, rip_of}
use Rattle.vsm_core.proofs.Places.{rip-alone, rax-alone, rcx-alone}

-- either value of a test
under : (b : Bool) (x y z w : ℕ) → x ≡ z → y ≡ w → cond b x y ≡ cond b z w
under true x y z w e f = e
under false x y z w e f = f

-- a write of Rip, Rax or Rcx changes no other register
pub put-rip : (registers : Registers) (at level : Vtl) (name : Name) (value : ℕ) → ¬ ((level ≡ at) × (name ≡ names.Rip)) → get (put registers at names.Rip value) level name ≡ get registers level name
put-rip registers Zero Zero name value other = under (is_shared name) _ _ _ _ refl (get_or-set_other registers.zero (private_place names.Rip) (private_place name) value 0 (rip-alone name (λ e. other (refl, e))))
put-rip registers One One name value other = under (is_shared name) _ _ _ _ refl (get_or-set_other registers.one (private_place names.Rip) (private_place name) value 0 (rip-alone name (λ e. other (refl, e))))
put-rip registers Zero One name value other = refl
put-rip registers One Zero name value other = refl

pub put-rax : (registers : Registers) (at level : Vtl) (name : Name) (value : ℕ) → name ≢ names.Rax → get (put registers at names.Rax value) level name ≡ get registers level name
put-rax registers at Zero name value other = under (is_shared name) _ _ _ _ (get_or-set_other registers.shared (shared_place names.Rax) (shared_place name) value 0 (rax-alone name other)) refl
put-rax registers at One name value other = under (is_shared name) _ _ _ _ (get_or-set_other registers.shared (shared_place names.Rax) (shared_place name) value 0 (rax-alone name other)) refl

pub put-rcx : (registers : Registers) (at level : Vtl) (name : Name) (value : ℕ) → name ≢ names.Rcx → get (put registers at names.Rcx value) level name ≡ get registers level name
put-rcx registers at Zero name value other = under (is_shared name) _ _ _ _ (get_or-set_other registers.shared (shared_place names.Rcx) (shared_place name) value 0 (rcx-alone name other)) refl
put-rcx registers at One name value other = under (is_shared name) _ _ _ _ (get_or-set_other registers.shared (shared_place names.Rcx) (shared_place name) value 0 (rcx-alone name other)) refl

-- a register that stays in either case
pub if-legal : (b : Bool) (new old : State) (level : Vtl) (name : Name) → get new.registers level name ≡ get old.registers level name → get (cond b new old).registers level name ≡ get old.registers level name
if-legal true new old level name e = e
if-legal false new old level name e = refl

pub gone_on-keeps : (state : State) (level : Vtl) (name : Name) → ¬ ((level ≡ state.active) × (name ≡ names.Rip)) → get (gone_on state).registers level name ≡ get state.registers level name
gone_on-keeps state level name other =
    if-legal (is_legal names.Rip (rip_of state + 1)) (put_active state names.Rip (rip_of state + 1)) state level name (put-rip state.registers state.active level name (rip_of state + 1) other)

pub put_legal-rax : (state : State) (value : ℕ) (level : Vtl) (name : Name) → name ≢ names.Rax → get (put_legal state names.Rax value).registers level name ≡ get state.registers level name
put_legal-rax state value level name other = if-legal (is_legal names.Rax value) (put_active state names.Rax value) state level name (put-rax state.registers state.active level name value other)

pub put_legal-rcx : (state : State) (value : ℕ) (level : Vtl) (name : Name) → name ≢ names.Rcx → get (put_legal state names.Rcx value).registers level name ≡ get state.registers level name
put_legal-rcx state value level name other = if-legal (is_legal names.Rcx value) (put_active state names.Rcx value) state level name (put-rcx state.registers state.active level name value other)
