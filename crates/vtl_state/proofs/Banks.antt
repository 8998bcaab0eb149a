-- What a bank of registers answers to a write, as a state.
use Rattle.std.proofs.Common.{◌≡◌, ◌↔◌, ℕ, Bool, true, false, cond, Result, Ok, Err, IsOk, OnOk, OnErr, IsTrue, refl, ap, subst}
use Rattle.vsm_base.specs.declared.name.Name.{Name}
use Rattle.vsm_base.specs.declared.places.Vtl.{Vtl}
use Rattle.vsm_core.specs.Registers.{Registers, is_legal, put}
use Rattle.vsm_core.specs.State.{State, put_legal}
use Rattle.register_file.specs.declared.bank.BadValue.{BadValue}
use Rattle.vtl_state.specs.Levels.{LevelsView}
use Rattle.vtl_state.specs.States.{state_of}

-- either of two states
chosen : (b : Bool) (u v w : State) → (b ≡ true → w ≡ u) → (b ≡ false → w ≡ v) → w ≡ cond b u v
chosen true u v w f g = f refl
chosen false u v w f g = g refl

put_active : (r : Result (Unit {0}) BadValue) (old new : Registers) (levels : LevelsView) (name : Name) (value : ℕ) → OnOk r (new ≡ put old levels.active name value) → OnErr r (new ≡ old) → (IsOk r ↔ IsTrue (is_legal name value)) → state_of new levels ≡ put_legal (state_of old levels) name value
put_active (Ok u) old new levels name value ok err exact = rw (exact.0 refl) (ap (λ b. state_of b levels) ok)
put_active (Err e) old new levels name value ok err exact =
    chosen (is_legal name value) (state_of (put old levels.active name value) levels) (state_of old levels) (state_of new levels) (λ legal. let e = exact.1 legal in cc) (λ _. ap (λ b. state_of b levels) err)

-- a write at the active level
pub put_so : (r : Result (Unit {0}) BadValue) (old new : Registers) (levels : LevelsView) (level : Vtl) (name : Name) (value : ℕ) → level ≡ levels.active → OnOk r (new ≡ put old level name value) → OnErr r (new ≡ old) → (IsOk r ↔ IsTrue (is_legal name value)) → state_of new levels ≡ put_legal (state_of old levels) name value
put_so r old new levels level name value active ok err exact =
    let P : Vtl → Type 0 = λ l. OnOk r (new ≡ put old l name value) in put_active r old new levels name value (subst P active ok) err exact
