-- What a context does to a level.
use Rattle.std.proofs.Common.{◌≡◌, ◌&&◌, ◌↔◌, Bool, true, false, not, cond, Some, List, ℕ, Result, Ok, Err, IsErr}
use Rattle.std.proofs.Common.{IsTrue, OnOk, OnErr, refl, ap, ◌∙◌}
use Rattle.vsm_base.specs.declared.places.Vtl.{Vtl}
use Rattle.vsm_base.specs.declared.places.Vtl.TheVariants.{Zero, One}
use Rattle.vsm_base.specs.declared.status.HvStatus.{HvStatus}
use Rattle.vsm_core.specs.Contexts.{enabled_by, has_level, is_legal_context, values_of, with_context}
use Rattle.vsm_core.specs.State.{State}
use Rattle.register_file.specs.declared.context.Context.{Context}
use Rattle.register_file.specs.Contexts.{context_values}
use Rattle.vsm_core.specs.Registers.{Registers}
use Rattle.vtl_state.specs.Levels.{LevelsView, is_enabled}
use Rattle.vtl_state.specs.States.{state_of, enabled_with}

pub has-level : (registers : Registers) (levels : LevelsView) (level : Vtl)
    → has_level (state_of registers levels) level ≡ is_enabled levels level
has-level registers levels Zero = refl
has-level registers levels One = refl

off : (b : Bool) → ¬ IsTrue b → b ≡ false
off true h = absurd (h refl)
off false h = refl

given-ok : (has legal : Bool) (after state new : State) → has ≡ false → legal ≡ true → new ≡ after
    → new ≡ cond (not has && legal) after state
given-ok true legal after state new h l e = cc
given-ok false true after state new h l e = e
given-ok false false after state new h l e = cc

given-err : (has legal : Bool) (after state new : State) → has ≡ true → new ≡ state
    → new ≡ cond (not has && legal) after state
given-err true legal after state new h e = e
given-err false legal after state new h e = cc

ok-no-err : IsErr {T = Unit {0}} {E = HvStatus} (Ok tt) → ⊥
ok-no-err h = cc

-- a legal context goes to a level that wasn't enabled, and to no other
pub context-given : (registers : Registers) (levels : LevelsView) (level : Vtl) (words : List ℕ) (context : Context)
    (result : Result (Unit {0}) HvStatus) (new : State) → is_legal_context words ≡ true
    → context_values context ≡ values_of words
    → (IsErr result ↔ IsTrue (is_enabled levels level))
    → OnOk result (new ≡ enabled_with (state_of registers levels) level context)
    → OnErr result (new ≡ state_of registers levels)
    → new ≡ with_context (state_of registers levels) (Some (level, words))
context-given registers levels level words context (Ok u) new legal values exact ok err =
    let none : has_level (state_of registers levels) level ≡ false =
    has-level registers levels level ∙ off (is_enabled levels level) (λ h. ok-no-err (exact.1 h)) in
    given-ok (has_level (state_of registers levels) level) (is_legal_context words) _
    (state_of registers levels) new none legal (ok ∙ ap (enabled_by (state_of registers levels) level) values)
context-given registers levels level words context (Err status) new legal values exact ok err =
    given-err (has_level (state_of registers levels) level) (is_legal_context words) _ (state_of registers levels) new
    (has-level registers levels level ∙ exact.0 refl) err
