-- What the checks of an input value come to.
use Rattle.std.proofs.Common.{◌≡◌, ◌||◌, ℕ, Bool, true, false, cond, Option, Some, None, List, [], ◌∷◌, Ok, Err, ap, refl}
use Rattle.std.specs.List.{list_any}
use Rattle.vsm_base.specs.declared.status.HvStatus.{HvStatus}
use Rattle.vsm_base.specs.declared.status.TheConstants.HvStatus as statuses
use Rattle.vsm_core.specs.Calls.{Row, Check, first_failed, form_checks, is_malformed, read, row_of, code_in, control_in}

-- each check has this status
abbrev Alike : HvStatus → List Check → Type 0
Alike status [] = Unit {0}
Alike status (c ∷ checks) = (c.status ≡ status) × Alike status checks

first_if : (b : Bool) (s t : HvStatus) (x : Option HvStatus) (more : Bool) → s ≡ t → x ≡ cond more (Some t) None → cond b (Some s) x ≡ cond (b || more) (Some t) None
first_if true s t x more e h = ap (λ u. Some u) e
first_if false s t x more e h = h

-- alike checks come to their status exactly where one of them fails
first_alike : (status : HvStatus) (checks : List Check) → Alike status checks → first_failed checks ≡ cond (list_any (λ c. c.fails) checks) (Some status) None
first_alike status [] a = refl
first_alike status (c ∷ checks) a = first_if c.fails c.status status (first_failed checks) (list_any (λ d. d.fails) checks) a.0 (first_alike status checks a.1)

form_failed : (row : Row) (value : ℕ) → first_failed (form_checks row value) ≡ cond (is_malformed row value) (Some statuses.INVALID_HYPERCALL_INPUT) None
unfolding form_checks
form_failed row value = first_alike statuses.INVALID_HYPERCALL_INPUT (form_checks row value) (refl, (refl, (refl, (refl, (refl, (refl, (refl, (refl, (refl, tt)))))))))

pub read-malformed : (value : ℕ) (row : Row) → row_of (code_in value) ≡ Some row → is_malformed row value ≡ true → read value ≡ Err statuses.INVALID_HYPERCALL_INPUT
read-malformed value row e h = rw (e, form_failed row value, h) refl

pub read-well : (value : ℕ) (row : Row) → row_of (code_in value) ≡ Some row → is_malformed row value ≡ false → read value ≡ Ok (control_in value)
read-well value row e h = rw (e, form_failed row value, h) refl
