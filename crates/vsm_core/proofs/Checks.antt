-- Ordered checks: the first that fails decides.
use Rattle.std.proofs.Common.{◌≡◌, Bool, true, false, cond, Option, Some, None, List, [], ◌∷◌, ◌++◌, refl}
use Rattle.vsm_base.specs.declared.status.HvStatus.{HvStatus}
use Rattle.vsm_core.specs.Calls.{Check, first_failed}

-- none of them fails
abbrev pub NoneFails : List Check → Type 0
NoneFails [] = Unit {0}
NoneFails (c ∷ checks) = (c.fails ≡ false) × NoneFails checks

none-by : (b : Bool) (status : HvStatus) (checks : List Check) → (first_failed checks ≡ None → NoneFails checks) → cond b (Some status) (first_failed checks) ≡ None → (b ≡ false) × NoneFails checks
none-by true status checks h e = cc
none-by false status checks h e = (refl, h e)

pub none-fails : (checks : List Check) → first_failed checks ≡ None → NoneFails checks
none-fails [] e = tt
none-fails (c ∷ checks) e = none-by c.fails c.status checks (none-fails checks) e

-- more checks behind these
abbrev behind : Option HvStatus → Option HvStatus → Option HvStatus
behind None other = other
behind (Some status) other = Some status

cond-behind : (b : Bool) (status : HvStatus) (x other : Option HvStatus) → cond b (Some status) (behind x other) ≡ behind (cond b (Some status) x) other
cond-behind true status x other = refl
cond-behind false status x other = refl

first-append : (checks more : List Check) → first_failed (checks ++ more) ≡ behind (first_failed checks) (first_failed more)
first-append [] more = refl
first-append (c ∷ checks) more = rw (first-append checks more) (cond-behind c.fails c.status (first_failed checks) (first_failed more))

-- where one of the first fails, it decides, and else the others do
pub first-some : (checks more : List Check) (status : HvStatus) → first_failed checks ≡ Some status → first_failed (checks ++ more) ≡ Some status
first-some checks more status e = rw (first-append checks more, e) refl

pub first-none : (checks more : List Check) → first_failed checks ≡ None → first_failed (checks ++ more) ≡ first_failed more
first-none checks more e = rw (first-append checks more, e) refl
