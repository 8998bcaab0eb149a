-- Two registers don't stand at one place.
use Rattle.std.proofs.Common.{◌≡◌, ◌≢◌, ◌<◌, ◌==◌, ℕ, suc, cond, List, [], ◌∷◌, length, refl, sym, arith, lit<}
use Rattle.std.proofs.lemmas.Bool.Decides.{nat_tests}
use Rattle.vsm_base.specs.declared.name.Name.{Name}
use Rattle.vsm_base.specs.declared.name.Name.TheVariants as names
use Rattle.vsm_base.specs.Names.{number_of, all_names}
use Rattle.vsm_core.specs.Registers.{place_among, shared_names, private_names, shared_place, private_place}

at_head : (o a b x y n : ℕ) → (x < n → x ≡ y → a ≡ b) → cond (o == a) 0 (suc x) < suc n → cond (o == a) 0 (suc x) ≡ cond (o == b) 0 (suc y) → a ≡ b
at_head o a b x y n later within same = grind (arith, nat_tests)

-- registers that stand at one place of a list are one
pub place-number : (list : List Name) (a b : Name) → place_among list a < length list → place_among list a ≡ place_among list b → number_of a ≡ number_of b
place-number [] a b within same = absurd (omega arith)
place-number (o ∷ os) a b within same =
    at_head (number_of o) (number_of a) (number_of b) (place_among os a) (place_among os b) (length os) (place-number os a b) within same

rip-number : (name : Name) → number_of names.Rip ≡ number_of name → name ≡ names.Rip
rip-number names.Rip e = refl
rip-number _ e = absurd (omega arith)

rax-number : (name : Name) → number_of names.Rax ≡ number_of name → name ≡ names.Rax
rax-number names.Rax e = refl
rax-number _ e = absurd (omega arith)

rcx-number : (name : Name) → number_of names.Rcx ≡ number_of name → name ≡ names.Rcx
rcx-number names.Rcx e = refl
rcx-number _ e = absurd (omega arith)

-- no other register stands where Rip, Rax or Rcx does
pub rip-alone : (name : Name) → name ≢ names.Rip → private_place name ≢ private_place names.Rip
unfolding private_place private_names all_names
rip-alone name other same = other (rip-number name (place-number private_names names.Rip name (lit< tt) (sym same)))

pub rax-alone : (name : Name) → name ≢ names.Rax → shared_place name ≢ shared_place names.Rax
unfolding shared_place shared_names all_names
rax-alone name other same = other (rax-number name (place-number shared_names names.Rax name (lit< tt) (sym same)))

pub rcx-alone : (name : Name) → name ≢ names.Rcx → shared_place name ≢ shared_place names.Rcx
unfolding shared_place shared_names all_names
rcx-alone name other same = other (rcx-number name (place-number shared_names names.Rcx name (lit< tt) (sym same)))
