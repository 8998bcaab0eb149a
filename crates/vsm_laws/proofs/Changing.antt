-- Registers that a change of others leaves.
use Rattle.std.proofs.Common.{◌≡◌, ◌≢◌, ◌<◌, ◌&&◌, ◌||◌, ℕ, Bool, true, false, cond, length, refl, sym, arith, lit<, get_or, slice_set, slice_index}
use Rattle.std.proofs.lemmas.Bool.Decides.{nat_tests}
use Rattle.std.proofs.lemmas.List.{get_or-set_other}
use Rattle.vsm_base.specs.declared.name.Name.{Name}
use Rattle.vsm_base.specs.declared.name.Name.TheVariants as names
use Rattle.vsm_base.specs.declared.places.Vtl.{Vtl}
use Rattle.vsm_base.specs.declared.places.Vtl.TheVariants.{Zero, One}
use Rattle.vsm_base.specs.Names.{number_of, all_names, is_shared}
use Rattle.vsm_core.specs.Registers.{Registers, get, put, private_of, with_private, shared_names, private_names, shared_place, private_place}
use Rattle.vsm_core.proofs.Places.{place-number}
use Rattle.vsm_core.specs.Targets.{is_level}
use Rattle.vsm_laws.specs.Changes.{is_same, is_common}

shared-within : (name : Name) → is_shared name ≡ true → shared_place name < length shared_names
unfolding shared_place shared_names all_names
shared-within names.Rax e = lit< tt
shared-within names.Rcx e = lit< tt
shared-within names.Rdx e = lit< tt
shared-within names.Rbx e = lit< tt
shared-within names.Rbp e = lit< tt
shared-within names.Rsi e = lit< tt
shared-within names.Rdi e = lit< tt
shared-within names.R8 e = lit< tt
shared-within names.R9 e = lit< tt
shared-within names.R10 e = lit< tt
shared-within names.R11 e = lit< tt
shared-within names.R12 e = lit< tt
shared-within names.R13 e = lit< tt
shared-within names.R14 e = lit< tt
shared-within names.R15 e = lit< tt
shared-within names.Cr2 e = lit< tt
shared-within names.Dr0 e = lit< tt
shared-within names.Dr1 e = lit< tt
shared-within names.Dr2 e = lit< tt
shared-within names.Dr3 e = lit< tt
shared-within names.Dr6 e = lit< tt
shared-within names.CrInterceptControl e = lit< tt
shared-within names.CrInterceptCr0Mask e = lit< tt
shared-within names.CrInterceptCr4Mask e = lit< tt
shared-within _ e = cc

private-within : (name : Name) → is_shared name ≡ false → private_place name < length private_names
unfolding private_place private_names all_names
private-within names.Rsp e = lit< tt
private-within names.Rip e = lit< tt
private-within names.Rflags e = lit< tt
private-within names.Cr0 e = lit< tt
private-within names.Cr3 e = lit< tt
private-within names.Cr4 e = lit< tt
private-within names.Cr8 e = lit< tt
private-within names.Dr7 e = lit< tt
private-within names.Es e = lit< tt
private-within names.Cs e = lit< tt
private-within names.Ss e = lit< tt
private-within names.Ds e = lit< tt
private-within names.Fs e = lit< tt
private-within names.Gs e = lit< tt
private-within names.Ldtr e = lit< tt
private-within names.Tr e = lit< tt
private-within names.Idtr e = lit< tt
private-within names.Gdtr e = lit< tt
private-within names.Efer e = lit< tt
private-within names.KernelGsBase e = lit< tt
private-within names.Pat e = lit< tt
private-within names.SysenterCs e = lit< tt
private-within names.SysenterEip e = lit< tt
private-within names.SysenterEsp e = lit< tt
private-within names.Star e = lit< tt
private-within names.Lstar e = lit< tt
private-within names.Cstar e = lit< tt
private-within names.Sfmask e = lit< tt
private-within names.VpAssistPage e = lit< tt
private-within names.Sint0 e = lit< tt
private-within names.Scontrol e = lit< tt
private-within names.Simp e = lit< tt
private-within _ e = cc

-- another register stands at another place
number-apart : (one other : Name) → is_same one other ≡ false → number_of one ≡ number_of other → ⊥
number-apart one other apart same = let e : is_same one other ≡ true = grind (arith, nat_tests, same) in cc

shared-apart : (one other : Name) → is_shared one ≡ true → is_same one other ≡ false → shared_place other ≢ shared_place one
unfolding shared_place
shared-apart one other shared apart same = number-apart one other apart (place-number shared_names one other (shared-within one shared) (sym same))

private-apart : (one other : Name) → is_shared one ≡ false → is_same one other ≡ false → private_place other ≢ private_place one
unfolding private_place
private-apart one other own apart same = number-apart one other apart (place-number private_names one other (private-within one own) (sym same))

-- a register that isn't common to both levels, or not the same
abbrev Untouched : Vtl → Vtl → Name → Name → Type 0
Untouched at level one other = (is_common at level other && is_same one other) ≡ false

level-same : (level : Vtl) → is_level level level ≡ true
level-same Zero = refl
level-same One = refl

-- the register is another one, as is known by its level or its name
by-level : (shared level same : Bool) → ((shared || level) && same) ≡ false → level ≡ true → same ≡ false
by-level true true same e f = e
by-level false true same e f = e
by-level shared false same e f = cc

by-shared : (shared level same : Bool) → ((shared || level) && same) ≡ false → shared ≡ true → same ≡ false
by-shared true level same e f = e
by-shared false level same e f = cc

put-shared : (registers : Registers) (level : Vtl) (one other : Name) (value : ℕ) → is_shared one ≡ true → (is_shared other ≡ true → is_same one other ≡ false)
    → (b : Bool) → is_shared other ≡ b → cond b (get_or (slice_set registers.shared (shared_place one) value) (shared_place other) 0) (slice_index (private_of (record registers { shared = slice_set registers.shared (shared_place one) value }) level) (private_place other)) ≡ cond b (slice_index registers.shared (shared_place other)) (slice_index (private_of registers level) (private_place other))
put-shared registers level one other value shared apart true e = get_or-set_other registers.shared (shared_place one) (shared_place other) value 0 (shared-apart one other shared (apart e))
put-shared registers Zero one other value shared apart false e = refl
put-shared registers One one other value shared apart false e = refl

put-own : (registers : Registers) (at level : Vtl) (one other : Name) (value : ℕ) → is_shared one ≡ false → (is_level at level ≡ true → is_same one other ≡ false)
    → (b : Bool) → is_shared other ≡ b → cond b (slice_index (with_private registers at (slice_set (private_of registers at) (private_place one) value)).shared (shared_place other)) (slice_index (private_of (with_private registers at (slice_set (private_of registers at) (private_place one) value)) level) (private_place other)) ≡ cond b (slice_index registers.shared (shared_place other)) (slice_index (private_of registers level) (private_place other))
put-own registers Zero level one other value own apart true e = refl
put-own registers One level one other value own apart true e = refl
put-own registers Zero Zero one other value own apart false e = get_or-set_other registers.zero (private_place one) (private_place other) value 0 (private-apart one other own (apart refl))
put-own registers One One one other value own apart false e = get_or-set_other registers.one (private_place one) (private_place other) value 0 (private-apart one other own (apart refl))
put-own registers Zero One one other value own apart false e = refl
put-own registers One Zero one other value own apart false e = refl

put-by : (b : Bool) (registers : Registers) (at level : Vtl) (one other : Name) (value : ℕ) → is_shared one ≡ b → Untouched at level one other
    → get (cond b (record registers { shared = slice_set registers.shared (shared_place one) value }) (with_private registers at (slice_set (private_of registers at) (private_place one) value))) level other ≡ get registers level other
put-by true registers at level one other value shared apart = put-shared registers level one other value shared (by-shared (is_shared other) (is_level at level) (is_same one other) apart) (is_shared other) refl
put-by false registers at level one other value own apart = put-own registers at level one other value own (by-level (is_shared other) (is_level at level) (is_same one other) apart) (is_shared other) refl

pub put-keeps : (registers : Registers) (at level : Vtl) (one other : Name) (value : ℕ) → Untouched at level one other → get (put registers at one value) level other ≡ get registers level other
put-keeps registers at level one other value apart = put-by (is_shared one) registers at level one other value refl apart
