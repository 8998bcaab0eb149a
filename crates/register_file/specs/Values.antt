-- The values of a level's own registers.
use Rattle.std.specs.Prelude.{ℕ, List, [], ◌∷◌}
use Rattle.register_file.specs.declared.private_set.PrivateSet.{PrivateSet}

-- in the order of the registers' numbers
abbrev pub private_values : PrivateSet → List ℕ
private_values set =
    set.rsp ∷
    set.rip ∷
    set.rflags ∷
    set.cr0 ∷
    set.cr3 ∷
    set.cr4 ∷
    set.cr8 ∷
    set.dr7 ∷
    set.es ∷
    set.cs ∷
    set.ss ∷
    set.ds ∷
    set.fs ∷
    set.gs ∷
    set.ldtr ∷
    set.tr ∷
    set.idtr ∷
    set.gdtr ∷
    set.efer ∷
    set.kernel_gs_base ∷
    set.pat ∷
    set.sysenter_cs ∷
    set.sysenter_eip ∷
    set.sysenter_esp ∷
    set.star ∷
    set.lstar ∷
    set.cstar ∷
    set.sfmask ∷
    set.vp_assist_page ∷
    set.sint0 ∷
    set.scontrol ∷
    set.simp ∷ []
