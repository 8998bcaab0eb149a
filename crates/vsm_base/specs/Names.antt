-- The registers that a processor keeps: number, scope and spelling.
use Rattle.std.specs.Prelude.{ℕ, ◌==◌, Bool, true, false, List, [], ◌∷◌, codes, Option, find}
use Rattle.std.specs.Str.{bytes_eq}
use Rattle.vsm_base.specs.declared.name.Name.{Name}
use Rattle.vsm_base.specs.declared.name.Name.TheVariants as names

-- the registers, in the order of their numbers
unfoldable pub all_names : List Name
all_names =
    names.Rax ∷
    names.Rcx ∷
    names.Rdx ∷
    names.Rbx ∷
    names.Rsp ∷
    names.Rbp ∷
    names.Rsi ∷
    names.Rdi ∷
    names.R8 ∷
    names.R9 ∷
    names.R10 ∷
    names.R11 ∷
    names.R12 ∷
    names.R13 ∷
    names.R14 ∷
    names.R15 ∷
    names.Rip ∷
    names.Rflags ∷
    names.Cr0 ∷
    names.Cr2 ∷
    names.Cr3 ∷
    names.Cr4 ∷
    names.Cr8 ∷
    names.Dr0 ∷
    names.Dr1 ∷
    names.Dr2 ∷
    names.Dr3 ∷
    names.Dr6 ∷
    names.Dr7 ∷
    names.Es ∷
    names.Cs ∷
    names.Ss ∷
    names.Ds ∷
    names.Fs ∷
    names.Gs ∷
    names.Ldtr ∷
    names.Tr ∷
    names.Idtr ∷
    names.Gdtr ∷
    names.Efer ∷
    names.KernelGsBase ∷
    names.Pat ∷
    names.SysenterCs ∷
    names.SysenterEip ∷
    names.SysenterEsp ∷
    names.Star ∷
    names.Lstar ∷
    names.Cstar ∷
    names.Sfmask ∷
    names.VpAssistPage ∷
    names.Sint0 ∷
    names.Scontrol ∷
    names.Simp ∷
    names.CrInterceptControl ∷
    names.CrInterceptCr0Mask ∷
    names.CrInterceptCr4Mask ∷ []

abbrev pub number_of : Name → ℕ
number_of names.Rax = 0x0002_0000
number_of names.Rcx = 0x0002_0001
number_of names.Rdx = 0x0002_0002
number_of names.Rbx = 0x0002_0003
number_of names.Rsp = 0x0002_0004
number_of names.Rbp = 0x0002_0005
number_of names.Rsi = 0x0002_0006
number_of names.Rdi = 0x0002_0007
number_of names.R8 = 0x0002_0008
number_of names.R9 = 0x0002_0009
number_of names.R10 = 0x0002_000A
number_of names.R11 = 0x0002_000B
number_of names.R12 = 0x0002_000C
number_of names.R13 = 0x0002_000D
number_of names.R14 = 0x0002_000E
number_of names.R15 = 0x0002_000F
number_of names.Rip = 0x0002_0010
number_of names.Rflags = 0x0002_0011
number_of names.Cr0 = 0x0004_0000
number_of names.Cr2 = 0x0004_0001
number_of names.Cr3 = 0x0004_0002
number_of names.Cr4 = 0x0004_0003
number_of names.Cr8 = 0x0004_0004
number_of names.Dr0 = 0x0005_0000
number_of names.Dr1 = 0x0005_0001
number_of names.Dr2 = 0x0005_0002
number_of names.Dr3 = 0x0005_0003
number_of names.Dr6 = 0x0005_0004
number_of names.Dr7 = 0x0005_0005
number_of names.Es = 0x0006_0000
number_of names.Cs = 0x0006_0001
number_of names.Ss = 0x0006_0002
number_of names.Ds = 0x0006_0003
number_of names.Fs = 0x0006_0004
number_of names.Gs = 0x0006_0005
number_of names.Ldtr = 0x0006_0006
number_of names.Tr = 0x0006_0007
number_of names.Idtr = 0x0007_0000
number_of names.Gdtr = 0x0007_0001
number_of names.Efer = 0x0008_0001
number_of names.KernelGsBase = 0x0008_0002
number_of names.Pat = 0x0008_0004
number_of names.SysenterCs = 0x0008_0005
number_of names.SysenterEip = 0x0008_0006
number_of names.SysenterEsp = 0x0008_0007
number_of names.Star = 0x0008_0008
number_of names.Lstar = 0x0008_0009
number_of names.Cstar = 0x0008_000A
number_of names.Sfmask = 0x0008_000B
number_of names.VpAssistPage = 0x0009_0013
number_of names.Sint0 = 0x000A_0000
number_of names.Scontrol = 0x000A_0010
number_of names.Simp = 0x000A_0013
number_of names.CrInterceptControl = 0x000E_0000
number_of names.CrInterceptCr0Mask = 0x000E_0001
number_of names.CrInterceptCr4Mask = 0x000E_0002

-- the levels have it as one
abbrev pub is_shared : Name → Bool
is_shared names.Rax = true
is_shared names.Rcx = true
is_shared names.Rdx = true
is_shared names.Rbx = true
is_shared names.Rbp = true
is_shared names.Rsi = true
is_shared names.Rdi = true
is_shared names.R8 = true
is_shared names.R9 = true
is_shared names.R10 = true
is_shared names.R11 = true
is_shared names.R12 = true
is_shared names.R13 = true
is_shared names.R14 = true
is_shared names.R15 = true
is_shared names.Cr2 = true
is_shared names.Dr0 = true
is_shared names.Dr1 = true
is_shared names.Dr2 = true
is_shared names.Dr3 = true
is_shared names.Dr6 = true
is_shared names.CrInterceptControl = true
is_shared names.CrInterceptCr0Mask = true
is_shared names.CrInterceptCr4Mask = true
is_shared _ = false

-- the general registers; the stack pointer is not among them
abbrev pub is_general : Name → Bool
is_general names.Rax = true
is_general names.Rcx = true
is_general names.Rdx = true
is_general names.Rbx = true
is_general names.Rbp = true
is_general names.Rsi = true
is_general names.Rdi = true
is_general names.R8 = true
is_general names.R9 = true
is_general names.R10 = true
is_general names.R11 = true
is_general names.R12 = true
is_general names.R13 = true
is_general names.R14 = true
is_general names.R15 = true
is_general _ = false

abbrev pub spelling : Name → List ℕ
spelling names.Rax = codes "Rax"
spelling names.Rcx = codes "Rcx"
spelling names.Rdx = codes "Rdx"
spelling names.Rbx = codes "Rbx"
spelling names.Rsp = codes "Rsp"
spelling names.Rbp = codes "Rbp"
spelling names.Rsi = codes "Rsi"
spelling names.Rdi = codes "Rdi"
spelling names.R8 = codes "R8"
spelling names.R9 = codes "R9"
spelling names.R10 = codes "R10"
spelling names.R11 = codes "R11"
spelling names.R12 = codes "R12"
spelling names.R13 = codes "R13"
spelling names.R14 = codes "R14"
spelling names.R15 = codes "R15"
spelling names.Rip = codes "Rip"
spelling names.Rflags = codes "Rflags"
spelling names.Cr0 = codes "Cr0"
spelling names.Cr2 = codes "Cr2"
spelling names.Cr3 = codes "Cr3"
spelling names.Cr4 = codes "Cr4"
spelling names.Cr8 = codes "Cr8"
spelling names.Dr0 = codes "Dr0"
spelling names.Dr1 = codes "Dr1"
spelling names.Dr2 = codes "Dr2"
spelling names.Dr3 = codes "Dr3"
spelling names.Dr6 = codes "Dr6"
spelling names.Dr7 = codes "Dr7"
spelling names.Es = codes "Es"
spelling names.Cs = codes "Cs"
spelling names.Ss = codes "Ss"
spelling names.Ds = codes "Ds"
spelling names.Fs = codes "Fs"
spelling names.Gs = codes "Gs"
spelling names.Ldtr = codes "Ldtr"
spelling names.Tr = codes "Tr"
spelling names.Idtr = codes "Idtr"
spelling names.Gdtr = codes "Gdtr"
spelling names.Efer = codes "Efer"
spelling names.KernelGsBase = codes "KernelGsBase"
spelling names.Pat = codes "Pat"
spelling names.SysenterCs = codes "SysenterCs"
spelling names.SysenterEip = codes "SysenterEip"
spelling names.SysenterEsp = codes "SysenterEsp"
spelling names.Star = codes "Star"
spelling names.Lstar = codes "Lstar"
spelling names.Cstar = codes "Cstar"
spelling names.Sfmask = codes "Sfmask"
spelling names.VpAssistPage = codes "VpAssistPage"
spelling names.Sint0 = codes "Sint0"
spelling names.Scontrol = codes "Scontrol"
spelling names.Simp = codes "Simp"
spelling names.CrInterceptControl = codes "CrInterceptControl"
spelling names.CrInterceptCr0Mask = codes "CrInterceptCr0Mask"
spelling names.CrInterceptCr4Mask = codes "CrInterceptCr4Mask"

abbrev pub is_spelled : List ℕ → Name → Bool
is_spelled word name = bytes_eq (spelling name) word

-- the register that a word spells
unfoldable pub named_by : List ℕ → Option Name
named_by word = find (is_spelled word) all_names

-- the register of a number
unfoldable pub numbered : ℕ → Option Name
numbered number = find (λ name. number_of name == number) all_names
