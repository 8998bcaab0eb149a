-- The words that lines are made of.
use Rattle.std.specs.Prelude.{ℕ, Bool, true, false, List, if◌then◌else◌, Option, Some, None, codes}
use Rattle.std.specs.Fmt.{decimal}
use Rattle.vsm_base.specs.declared.places.Access.{Access}
use Rattle.vsm_base.specs.declared.places.Access.TheVariants.{Read, Write, Execute}
use Rattle.vsm_base.specs.declared.name.Name.{Name}
use Rattle.vsm_base.specs.declared.name.Name.TheVariants as names
use Rattle.vsm_core.specs.declared.mark.EomWord.{EomWord}
use Rattle.vsm_core.specs.declared.mark.EomWord.TheVariants as eoms
use Rattle.vsm_core.specs.declared.mark.GuestFault.{GuestFault}
use Rattle.vsm_core.specs.declared.mark.GuestFault.TheVariants as faults
use Rattle.vsm_core.specs.declared.mark.Posted.{Posted}
use Rattle.vsm_core.specs.declared.mark.Posted.TheVariants as posted
use Rattle.vsm_core.specs.declared.operation.Op.{Op}
use Rattle.vsm_core.specs.declared.operation.Op.TheVariants as ops
use Rattle.vsm_report.specs.Pieces.{hex_digits}

-- the word of an operation
abbrev pub op_word : Op → List ℕ
op_word (ops.Set name value) = codes "set"
op_word (ops.Get name) = codes "get"
op_word (ops.Load name gva) = codes "load"
op_word (ops.Store gva operand) = codes "store"
op_word (ops.Exec gva) = codes "exec"
op_word (ops.Spin gva value) = codes "spin"
op_word (ops.Jump to) = codes "jump"
op_word (ops.JumpNe name value to) = codes "jumpne"
op_word (ops.Invlpg gva) = codes "invlpg"
op_word ops.Hypercall = codes "hypercall"
op_word ops.VtlCall = codes "vtlcall"
op_word ops.VtlReturn = codes "vtlreturn"
op_word ops.Poll = codes "poll"
op_word (ops.Ack name) = codes "ack"
op_word ops.Eoi = codes "eoi"
op_word ops.Eom = codes "eom"

-- the word of an access
abbrev pub access_word : Access → List ℕ
access_word Read = codes "read"
access_word Write = codes "write"
access_word Execute = codes "execute"

-- where the note of an intercept went
abbrev pub posted_word : Posted → List ℕ
posted_word posted.Slot = codes "slot"
posted_word posted.Waiting = codes "waiting"
posted_word posted.Held = codes "held"

-- what an end of message did
abbrev pub eom_word : EomWord → List ℕ
eom_word eoms.Nothing = codes "none"
eom_word eoms.Slot = codes "slot"
eom_word eoms.Waiting = codes "waiting"

-- the word of a guest fault
abbrev pub fault_word : GuestFault → List ℕ
fault_word faults.Align = codes "align"
fault_word faults.Noncanonical = codes "noncanonical"
fault_word faults.Unmapped = codes "unmapped"
fault_word faults.Page = codes "page"
fault_word faults.Undefined = codes "undefined"
fault_word faults.Gp = codes "gp"

-- the mask that allowed an access, or a dash where none did
abbrev pub mask_word : Option ℕ → List ℕ
mask_word None = codes "-"
mask_word (Some mask) = decimal mask

-- the registers of 128 bits
abbrev pub is_wide : Name → Bool
is_wide names.Es = true
is_wide names.Cs = true
is_wide names.Ss = true
is_wide names.Ds = true
is_wide names.Fs = true
is_wide names.Gs = true
is_wide names.Ldtr = true
is_wide names.Tr = true
is_wide names.Idtr = true
is_wide names.Gdtr = true
is_wide _ = false

-- the digits of a register's value
abbrev pub value_word : Name → ℕ → List ℕ
value_word name value = if is_wide name then hex_digits 32 value else hex_digits 16 value
