-- Calls and input values, as the definitions have them.
use Rattle.std.specs.Prelude.{ℕ, Bool, true, false, not, ◌||◌, ◌==◌, List, [], ◌∷◌}
use Rattle.vsm_base.specs.declared.places.Vtl.{Vtl}
use Rattle.vsm_base.specs.declared.status.TheConstants.HvStatus as statuses
use Rattle.vsm_core.specs.declared.register.CallRegister.{CallRegister}
use Rattle.vsm_core.specs.RegisterCalls.{Setting as Assoc, is_read_alone, is_own_rip, takes_value}
use Rattle.vsm_core.specs.Calls.{Row, Check, check, Control as Asked, header_size_in, bits_31_to_27, bits_47_to_44, bits_63_to_60}
use Rattle.hyper_abi.specs.declared.form.Call.{Call}
use Rattle.hyper_abi.specs.declared.form.Call.TheVariants.{FlushVirtualAddressSpace, FlushVirtualAddressList, SendSyntheticClusterIpi, ModifyVtlProtectionMask, EnablePartitionVtl, EnableVpVtl, GetVpRegisters, SetVpRegisters, StartVirtualProcessor}
use Rattle.hyper_abi.specs.declared.form.CallForm.{CallForm}
use Rattle.hyper_abi.specs.declared.control.Control.{Control}
use Rattle.hyper_abi.specs.declared.registers.Setting.{Setting}

abbrev pub row_from : CallForm → Row
row_from form = record { code = form.code; is_rep = form.rep; may_be_fast = form.fast; header = form.header; element = form.element; read = form.read; output = form.output }

abbrev pub row_for : Call → Row
row_for FlushVirtualAddressSpace = record { code = 0x0002; is_rep = false; may_be_fast = false; header = 24; element = 0; read = 0; output = 0 }
row_for FlushVirtualAddressList = record { code = 0x0003; is_rep = true; may_be_fast = false; header = 24; element = 8; read = 0; output = 0 }
row_for SendSyntheticClusterIpi = record { code = 0x000B; is_rep = false; may_be_fast = true; header = 16; element = 0; read = 0; output = 0 }
row_for ModifyVtlProtectionMask = record { code = 0x000C; is_rep = true; may_be_fast = false; header = 16; element = 8; read = 8; output = 0 }
row_for EnablePartitionVtl = record { code = 0x000D; is_rep = false; may_be_fast = true; header = 16; element = 0; read = 0; output = 0 }
row_for EnableVpVtl = record { code = 0x000F; is_rep = false; may_be_fast = false; header = 240; element = 0; read = 0; output = 0 }
row_for GetVpRegisters = record { code = 0x0050; is_rep = true; may_be_fast = false; header = 16; element = 4; read = 4; output = 16 }
row_for SetVpRegisters = record { code = 0x0051; is_rep = true; may_be_fast = false; header = 16; element = 32; read = 32; output = 0 }
row_for StartVirtualProcessor = record { code = 0x0099; is_rep = false; may_be_fast = false; header = 240; element = 0; read = 0; output = 0 }

abbrev pub control_from : Control → Asked
control_from control = record { code = control.code; fast = control.fast; count = control.count; start = control.start }

-- a bit is set that must be zero whatever the call
abbrev pub stray_bits : ℕ → Bool
stray_bits value = not (header_size_in value == 0) || not (bits_31_to_27 value == 0) || not (bits_47_to_44 value == 0) || not (bits_63_to_60 value == 0)

abbrev pub setting_from : Setting → Assoc
setting_from setting = record { number = setting.number; padded = setting.padded; value = setting.value }

-- the checks of an element that sets this register, which may be named
abbrev pub value_checks : (caller target : Vtl) → Assoc → CallRegister → List Check
value_checks caller target s register =
    check statuses.INVALID_PARAMETER (not s.padded) ∷
    check statuses.INVALID_PARAMETER (is_read_alone register) ∷
    check statuses.INVALID_PARAMETER (is_own_rip caller target register) ∷
    check statuses.INVALID_REGISTER_VALUE (not (takes_value s.value register)) ∷ []
