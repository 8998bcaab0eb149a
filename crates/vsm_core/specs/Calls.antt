-- Hypercalls: the calls there are, what the input value says, the result value, and the parts of the input page (TLFS, Hypercall Interface).
use Rattle.std.specs.Prelude.{ℕ, ◌+◌, ◌*◌, ◌/◌, ◌%◌, ◌^◌, ◌==◌, ◌&&◌, Bool, true, false, not, if◌then◌else◌, nat_lt, Option, Some, None, Result, Ok, Err, List, [], ◌∷◌, find, slice_range}
use Rattle.std.specs.List.{list_any}
use Rattle.vsm_base.specs.declared.status.HvStatus.{HvStatus}
use Rattle.vsm_base.specs.declared.status.TheConstants.HvStatus as statuses

-- a call: its code, whether it goes on element by element, whether its input may stand in registers, how many bytes its header and each element have, how many bytes of each element are read, and how many bytes the output of each element has
pub record Row : Type 0 where
  pub code : ℕ
  pub is_rep : Bool
  pub may_be_fast : Bool
  pub header : ℕ
  pub element : ℕ
  pub read : ℕ
  pub output : ℕ

-- the calls there are: FlushVirtualAddressSpace, FlushVirtualAddressList, whose elements aren't read, SendSyntheticClusterIpi, ModifyVtlProtectionMask, EnablePartitionVtl, EnableVpVtl, GetVpRegisters, SetVpRegisters and StartVirtualProcessor
unfoldable pub rows : List Row
rows =
    record { code = 0x0002; is_rep = false; may_be_fast = false; header = 24; element = 0; read = 0; output = 0 } ∷
    record { code = 0x0003; is_rep = true; may_be_fast = false; header = 24; element = 8; read = 0; output = 0 } ∷
    record { code = 0x000B; is_rep = false; may_be_fast = true; header = 16; element = 0; read = 0; output = 0 } ∷
    record { code = 0x000C; is_rep = true; may_be_fast = false; header = 16; element = 8; read = 8; output = 0 } ∷
    record { code = 0x000D; is_rep = false; may_be_fast = true; header = 16; element = 0; read = 0; output = 0 } ∷
    record { code = 0x000F; is_rep = false; may_be_fast = false; header = 240; element = 0; read = 0; output = 0 } ∷
    record { code = 0x0050; is_rep = true; may_be_fast = false; header = 16; element = 4; read = 4; output = 16 } ∷
    record { code = 0x0051; is_rep = true; may_be_fast = false; header = 16; element = 32; read = 32; output = 0 } ∷
    record { code = 0x0099; is_rep = false; may_be_fast = false; header = 240; element = 0; read = 0; output = 0 } ∷ []

-- the call of a code
unfoldable pub row_of : ℕ → Option Row
row_of code = find (λ row. row.code == code) rows

-- the fields of an input value
abbrev pub code_in : ℕ → ℕ
code_in value = value % 2 ^ 16

abbrev pub is_fast : ℕ → Bool
is_fast value = value / 2 ^ 16 % 2 == 1

abbrev pub header_size_in : ℕ → ℕ
header_size_in value = value / 2 ^ 17 % 2 ^ 10

abbrev pub bits_31_to_27 : ℕ → ℕ
bits_31_to_27 value = value / 2 ^ 27 % 2 ^ 5

abbrev pub count_in : ℕ → ℕ
count_in value = value / 2 ^ 32 % 2 ^ 12

abbrev pub bits_47_to_44 : ℕ → ℕ
bits_47_to_44 value = value / 2 ^ 44 % 2 ^ 4

abbrev pub start_in : ℕ → ℕ
start_in value = value / 2 ^ 48 % 2 ^ 12

abbrev pub bits_63_to_60 : ℕ → ℕ
bits_63_to_60 value = value / 2 ^ 60 % 2 ^ 4

-- what an input value asks for: a call, whether its input stands in registers, how many elements there are, and the first that isn't done
pub record Control : Type 0 where
  pub code : ℕ
  pub fast : Bool
  pub count : ℕ
  pub start : ℕ

abbrev pub control_in : ℕ → Control
control_in value = record { code = code_in value; fast = is_fast value; count = count_in value; start = start_in value }

-- a status, and whether it is what a call is refused with
pub record Check : Type 0 where
  pub status : HvStatus
  pub fails : Bool

abbrev pub check : HvStatus → Bool → Check
check status fails = record { status = status; fails = fails }

-- the status of the first check that fails
abbrev pub first_failed : List Check → Option HvStatus
first_failed [] = None
first_failed (c ∷ checks) = if c.fails then Some c.status else first_failed checks

-- a value, where no check fails
abbrev pub unless : {A : Type 0} → Option HvStatus → A → Result A HvStatus
unless None a = Ok a
unless (Some status) a = Err status

-- the checks of an input value whose code is this call's
unfoldable pub form_checks : Row → ℕ → List Check
form_checks row value =
    check statuses.INVALID_HYPERCALL_INPUT (not (header_size_in value == 0)) ∷
    check statuses.INVALID_HYPERCALL_INPUT (not (bits_31_to_27 value == 0)) ∷
    check statuses.INVALID_HYPERCALL_INPUT (not (bits_47_to_44 value == 0)) ∷
    check statuses.INVALID_HYPERCALL_INPUT (not (bits_63_to_60 value == 0)) ∷
    check statuses.INVALID_HYPERCALL_INPUT (is_fast value && not row.may_be_fast) ∷
    check statuses.INVALID_HYPERCALL_INPUT (not row.is_rep && not (count_in value == 0)) ∷
    check statuses.INVALID_HYPERCALL_INPUT (not row.is_rep && not (start_in value == 0)) ∷
    check statuses.INVALID_HYPERCALL_INPUT (row.is_rep && (count_in value == 0)) ∷
    check statuses.INVALID_HYPERCALL_INPUT (row.is_rep && not (nat_lt (start_in value) (count_in value))) ∷ []

-- one of them fails
abbrev pub is_malformed : Row → ℕ → Bool
is_malformed row value = list_any (λ c. c.fails) (form_checks row value)

-- the checks of an input value, by the call of its code, if there is one
abbrev pub checks : Option Row → ℕ → List Check
checks None value = check statuses.INVALID_HYPERCALL_CODE true ∷ []
checks (Some row) value = check statuses.INVALID_HYPERCALL_CODE false ∷ form_checks row value

-- an input value is read
abbrev pub read : ℕ → Result Control HvStatus
read value = unless (first_failed (checks (row_of (code_in value)) value)) (control_in value)

-- the result value of a status and of how many elements are done
abbrev pub result_value : HvStatus → ℕ → ℕ
result_value status done = status.0 + 2 ^ 32 * done

abbrev pub status_in : ℕ → ℕ
status_in value = value % 2 ^ 16

abbrev pub done_in : ℕ → ℕ
done_in value = value / 2 ^ 32 % 2 ^ 12

-- the checks of a part of the input page, by where the input begins and where the part ends
abbrev pub part_checks : (offset end : ℕ) → List Check
part_checks offset end =
    check statuses.INVALID_ALIGNMENT (not (offset % 8 == 0)) ∷
    check statuses.INVALID_HYPERCALL_INPUT (nat_lt 4096 end) ∷ []

-- so many bytes of a page from a place on, as a part of an input that begins at this offset
abbrev pub part_at : (page : List ℕ) → (offset first size : ℕ) → Result (List ℕ) HvStatus
part_at page offset first size = unless (first_failed (part_checks offset (first + size))) (slice_range page first (first + size))

-- the header of an input, and an element of it behind a header
abbrev pub header_at : (page : List ℕ) → (offset size : ℕ) → Result (List ℕ) HvStatus
header_at page offset size = part_at page offset offset size

abbrev pub element_at : (page : List ℕ) → (offset header index size : ℕ) → Result (List ℕ) HvStatus
element_at page offset header index size = part_at page offset (offset + header + index * size) size
