-- What refuses a call, by its input value and then by the place of its input.
use Rattle.std.proofs.Common.{◌≡◌, ◌&&◌, ◌+◌, ◌*◌, ◌/◌, ◌<◌, ◌≤◌, nat_lt, arith, ℕ, Bool, true, false, not, cond, Option, Some, None, [], Ok, Err, refl}
use Rattle.vsm_base.specs.declared.status.HvStatus.{HvStatus}
use Rattle.vsm_core.specs.Calls.{Row, Control, first_failed, form_checks, checks, unless, read, row_of, code_in, count_in, start_in, control_in, is_fast}
use Rattle.vsm_core.specs.Hypercalls.{input_refusal, place_checks}
use Rattle.vsm_core.specs.Reps.{slice_past, first_word, words_between}
use Rattle.hyper_abi.specs.declared.form.Call.{Call}
use Rattle.hyper_abi.specs.declared.form.Call.TheVariants.{FlushVirtualAddressSpace, FlushVirtualAddressList, SendSyntheticClusterIpi, ModifyVtlProtectionMask, EnablePartitionVtl, EnableVpVtl, GetVpRegisters, SetVpRegisters, StartVirtualProcessor}
use Rattle.hyper_abi.specs.Told.{row_for}
use Rattle.vsm_core.proofs.Checks.{none-fails, first-some, first-none}

unless-err : (o : Option HvStatus) (c : Control) (status : HvStatus) → unless o c ≡ Err status → o ≡ Some status
unless-err None c status e = cc
unless-err (Some other) c status e = cc

unless-ok : (o : Option HvStatus) (c d : Control) → unless o c ≡ Ok d → o ≡ None
unless-ok None c d e = refl
unless-ok (Some other) c d e = cc

by_value : (pages : ℕ) (row : Option Row) (value address output : ℕ) (status : HvStatus) → first_failed (checks row value) ≡ Some status → input_refusal pages row value address output ≡ Some status
by_value pages None value address output status e = e
by_value pages (Some row) value address output status e = first-some (form_checks row value) (cond (is_fast value) [] (place_checks pages row value address output)) status e

-- an input value that is refused refuses the call
pub refused-value : (pages value address output : ℕ) (status : HvStatus) → read value ≡ Err status → input_refusal pages (row_of (code_in value)) value address output ≡ Some status
refused-value pages value address output status e =
    by_value pages (row_of (code_in value)) value address output status (unless-err (first_failed (checks (row_of (code_in value)) value)) (control_in value) status e)

well-formed : (value : ℕ) (row : Row) (d : Control) → row_of (code_in value) ≡ Some row → read value ≡ Ok d → first_failed (form_checks row value) ≡ None
well-formed value row d at e = let none = unless-ok (first_failed (checks (row_of (code_in value)) value)) (control_in value) d e in rw at at none

-- a fast call has no more checks
pub fine-fast : (pages value address output : ℕ) (row : Row) (d : Control) → row_of (code_in value) ≡ Some row → read value ≡ Ok d → is_fast value ≡ true → input_refusal pages (row_of (code_in value)) value address output ≡ None
fine-fast pages value address output row d at e fast = rw (at, fast) (first-none (form_checks row value) [] (well-formed value row d at e))

-- and any other those of the place of its input
pub by_place : (pages value address output : ℕ) (row : Row) (d : Control) → row_of (code_in value) ≡ Some row → read value ≡ Ok d → is_fast value ≡ false → input_refusal pages (row_of (code_in value)) value address output ≡ first_failed (place_checks pages row value address output)
by_place pages value address output row d at e slow = rw (at, slow) (first-none (form_checks row value) (place_checks pages row value address output) (well-formed value row d at e))

allowed : (a b : Bool) → (a && not b) ≡ false → a ≡ true → b ≡ true
allowed a true h e = refl
allowed true false h e = cc
allowed false false h e = cc

-- a fast call may be one
pub may_be-fast : (value : ℕ) (row : Row) (d : Control) → row_of (code_in value) ≡ Some row → read value ≡ Ok d → is_fast value ≡ true → row.may_be_fast ≡ true
unfolding form_checks
may_be-fast value row d at e fast = allowed (is_fast value) row.may_be_fast (none-fails (form_checks row value) (well-formed value row d at e)).1.1.1.1.0 fast

-- a rep call begins below its count
pub begins-below : (value : ℕ) (row : Row) (d : Control) → row_of (code_in value) ≡ Some row → read value ≡ Ok d → row.is_rep ≡ true → start_in value < count_in value
unfolding form_checks
begins-below value row d at e rep =
    let below : nat_lt (start_in value) (count_in value) ≡ true = allowed row.is_rep (nat_lt (start_in value) (count_in value)) (none-fails (form_checks row value) (well-formed value row d at e)).1.1.1.1.1.1.1.1.0 rep in
    grind arith

past-within : (start count : ℕ) → start ≤ count → slice_past start count ≤ count
past-within start count h = grind arith

past-behind : (start count : ℕ) → start ≤ count → start ≤ slice_past start count
past-behind start count h = grind arith

-- the words of a slice stand where all elements do
pub slice-within : (call : Call) (offset start count : ℕ) → ((row_for call).is_rep ≡ true → start < count) → offset + (row_for call).header + (row_for call).element * count ≤ 4096 → offset / 8 + (row_for call).header / 8 + first_word (row_for call).read start + words_between (row_for call).read start (slice_past start count) ≤ 512
slice-within FlushVirtualAddressSpace offset start count below h = omega arith
slice-within FlushVirtualAddressList offset start count below h = omega arith
slice-within SendSyntheticClusterIpi offset start count below h = omega arith
slice-within ModifyVtlProtectionMask offset start count below h =
    let start-below : start < count = below refl in
    let within = past-within start count (omega arith) in
    let behind = past-behind start count (omega arith) in
    omega arith
slice-within EnablePartitionVtl offset start count below h = omega arith
slice-within EnableVpVtl offset start count below h = omega arith
slice-within GetVpRegisters offset start count below h =
    let start-below : start < count = below refl in
    let within = past-within start count (omega arith) in
    let behind = past-behind start count (omega arith) in
    omega arith
slice-within SetVpRegisters offset start count below h =
    let start-below : start < count = below refl in
    let within = past-within start count (omega arith) in
    let behind = past-behind start count (omega arith) in
    omega arith
slice-within StartVirtualProcessor offset start count below h = omega arith
