-- What is kept at each operation of a script that is read.
use Rattle.std.proofs.Common.{◌≡◌, ◌^◌, length, nat_lt, Ok, refl, sym, subst, length-set}
use Rattle.vsm_core.specs.declared.operation.Op.{Op}
use Rattle.vsm_core.specs.declared.operation.Op.TheVariants as ops
use Rattle.guest_script.specs.Fields.{Words, any_number, number, register, named_register, operand, no_more}
use Rattle.guest_script.specs.Line.{with_op, with_op_at, set_line, get_line, load_line, store_line, exec_line, spin_line, jump_line, jump_ne_line, hypercall_line, vtl_call_line, vtl_return_line, poll_line, ack_line, eoi_line, eom_line}
use Rattle.guest_script.specs.Programs.{operations, program_at, with_operation, added}
use Rattle.guest_script.specs.Sound.{script_of}
use Rattle.guest_script.specs.declared.keyword.Stage.{Stage}
use Rattle.guest_script.specs.declared.keyword.Stage.TheVariants as stages
use Rattle.guest_script.specs.declared.reading.Reading.{Reading}
use Rattle.guest_script.specs.declared.script.Why.TheVariants.{TooMany}
use Rattle.guest_script.proofs.FieldsSaid.{bound, passed, less, number_between, any_number_below, register_ok, named_register_ok, operand_ok}
use Rattle.guest_script.proofs.LinesSaid.{IsEarly, IsKept, with_others}
use Rattle.guest_script.proofs.OneMore.{added_are}
use Rattle.guest_script.proofs.Printable.{CanSay}

-- an operation at this stage
op_at_kept : (s : Stage) (r r' : Reading) (op : Op) → with_op_at s r op ≡ Ok r' → r.stage ≡ s → CanSay op → IsKept r → IsKept r'
op_at_kept (stages.Program vp level) r r' op e at can k =
    let made : Reading = record r { programs = added r.programs vp level op } in
    let u = passed (nat_lt (length (operations (program_at r.programs vp) level)) 4096) made r' TooMany e in
    let few = less (length (operations (program_at r.programs vp) level)) 4096 u.0 in
    let p = k.printable in
    let same = length-set r.programs vp (with_operation (program_at r.programs vp) level op) in
    let within = with_others (script_of r) r.masks r.words (added r.programs vp level op) same p.within in
    let programs = added_are r.programs vp level op p.programs few can in
    let is : IsKept made = record { printable = record { within = within; masks = p.masks; words = p.words; programs = programs; schedule = p.schedule }; early = subst (λ s. IsEarly s made) (sym at) tt } in
    subst IsKept u.1 is
op_at_kept _ r r' op e at can k = cc

op_kept : (r r' : Reading) (op : Op) → with_op r op ≡ Ok r' → CanSay op → IsKept r → IsKept r'
op_kept r r' op e can k = op_at_kept r.stage r r' op e refl can k

-- set NAME V
pub set_kept : (r r' : Reading) (ws : Words) → set_line r ws ≡ Ok r' → IsKept r → IsKept r'
unfolding set_line
set_kept r r' ws e k =
    let a = bound (named_register ws) _ r' e in
    let b = bound (any_number a.value.1) _ r' a.rest in
    let c = bound (no_more b.value.1) _ r' b.rest in
    op_kept r r' (ops.Set a.value.0 b.value.0) c.rest (named_register_ok ws a.value a.came, any_number_below a.value.1 b.value b.came) k

-- get NAME
pub get_kept : (r r' : Reading) (ws : Words) → get_line r ws ≡ Ok r' → IsKept r → IsKept r'
unfolding get_line
get_kept r r' ws e k =
    let a = bound (named_register ws) _ r' e in
    let b = bound (no_more a.value.1) _ r' a.rest in
    op_kept r r' (ops.Get a.value.0) b.rest (named_register_ok ws a.value a.came) k

-- load REG GVA
pub load_kept : (r r' : Reading) (ws : Words) → load_line r ws ≡ Ok r' → IsKept r → IsKept r'
unfolding load_line
load_kept r r' ws e k =
    let a = bound (register ws) _ r' e in
    let b = bound (number 0 (2 ^ 64) a.value.1) _ r' a.rest in
    let c = bound (no_more b.value.1) _ r' b.rest in
    op_kept r r' (ops.Load a.value.0 (record { 0 = b.value.0 })) c.rest (register_ok ws a.value a.came, (number_between 0 (2 ^ 64) a.value.1 b.value b.came).1) k

-- store GVA V or store GVA REG
pub store_kept : (r r' : Reading) (ws : Words) → store_line r ws ≡ Ok r' → IsKept r → IsKept r'
unfolding store_line
store_kept r r' ws e k =
    let a = bound (number 0 (2 ^ 64) ws) _ r' e in
    let b = bound (operand a.value.1) _ r' a.rest in
    let c = bound (no_more b.value.1) _ r' b.rest in
    op_kept r r' (ops.Store (record { 0 = a.value.0 }) b.value.0) c.rest ((number_between 0 (2 ^ 64) ws a.value a.came).1, operand_ok a.value.1 b.value b.came) k

-- exec GVA
pub exec_kept : (r r' : Reading) (ws : Words) → exec_line r ws ≡ Ok r' → IsKept r → IsKept r'
unfolding exec_line
exec_kept r r' ws e k =
    let a = bound (number 0 (2 ^ 64) ws) _ r' e in
    let b = bound (no_more a.value.1) _ r' a.rest in
    op_kept r r' (ops.Exec (record { 0 = a.value.0 })) b.rest (number_between 0 (2 ^ 64) ws a.value a.came).1 k

-- spin GVA V
pub spin_kept : (r r' : Reading) (ws : Words) → spin_line r ws ≡ Ok r' → IsKept r → IsKept r'
unfolding spin_line
spin_kept r r' ws e k =
    let a = bound (number 0 (2 ^ 64) ws) _ r' e in
    let b = bound (number 0 (2 ^ 64) a.value.1) _ r' a.rest in
    let c = bound (no_more b.value.1) _ r' b.rest in
    let address = number_between 0 (2 ^ 64) ws a.value a.came in
    let value = number_between 0 (2 ^ 64) a.value.1 b.value b.came in
    op_kept r r' (ops.Spin (record { 0 = a.value.0 }) b.value.0) c.rest (address.1, value.1) k

-- jump N
pub jump_kept : (r r' : Reading) (ws : Words) → jump_line r ws ≡ Ok r' → IsKept r → IsKept r'
unfolding jump_line
jump_kept r r' ws e k =
    let a = bound (number 0 (2 ^ 64) ws) _ r' e in
    let b = bound (no_more a.value.1) _ r' a.rest in
    op_kept r r' (ops.Jump a.value.0) b.rest (number_between 0 (2 ^ 64) ws a.value a.came).1 k

-- jumpne REG V N
pub jump_ne_kept : (r r' : Reading) (ws : Words) → jump_ne_line r ws ≡ Ok r' → IsKept r → IsKept r'
unfolding jump_ne_line
jump_ne_kept r r' ws e k =
    let a = bound (register ws) _ r' e in
    let b = bound (number 0 (2 ^ 64) a.value.1) _ r' a.rest in
    let c = bound (number 0 (2 ^ 64) b.value.1) _ r' b.rest in
    let d = bound (no_more c.value.1) _ r' c.rest in
    let value = number_between 0 (2 ^ 64) a.value.1 b.value b.came in
    let target = number_between 0 (2 ^ 64) b.value.1 c.value c.came in
    op_kept r r' (ops.JumpNe a.value.0 b.value.0 c.value.0) d.rest (register_ok ws a.value a.came, (value.1, target.1)) k

-- ack REG
pub ack_kept : (r r' : Reading) (ws : Words) → ack_line r ws ≡ Ok r' → IsKept r → IsKept r'
unfolding ack_line
ack_kept r r' ws e k =
    let a = bound (register ws) _ r' e in
    let b = bound (no_more a.value.1) _ r' a.rest in
    op_kept r r' (ops.Ack a.value.0) b.rest (register_ok ws a.value a.came) k

-- hypercall
pub hypercall_kept : (r r' : Reading) (ws : Words) → hypercall_line r ws ≡ Ok r' → IsKept r → IsKept r'
unfolding hypercall_line
hypercall_kept r r' ws e k =
    let a = bound (no_more ws) _ r' e in
    op_kept r r' ops.Hypercall a.rest tt k

-- vtlcall
pub vtl_call_kept : (r r' : Reading) (ws : Words) → vtl_call_line r ws ≡ Ok r' → IsKept r → IsKept r'
unfolding vtl_call_line
vtl_call_kept r r' ws e k =
    let a = bound (no_more ws) _ r' e in
    op_kept r r' ops.VtlCall a.rest tt k

-- vtlreturn
pub vtl_return_kept : (r r' : Reading) (ws : Words) → vtl_return_line r ws ≡ Ok r' → IsKept r → IsKept r'
unfolding vtl_return_line
vtl_return_kept r r' ws e k =
    let a = bound (no_more ws) _ r' e in
    op_kept r r' ops.VtlReturn a.rest tt k

-- poll
pub poll_kept : (r r' : Reading) (ws : Words) → poll_line r ws ≡ Ok r' → IsKept r → IsKept r'
unfolding poll_line
poll_kept r r' ws e k =
    let a = bound (no_more ws) _ r' e in
    op_kept r r' ops.Poll a.rest tt k

-- eoi
pub eoi_kept : (r r' : Reading) (ws : Words) → eoi_line r ws ≡ Ok r' → IsKept r → IsKept r'
unfolding eoi_line
eoi_kept r r' ws e k =
    let a = bound (no_more ws) _ r' e in
    op_kept r r' ops.Eoi a.rest tt k

-- eom
pub eom_kept : (r r' : Reading) (ws : Words) → eom_line r ws ≡ Ok r' → IsKept r → IsKept r'
unfolding eom_line
eom_kept r r' ws e k =
    let a = bound (no_more ws) _ r' e in
    op_kept r r' ops.Eom a.rest tt k
