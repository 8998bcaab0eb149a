-- The programs of processors.
use Rattle.std.specs.Prelude.{◌≡◌, ℕ, List, length, Some, IfSome, slice_get}
use Rattle.vsm_core.specs.declared.operation.Program.{Program}
use Rattle.vsm_core.specs.Processor.{Vp, operation_at}
use Rattle.guest_script.specs.Programs.{program_at}

-- the program that the processor was made with. Where the processor keeps on with an operation, it is the one where
-- the program stands
pub record FitsOne (program : Program) (v : Vp) : Type 0 where
  pub zero : length program.zero ≡ v.zero_length
  pub one : length program.one ≡ v.one_length
  pub kept : IfSome v.op (λ op. operation_at program v.state ≡ Some op)

-- a program for each processor, in their order
pub record Fits (programs : List Program) (vps : List Vp) : Type 0 where
  pub many : length vps ≡ length programs
  pub each : (p : ℕ) (v : Vp) → slice_get vps p ≡ Some v → FitsOne (program_at programs p) v
