-- Programs of two levels, one for each processor.
use Rattle.std.specs.Prelude.{ℕ, List, [], ◌∷◌, ◌++◌, if◌then◌else◌, ◌==◌, replicate, slice_index_or, slice_set}
use Rattle.vsm_core.specs.declared.operation.Op.{Op}
use Rattle.vsm_core.specs.declared.operation.Program.{Program}

-- a program that isn't given
abbrev pub nothing : Program
nothing = record { zero = []; one = [] }

-- so many programs that aren't given
abbrev pub nothings : ℕ → List Program
nothings n = replicate n nothing

-- the operations of a level
abbrev pub operations : Program → ℕ → List Op
operations p level = if level == 0 then p.zero else p.one

-- one more operation in a level
abbrev pub with_operation : Program → ℕ → Op → Program
with_operation p level op = if level == 0 then record p { zero = p.zero ++ op ∷ [] } else record p { one = p.one ++ op ∷ [] }

-- the program of a processor
abbrev pub program_at : List Program → ℕ → Program
program_at programs vp = slice_index_or programs vp nothing

-- one more operation in a level of a processor's program
abbrev pub added : List Program → ℕ → ℕ → Op → List Program
added programs vp level op = slice_set programs vp (with_operation (program_at programs vp) level op)
