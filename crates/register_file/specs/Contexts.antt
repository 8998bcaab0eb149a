-- The values of a context that was read.
use Rattle.std.specs.Prelude.{ℕ, List, [], ◌∷◌}
use Rattle.register_file.specs.declared.context.Context.{Context}

-- in the order of the context's places
abbrev pub context_values : Context → List ℕ
context_values context =
    context.rip ∷
    context.rsp ∷
    context.rflags ∷
    context.cs ∷
    context.ds ∷
    context.es ∷
    context.fs ∷
    context.gs ∷
    context.ss ∷
    context.tr ∷
    context.ldtr ∷
    context.idtr ∷
    context.gdtr ∷
    context.efer ∷
    context.cr0 ∷
    context.cr3 ∷
    context.cr4 ∷
    context.pat ∷ []
