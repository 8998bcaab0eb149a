-- A hypercall: what refuses it before its first step, what it asks of the partition, and what the reply does (TLFS, Hypercall Interface).
use Rattle.std.specs.Prelude.{ℕ, ◌+◌, ◌*◌, ◌/◌, ◌%◌, ◌==◌, ◌&&◌, Bool, not, if◌then◌else◌, nat_lt, nat_le, Option, Some, None, List, [], ◌∷◌, ◌++◌}
use Rattle.vsm_base.specs.declared.name.Name.TheVariants as names
use Rattle.vsm_base.specs.declared.places.Vtl.{Vtl}
use Rattle.vsm_base.specs.declared.status.HvStatus.{HvStatus}
use Rattle.vsm_base.specs.declared.status.TheConstants.HvStatus as statuses
use Rattle.vsm_core.specs.declared.mark.What.TheVariants.{Reply as Result}
use Rattle.vsm_core.specs.declared.request.PartCall.{PartCall}
use Rattle.vsm_core.specs.declared.request.PartCall.TheVariants.{EnablePartition, EnableVp, Start, Modify, Flush}
use Rattle.vsm_core.specs.declared.request.Reply.{Reply}
use Rattle.vsm_core.specs.declared.request.Request.{Request}
use Rattle.vsm_core.specs.Calls.{Row, Check, check, is_fast, count_in, start_in, form_checks, first_failed, result_value}
use Rattle.vsm_core.specs.Contexts.{with_context}
use Rattle.vsm_core.specs.Fills.{Cached}
use Rattle.vsm_core.specs.Outcomes.{Origin, Outcome, outcome_at}
use Rattle.vsm_core.specs.State.{State, gone_on, put_legal, word_of}

-- the input value, the addresses of the input and of the output, and what a fast call has in place of memory
abbrev pub input_value : State → ℕ
input_value state = word_of state names.Rcx

abbrev pub input_address : State → ℕ
input_address state = word_of state names.Rdx

abbrev pub output_address : State → ℕ
output_address state = word_of state names.R8

abbrev pub fast_words : State → List ℕ
fast_words state = word_of state names.Rdx ∷ word_of state names.R8 ∷ []

-- how many bytes the input and the output of all elements have in memory
abbrev pub input_size : Row → ℕ → ℕ
input_size row value = row.header + row.element * count_in value

abbrev pub output_size : Row → ℕ → ℕ
output_size row value = row.output * count_in value

abbrev pub has_output : Row → Bool
has_output row = not (row.output == 0)

-- the checks of where the input stands in memory, and the output, where there is one: each begins at a multiple of 8 and doesn't pass the end of its page, and the page is there
abbrev pub place_checks : ℕ → Row → ℕ → ℕ → ℕ → List Check
place_checks pages row value address output =
    check statuses.INVALID_ALIGNMENT (not (address % 4096 % 8 == 0)) ∷
    check statuses.INVALID_ALIGNMENT (has_output row && not (output % 4096 % 8 == 0)) ∷
    check statuses.INVALID_HYPERCALL_INPUT (nat_lt 4096 (address % 4096 + input_size row value)) ∷
    check statuses.INVALID_HYPERCALL_INPUT (has_output row && nat_lt 4096 (output % 4096 + output_size row value)) ∷
    check statuses.INVALID_PARAMETER (nat_le pages (address / 4096)) ∷
    check statuses.INVALID_PARAMETER (has_output row && nat_le pages (output / 4096)) ∷ []

-- all checks of a call that there is, in their order; a fast call has no input in memory
abbrev pub input_checks : ℕ → Row → ℕ → ℕ → ℕ → List Check
input_checks pages row value address output = form_checks row value ++ (if is_fast value then [] else place_checks pages row value address output)

-- what refuses a call before its first step, if something does
abbrev pub input_refusal : ℕ → Option Row → ℕ → ℕ → ℕ → Option HvStatus
input_refusal pages None value address output = Some statuses.INVALID_HYPERCALL_CODE
input_refusal pages (Some row) value address output = first_failed (input_checks pages row value address output)

-- what a call asks of the partition, by its code, the words of its header and of its slice, and of its elements the slice's first and how many there are
abbrev pub call_of : (code : ℕ) → (header elements : List ℕ) → (start count : ℕ) → PartCall
call_of code header elements start count =
    if code == 0x000C then Modify header (record { items = elements }) start count
    else (if code == 0x000D then EnablePartition header
    else (if code == 0x000F then EnableVp header
    else (if code == 0x0099 then Start header else Flush count)))

-- the processor asks this of the partition
abbrev pub asked_of : Origin → PartCall → Request
asked_of from call = record { by = record { 0 = from.number }; level = from.state.active; call = call }

abbrev pub request_of : Origin → ℕ → (header elements : List ℕ) → Request
request_of from code header elements = asked_of from (call_of code header elements (start_in (input_value from.state)) (count_in (input_value from.state)))

-- a call's result goes to RAX, and the program goes on
abbrev pub with_result : State → ℕ → State
with_result state value = gone_on (put_legal state names.Rax value)

-- and this is done to the cached translations
abbrev pub result_with : Origin → State → List Cached → HvStatus → ℕ → Outcome
result_with from state does status done = outcome_at from (Result (result_value status done)) (with_result state (result_value status done)) does

abbrev pub result_outcome : Origin → State → HvStatus → ℕ → Outcome
result_outcome from state status done = result_with from state [] status done

-- a call that is refused before its first step
abbrev pub refused_call : Origin → HvStatus → Outcome
refused_call from status = result_outcome from from.state status 0

-- of a reply's contexts a call takes that of the level which it enables
abbrev pub own_context : Option (Vtl × List ℕ × Option (List ℕ)) → Option (Vtl × List ℕ)
own_context None = None
own_context (Some c) = Some (c.0, c.1)

abbrev pub replied_with : Origin → HvStatus → ℕ → Option (Vtl × List ℕ) → Outcome
replied_with from status done context = result_outcome from (with_context from.state context) status done

-- a call that was served
abbrev pub replied : Origin → Reply → Outcome
replied from reply = replied_with from reply.status reply.done (own_context reply.context)
