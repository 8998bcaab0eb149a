-- A call that flushes a list of addresses does all its elements at once.
use Rattle.std.proofs.Common.{◌≡◌, ◌∙◌, ◌/◌, ◌+◌, ◌%◌, ◌==◌, ◌++◌, ℕ, true, Option, Some, None, List, [], ◌∷◌, refl}
use Rattle.std.proofs.Common.{sym, subst}
use Rattle.std.proofs.lemmas.List.{append-nil}
use Rattle.vsm_base.specs.declared.status.HvStatus.{HvStatus}
use Rattle.vsm_base.specs.declared.status.TheConstants.HvStatus as statuses
use Rattle.vsm_core.specs.declared.mark.GuestFault.TheVariants.{Undefined}
use Rattle.vsm_core.specs.declared.mark.What.{What}
use Rattle.vsm_core.specs.declared.mark.What.TheVariants.{Reply as Result}
use Rattle.vsm_core.specs.declared.operation.Op.TheVariants.{Hypercall}
use Rattle.vsm_core.specs.declared.operation.Program.{Program}
use Rattle.vsm_core.specs.declared.partition_state.PartitionState.{PartitionState}
use Rattle.vsm_core.specs.Attempt.{admitted, by_input, by_memory, by_refusal, by_registers, hypercall_tree}
use Rattle.vsm_core.specs.Attempt.{reads_slice}
use Rattle.vsm_core.specs.Calls.{Row, row_of, code_in, is_fast, result_value}
use Rattle.vsm_core.specs.Hypercalls.{fast_words, input_address, input_refusal, input_value, output_address}
use Rattle.vsm_core.specs.Outcomes.{Origin, Outcome, faulted}
use Rattle.vsm_core.specs.Processor.{Vp, attempted, operation_at, origin_of, tree_of}
use Rattle.vsm_core.specs.RegisterCalls.{count_of, past_of, start_of}
use Rattle.vsm_core.specs.Reps.{first_word, words_between}
use Rattle.vsm_core.specs.State.{privilege_of}
use Rattle.vsm_core.specs.Tree.{Ends}
use Rattle.vsm_core.specs.Whole.{Flat}
use Rattle.vsm_laws.specs.ReadWords.{words_read}
use Rattle.vsm_laws.specs.Slices.{IsAdmitted, goes_or_ends, whats_left}
use Rattle.vsm_laws.proofs.ServedEnds.{EndsServed, attempted-come, left-what}
use Rattle.vsm_laws.proofs.SetCalls.{row-code}
use Rattle.vsm_laws.proofs.SliceCalls.{IsCounted, by_memory-so, counted-by, served-if, served-reads}

-- it has the count of all as its result
abbrev HasFlushed : Origin → List ℕ → Outcome → Type 0
HasFlushed from words o = IsCounted from o.what → o.what ≡ Result (result_value statuses.SUCCESS (count_of from))

module _ (s : PartitionState) (from : Origin) where
  input-so : (words header elements : List ℕ)
      → EndsServed (HasFlushed from) s words (by_input from 0x0003 header elements)
  input-so words header elements = λ x counted. refl

  reads_slice-so : (row : Row) (address : ℕ) (header : List ℕ) → row.code ≡ 0x0003
      → EndsServed (HasFlushed from) s header (reads_slice from row address header)
  reads_slice-so row address header is =
      subst (λ words. EndsServed (HasFlushed from) s words (reads_slice from row address header)) (append-nil header)
      (served-reads (HasFlushed from) s (address / 4096)
      (address % 4096 / 8 + row.header / 8 + first_word row.read (start_of from))
      (words_between row.read (start_of from) (past_of from)) header [] (by_input from row.code header)
      (λ words long. subst (λ code. EndsServed (HasFlushed from) s (header ++ words)
      (by_input from code header words)) (sym is) (input-so (header ++ words) header words)))

  admitted-so : (row : Row) → row.code ≡ 0x0003 → EndsServed (HasFlushed from) s [] (admitted from row)
  admitted-so row is =
      let address = input_address from.state in
      served-if (HasFlushed from) s [] (is_fast (input_value from.state))
      (by_registers from row.code (fast_words from.state)) (by_memory from row address)
      (λ fast. subst (λ code. EndsServed (HasFlushed from) s [] (by_registers from code (fast_words from.state)))
      (sym is) (λ counted. refl))
      (λ slow. by_memory-so from (HasFlushed from) (λ words o other counted. absurd (other counted)) s row address
      (served-reads (HasFlushed from) s (address / 4096) (address % 4096 / 8) (row.header / 8) [] []
      (reads_slice from row address) (λ header long. reads_slice-so row address header is)))

by_refusal-so : (s : PartitionState) (from : Origin) (row : Option Row) (refusal : Option HvStatus)
    → code_in (input_value from.state) ≡ 0x0003 → row_of (code_in (input_value from.state)) ≡ row
    → input_refusal from.pages row (input_value from.state) (input_address from.state) (output_address from.state)
    ≡ refusal → EndsServed (HasFlushed from) s [] (by_refusal from row refusal)
by_refusal-so s from row (Some status) code is e = λ fine. let no : None ≡ Some status = sym fine ∙ rw is e in cc
by_refusal-so s from None None code is e = λ counted. absurd counted
by_refusal-so s from (Some row) None code is e = admitted-so s from row
    (row-code (code_in (input_value from.state)) row is ∙ code)

flush-ends : (s : PartitionState) (from : Origin) → code_in (input_value from.state) ≡ 0x0003
    → EndsServed (HasFlushed from) s [] (hypercall_tree from)
flush-ends s from code =
    let row = row_of (code_in (input_value from.state)) in
    let refusal = input_refusal from.pages row (input_value from.state) (input_address from.state)
    (output_address from.state) in
    served-if (HasFlushed from) s [] (privilege_of from.state == 0) (by_refusal from row refusal)
    (Ends (faulted from Undefined))
    (λ e. by_refusal-so s from row refusal code refl refl) (λ e counted. absurd counted)

pub flushes-all : (program : Program) (v : Vp) (s : PartitionState) (flat : Flat) (what : What) → v.started ≡ true
    → operation_at program v.state ≡ Some Hypercall → code_in (input_value v.state) ≡ 0x0003
    → IsAdmitted (origin_of v) → whats_left v (attempted program v s flat).vp ≡ what ∷ [] → goes_or_ends what ≡ true
    → what ≡ Result (result_value statuses.SUCCESS (count_of (origin_of v)))
flushes-all program v s flat what started is code admitted left e =
    let from = origin_of v in
    let words = words_read program v s flat in
    let to = attempted-come (HasFlushed from) program v s flat started
    (subst (λ op. EndsServed (HasFlushed from) s [] (tree_of from op)) (sym is) (flush-ends s from code)) in
    let same : to.outcome.what ≡ what = left-what (HasFlushed from) v words
    (attempted program v s flat).vp what to left in
    sym same ∙ to.holds (subst (IsCounted from) (sym same) (counted-by from what admitted e))
