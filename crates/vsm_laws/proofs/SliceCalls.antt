-- What holds at each end of a call that goes by slices.
use Rattle.std.proofs.Common.{◌≡◌, ◌∙◌, ◌≤◌, ◌<◌, ◌+◌, ◌*◌, ◌-◌, ◌/◌, ◌%◌, ◌==◌, ◌||◌, ◌++◌, ℕ, zero, suc, Bool, true}
use Rattle.std.proofs.Common.{false, cond, Option, Some, None, List, [], ◌∷◌, length, take, drop, refl, sym, ap}
use Rattle.std.proofs.Common.{subst, arith, append_assoc}
use Rattle.std.proofs.lemmas.Bool.Decides.{nat_tests}
use Rattle.std.proofs.lemmas.List.{append-nil, length-map}
use Rattle.vsm_base.specs.Masks.{allows}
use Rattle.vsm_base.specs.declared.places.Access.{Access}
use Rattle.vsm_base.specs.declared.places.Access.TheVariants.{Read, Write}
use Rattle.vsm_base.specs.declared.places.Vtl.{Vtl}
use Rattle.vsm_base.specs.declared.places.Vtl.TheVariants.{Zero, One}
use Rattle.vsm_base.specs.declared.status.HvStatus.{HvStatus}
use Rattle.vsm_base.specs.declared.status.TheConstants.HvStatus as statuses
use Rattle.vsm_core.specs.declared.mark.GuestFault.TheVariants.{Undefined}
use Rattle.vsm_core.specs.declared.mark.What.{What}
use Rattle.vsm_core.specs.declared.mark.What.TheVariants.{Part, Reply as Result}
use Rattle.vsm_core.specs.declared.partition_state.PartitionState.{PartitionState}
use Rattle.vsm_core.specs.declared.request.PartCall.{PartCall}
use Rattle.vsm_core.specs.declared.request.PartCall.TheVariants.{ReadStatus, ReadConfig, WriteConfig}
use Rattle.vsm_core.specs.declared.request.Reply.{Reply}
use Rattle.vsm_core.specs.Attempt.{admitted, behind_output, behind_page_mask, by_input, by_memory, by_refusal}
use Rattle.vsm_core.specs.Attempt.{by_registers, gets_by, gets_or_asks, hypercall_tree, interrupts, left_for}
use Rattle.vsm_core.specs.Attempt.{left_with, looked_by, puts_out, reads_input, reads_slice, refused, served, sets_by}
use Rattle.vsm_core.specs.Attempt.{sets_or_asks}
use Rattle.vsm_core.specs.Calls.{Row, row_of, code_in, first_failed, is_fast, result_value}
use Rattle.vsm_core.specs.Controllers.{writes}
use Rattle.vsm_core.specs.Hypercalls.{asked_of, fast_words, has_output, input_address, input_refusal, input_value}
use Rattle.vsm_core.specs.Hypercalls.{output_address, replied, request_of, result_outcome}
use Rattle.vsm_core.specs.Outcomes.{Origin, Outcome, Refusal, faulted}
use Rattle.vsm_core.specs.Protection.{modify_checks, page_refusal, page_refusals}
use Rattle.vsm_core.specs.RegisterCalls.{Setting, all_emptied, all_set, count_of, get_refusal, get_refusals}
use Rattle.vsm_core.specs.RegisterCalls.{got_slice, header_refusal, look_in, past_of, set_refusal, set_refusals}
use Rattle.vsm_core.specs.RegisterCalls.{set_slice, settings, slice_end, slice_numbers, slice_outcome, slice_output}
use Rattle.vsm_core.specs.RegisterCalls.{start_of, value_words, write_in}
use Rattle.vsm_core.specs.Registers.{IsWhole}
use Rattle.vsm_core.specs.Reps.{acting, first_word, replied_end, slice_past, words_between}
use Rattle.vsm_core.specs.Served.{after, answer}
use Rattle.vsm_core.specs.State.{privilege_of}
use Rattle.vsm_core.specs.Targets.{target_level}
use Rattle.vsm_core.specs.Tree.{Tree, Ends, Asks, Leaving, asks_all, reads}
use Rattle.vsm_laws.specs.Slices.{IsAdmitted, behind_header, call_refusals, goes_or_ends, is_sliced, or_asked}
use Rattle.vsm_laws.specs.Slices.{get_call_refusals, get_slice_refusals, mask_call_refusals, partition_refusal}
use Rattle.vsm_laws.specs.Slices.{set_call_refusals, set_slice_refusals, slice_refusals}
use Rattle.vsm_laws.proofs.Away.{two-words}
use Rattle.vsm_laws.proofs.Reading.{found-suc, reading-any, reading-so, refused-ends}
use Rattle.vsm_laws.proofs.ServedEnds.{EndsServed, served-any}
use Rattle.vsm_laws.proofs.SetCalls.{row-code}
use Rattle.vsm_laws.proofs.SliceAnswers.{IsLook, Status, Config, IsSliceEnd, IsWrite, config-ends, header-ends}
use Rattle.vsm_laws.proofs.SliceAnswers.{look-one, masks-end, one-ends, slice-ends, write-one}
use Rattle.vsm_laws.proofs.SliceRows.{IsGood, IsSlicedRow, few-elements, good-value, mask-words, numbers-length}
use Rattle.vsm_laws.proofs.SliceRows.{set-words, settings-length, sliced-row}
use Rattle.vsm_laws.proofs.SliceStates.{same-still, set-still}

-- the outcomes of which the law speaks: elements are left, or the call has a result and isn't refused before its
-- first step
abbrev pub IsCounted : Origin → What → Type 0
IsCounted from (Part next) = Unit {0}
IsCounted from (Result value) = IsAdmitted from
IsCounted from _ = ⊥

pub counted-by : (from : Origin) (what : What) → IsAdmitted from → goes_or_ends what ≡ true → IsCounted from what
counted-by from (Part next) admitted e = tt
counted-by from (Result value) admitted e = admitted
counted-by from _ admitted e = cc

-- the slice has ended as its elements are refused
abbrev pub HasEnded : PartitionState → Origin → List ℕ → Outcome → Type 0
HasEnded s from words o = IsCounted from o.what
    → IsGood (input_value from.state) × IsSliceEnd from (slice_refusals s from words) o

pub served-if : {A : Type 0} (Q : List ℕ → A → Type 0) (s : PartitionState) (words : List ℕ) (b : Bool)
    (t u : Tree A) → (b ≡ true → EndsServed Q s words t) → (b ≡ false → EndsServed Q s words u)
    → EndsServed Q s words (cond b t u)
served-if Q s words true t u h g = h refl
served-if Q s words false t u h g = g refl

-- words that are read one after the other
pub served-reads : {A : Type 0} (Q : List ℕ → A → Type 0) (s : PartitionState) (page index count : ℕ)
    (before found : List ℕ) (rest : List ℕ → Tree A)
    → ((words : List ℕ) → length words ≡ length found + count → EndsServed Q s (before ++ words) (rest words))
    → EndsServed Q s (before ++ found) (reads page index count found rest)
served-reads Q s page index zero before found rest h = h found (omega arith)
served-reads Q s page index (suc count) before found rest h = λ x.
    subst (λ words. EndsServed Q s words (reads page (suc index) count (found ++ x ∷ []) rest))
    (sym (append_assoc before found (x ∷ [])))
    (served-reads Q s page (suc index) count before (found ++ x ∷ []) rest
    (λ words long. h words (found-suc found x count words long)))

-- and words that are written
served-writes : {A : Type 0} (Q : List ℕ → A → Type 0) (s : PartitionState) (words : List ℕ) (page index : ℕ)
    (output : List ℕ) (rest : Tree A) → EndsServed Q s words rest
    → EndsServed Q s words (asks_all (writes page index output) rest)
served-writes Q s words page index [] rest h = h
served-writes Q s words page index (x ∷ output) rest h = λ y. served-writes Q s words page (suc index) output rest h

if-true : {A : Type 0} (b : Bool) (x y : A) → b ≡ true → cond b x y ≡ x
if-true true x y e = refl
if-true false x y e = cc

if-false : {A : Type 0} (b : Bool) (x y : A) → b ≡ false → cond b x y ≡ y
if-false true x y e = cc
if-false false x y e = refl

-- the codes of such calls
mask-by : (a b c : Bool) (code : ℕ) → (a ≡ true → code ≡ 0x000C) → (a || b || c) ≡ true → b ≡ false → c ≡ false
    → code ≡ 0x000C
mask-by true b c code h e f g = h refl
mask-by false true c code h e f g = cc
mask-by false false true code h e f g = cc
mask-by false false false code h e f g = cc

a-mask : (code : ℕ) → is_sliced code ≡ true → (code == 0x0050) ≡ false → (code == 0x0051) ≡ false → code ≡ 0x000C
a-mask code sliced no_get no_set = mask-by (code == 0x000C) (code == 0x0050) (code == 0x0051) code
    (λ e. grind (arith, nat_tests)) sliced no_get no_set

not-posted : (code : ℕ) → code ≡ 0x000C → (code == 0x000B) ≡ true → ⊥
not-posted code e post = let same : code ≡ 0x000B = grind (arith, nat_tests) in omega (arith, e, same)

not-fast : (b : Bool) → b ≡ true → b ≡ false → ⊥
not-fast true e f = cc
not-fast false e f = cc

header-two : (long size : ℕ) → long ≡ 0 + size → size ≡ 2 → long ≡ 2
header-two long size e f = omega (arith, e, f)

past-behind : (start count : ℕ) → start < count → start < slice_past start count
past-behind start count h = grind arith

-- an access that is denied isn't one of these outcomes
module _ (from : Origin) (Q : List ℕ → Outcome → Type 0)
    (other-so : (words : List ℕ) (o : Outcome) → (IsCounted from o.what → ⊥) → Q words o) where
  denied-so : (s : PartitionState) (words : List ℕ) (r : Refusal) → EndsServed Q s words (refused from None r [])
  denied-so s words r =
      let Other : Outcome → Type 0 = λ o. IsCounted from o.what → ⊥ in
      served-any Q s words (refused from None r [])
      (reading-so (λ read o. Other o) Q other-so words (refused from None r [])
      (reading-any Other words (refused from None r [])
      (refused-ends from Other None r [] (λ c. c) (λ note slot c. c))))

  pub page-so : (s : PartitionState) (words : List ℕ) (level : Vtl) (kind : Access) (address generation : ℕ)
      (rest : Tree Outcome) → EndsServed Q s words rest
      → EndsServed Q s words (behind_page_mask level from kind address generation rest)
  page-so s words Zero kind address generation rest h = λ mask.
      let r : Refusal = record {
        page = address / 4096;
        mask = mask;
        generation = generation;
        access = kind;
        gpa =
            address;
      } in
      served-if Q s words (allows mask kind) rest (refused from None r []) (λ e. h) (λ e. denied-so s words r)
  page-so s words One kind address generation rest h = h

  -- the input is read behind the masks of its page and of the output's
  pub by_memory-so : (s : PartitionState) (row : Row) (address : ℕ)
      → EndsServed Q s [] (reads_input from row address) → EndsServed Q s [] (by_memory from row address)
  by_memory-so s row address h = λ a. λ generation.
      let input = reads_input from row address in
      let behind = behind_page_mask from.state.active from Write (output_address from.state) generation input in
      page-so s [] from.state.active Read address generation (behind_output from row generation input)
      (served-if Q s [] (has_output row) behind input
      (λ e. page-so s [] from.state.active Write (output_address from.state) generation input h) (λ e. h))

module _ (s : PartitionState) (from : Origin) (good : IsGood (input_value from.state))
    (whole : IsWhole from.state.registers) where
  few : past_of from - start_of from ≤ 8
  few = few-elements (start_of from) (count_of from) good.starts

  other-so : (words : List ℕ) (o : Outcome) → (IsCounted from o.what → ⊥) → HasEnded s from words o
  other-so words o other = λ counted. absurd (other counted)

  ended : (words : List ℕ) (refusals : List (Option HvStatus)) (o : Outcome) → slice_refusals s from words ≡ refusals
      → IsSliceEnd from refusals o → HasEnded s from words o
  ended words refusals o are h = λ counted. (good, subst (λ l. IsSliceEnd from l o) (sym are) h)

  refused-so : (words : List ℕ) (status : HvStatus) → slice_refusals s from words ≡ Some status ∷ []
      → HasEnded s from words (result_outcome from from.state status (start_of from))
  refused-so words status are = ended words (Some status ∷ [])
      (result_outcome from from.state status (start_of from)) are
      (header-ends from status (start_of from) _ refl refl)

  -- calls that get registers
  puts_out-so : (now : PartitionState) (words output : List ℕ) (o : Outcome) → HasEnded s from words o
      → EndsServed (HasEnded s from) now words (puts_out from output o)
  puts_out-so now words output o h =
      served-writes (HasEnded s from) now words (output_address from.state / 4096)
      (output_address from.state % 4096 / 8 + 2 * start_of from) output (left_with o) (λ x. h)

  looks-so : (now : PartitionState) (words : List ℕ) (reply : Reply) → reply.status ≡ statuses.SUCCESS
      → reply.done ≡ 1 → count_of from ≡ 1 → slice_refusals s from words ≡ None ∷ []
      → EndsServed (HasEnded s from) now words (looked_by from reply)
  looks-so now words reply fine done only are = λ a. λ generation.
      let o = result_outcome from from.state reply.status reply.done in
      let what : o.what ≡ Result (result_value statuses.SUCCESS 1) = rw (fine, done) refl in
      page-so from (HasEnded s from) other-so now words from.state.active Write
      (output_address from.state) generation (puts_out from (value_words reply.value) o)
      (puts_out-so now words (value_words reply.value) o
      (ended words (None ∷ []) o are (one-ends from o what good.starts only)))

  looked_by-so : (now : PartitionState) (words : List ℕ) (call : PartCall) → IsLook call → count_of from ≡ 1
      → slice_refusals s from words ≡ partition_refusal s call ∷ []
      → EndsServed (HasEnded s from) now words (looked_by from (answer s (asked_of from call)))
  looked_by-so now words _ Status only are = looks-so now words
      (answer s (asked_of from ReadStatus)) refl refl only are
  looked_by-so now words _ Config only are = looks-so now words
      (answer s (asked_of from ReadConfig)) refl refl only are

  gets_or_asks-so : (words : List ℕ) (target : Vtl) (numbers : List ℕ) (call : Option PartCall)
      → look_in from.state.active target (count_of from) numbers ≡ call
      → slice_refusals s from words ≡ or_asked s call (get_refusals from target numbers)
      → length numbers ≡ past_of from - start_of from
      → EndsServed (HasEnded s from) s words (gets_or_asks from target numbers call)
  gets_or_asks-so words target numbers None is are long =
      let refusals = get_refusals from target numbers in
      puts_out-so s words (slice_output from target numbers) (got_slice from target numbers)
      (ended words refusals (got_slice from target numbers) are
      (slice-ends from from.state [] refusals (same-still from.state whole) few
      (length-map numbers (get_refusal from.state.active target (count_of from)) ∙ long)))
  gets_or_asks-so words target numbers (Some call) is are long = λ x.
      let one = look-one from.state.active target (count_of from) numbers call is in
      looked_by-so (after s (asked_of from call)) words call one.1 one.0 are

  gets_by-so : (words header elements : List ℕ) (refusal : Option HvStatus)
      → slice_refusals s from words ≡ behind_header refusal
      (get_slice_refusals s from (target_level from.state.active header) (slice_numbers from elements))
      → length elements ≡ words_between 4 (start_of from) (past_of from)
      → EndsServed (HasEnded s from) s words (gets_by from header elements refusal)
  gets_by-so words header elements None are long =
      let target = target_level from.state.active header in
      let numbers = slice_numbers from elements in
      gets_or_asks-so words target numbers (look_in from.state.active target (count_of from) numbers) refl are
      (numbers-length (start_of from) (past_of from) elements
      (past-behind (start_of from) (count_of from) good.starts) long)
  gets_by-so words header elements (Some status) are long = λ x. refused-so words status are

  -- calls that set registers
  written-so : (words : List ℕ) (call : PartCall) → IsWrite call → count_of from ≡ 1
      → slice_refusals s from words ≡ partition_refusal s call ∷ []
      → HasEnded s from words (replied from (answer s (asked_of from call)))
  written-so words call write only are =
      let asked : PartCall = WriteConfig write.value in
      let now : slice_refusals s from words ≡ partition_refusal s asked ∷ [] =
      subst (λ c. slice_refusals s from words ≡ partition_refusal s c ∷ []) (sym write.is) are in
      subst (λ c. HasEnded s from words (replied from (answer s (asked_of from c)))) write.is
      (ended words (partition_refusal s asked ∷ []) (replied from (answer s (asked_of from asked))) now
      (config-ends from s (record { 0 = from.number }) write.value good.starts only))

  sets_or_asks-so : (words : List ℕ) (target : Vtl) (elements : List Setting) (call : Option PartCall)
      → write_in from.state.active target (count_of from) elements ≡ call
      → slice_refusals s from words ≡ or_asked s call (set_refusals from target elements)
      → length elements ≡ past_of from - start_of from
      → EndsServed (HasEnded s from) s words (sets_or_asks from target elements call)
  sets_or_asks-so words target elements None is are long = λ x.
      let refusals = set_refusals from target elements in
      let acted = take (acting refusals) elements in
      ended words refusals (set_slice from target elements) are
      (slice-ends from (all_set target from.state acted) (all_emptied target acted) refusals
      (set-still from target elements whole) few
      (length-map elements (set_refusal from.state.active target (count_of from)) ∙ long))
  sets_or_asks-so words target elements (Some call) is are long = λ x.
      let one = write-one from.state.active target (count_of from) elements call is in
      written-so words call one.1 one.0 are

  sets_by-so : (words header elements : List ℕ) (refusal : Option HvStatus)
      → slice_refusals s from words ≡ behind_header refusal
      (set_slice_refusals s from (target_level from.state.active header) (settings elements))
      → length elements ≡ words_between 32 (start_of from) (past_of from)
      → EndsServed (HasEnded s from) s words (sets_by from header elements refusal)
  sets_by-so words header elements None are long =
      let target = target_level from.state.active header in
      sets_or_asks-so words target (settings elements)
      (write_in from.state.active target (count_of from) (settings elements)) refl are
      (settings-length (past_of from - start_of from) elements
      (long ∙ set-words (start_of from) (count_of from) good.starts))
  sets_by-so words header elements (Some status) are long = λ x. refused-so words status are

  -- the call for masks
  masks-end-so : (elements : List ℕ) (refusal : Option HvStatus) → length elements ≡ past_of from - start_of from
      → let refusals : List (Option HvStatus) = behind_header refusal (page_refusals s.pages elements) in
      IsSliceEnd from refusals (slice_outcome from from.state [] (slice_end from refusals))
  masks-end-so elements None long =
      slice-ends from from.state [] (page_refusals s.pages elements) (same-still from.state whole) few
      (length-map elements (page_refusal s.pages) ∙ long)
  masks-end-so elements (Some status) long =
      header-ends from status (start_of from + 0)
      (slice_outcome from from.state [] (slice_end from (Some status ∷ []))) refl (omega arith)

  masks-so : (words header elements : List ℕ)
      → slice_refusals s from words ≡ mask_call_refusals s from header elements
      → length elements ≡ words_between 8 (start_of from) (past_of from)
      → EndsServed (HasEnded s from) s words (left_for from 0x000C header elements)
  masks-so words header elements are long = λ x.
      let refusal : Option HvStatus = first_failed (modify_checks s from.state.active header) in
      let refusals = mask_call_refusals s from header elements in
      let reply : Reply = answer s (request_of from 0x000C header elements) in
      let end : replied_end reply.status reply.done (count_of from) ≡ slice_end from refusals =
      masks-end s (record { 0 = from.number }) from.state.active header elements (start_of from) (count_of from) in
      ended words refusals (served from 0x000C reply) are
      (subst (λ e. IsSliceEnd from refusals (slice_outcome from from.state [] e)) (sym end)
      (masks-end-so elements refusal (long ∙ mask-words (start_of from) (count_of from) good.starts)))

  -- by its code
  refusals-by : (header elements : List ℕ) (code : ℕ) → length header ≡ 2 → code ≡ code_in (input_value from.state)
      → slice_refusals s from (header ++ elements) ≡ call_refusals s from code header elements
  refusals-by header elements code two own =
      let parts = two-words header elements two in
      ap (λ c. call_refusals s from c (take 2 (header ++ elements)) (drop 2 (header ++ elements))) (sym own)
      ∙ ap (λ l. call_refusals s from code l (drop 2 (header ++ elements))) parts.0
      ∙ ap (call_refusals s from code header) parts.1

  input-so : (row : Row) (header elements : List ℕ) → row.code ≡ code_in (input_value from.state)
      → is_sliced row.code ≡ true → IsSlicedRow row → length header ≡ 2
      → length elements ≡ words_between row.read (start_of from) (past_of from)
      → EndsServed (HasEnded s from) s (header ++ elements) (by_input from row.code header elements)
  input-so row header elements own sliced is two long =
      let words = header ++ elements in
      let code = row.code in
      let are = refusals-by header elements code two own in
      let got = get_call_refusals s from header elements in
      let set = set_call_refusals s from header elements in
      let masks = mask_call_refusals s from header elements in
      let sized : (size : ℕ) → row.read ≡ size → length elements ≡ words_between size (start_of from) (past_of from) =
      λ size e. long ∙ ap (λ size. words_between size (start_of from) (past_of from)) e in
      let gets : Tree Outcome = gets_by from header elements (header_refusal from header) in
      let sets : Tree Outcome = sets_by from header elements (header_refusal from header) in
      let posts : Tree Outcome = Asks Leaving (λ _. interrupts from header) in
      let asks : Tree Outcome = left_for from code header elements in
      served-if (HasEnded s from) s words (code == 0x0050) gets
      (cond (code == 0x0051) sets (cond (code == 0x000B) posts asks))
      (λ e. let here : code ≡ 0x0050 = grind (arith, nat_tests) in
      gets_by-so words header elements (header_refusal from header)
      (are ∙ if-true (code == 0x0050) got (cond (code == 0x0051) set masks) e)
      (sized 4 (is.gets here)))
      (λ no_get. served-if (HasEnded s from) s words (code == 0x0051) sets (cond (code == 0x000B) posts asks)
      (λ e. let here : code ≡ 0x0051 = grind (arith, nat_tests) in
      sets_by-so words header elements (header_refusal from header)
      (are ∙ if-false (code == 0x0050) got (cond (code == 0x0051) set masks) no_get
      ∙ if-true (code == 0x0051) set masks e)
      (sized 32 (is.sets here)))
      (λ no_set. let here : code ≡ 0x000C = a-mask code sliced no_get no_set in
      served-if (HasEnded s from) s words (code == 0x000B) posts asks (λ e. absurd (not-posted code here e))
      (λ no_post. subst (λ c. EndsServed (HasEnded s from) s words (left_for from c header elements)) (sym here)
      (masks-so words header elements (are ∙ if-false (code == 0x0050) got (cond (code == 0x0051) set masks) no_get
      ∙ if-false (code == 0x0051) set masks no_set)
      (sized 8 (is.masks here))))))

  -- the words of its input are read
  reads_slice-so : (row : Row) (address : ℕ) (header : List ℕ) → row.code ≡ code_in (input_value from.state)
      → is_sliced row.code ≡ true → IsSlicedRow row → length header ≡ 2
      → EndsServed (HasEnded s from) s header (reads_slice from row address header)
  reads_slice-so row address header own sliced is two =
      subst (λ words. EndsServed (HasEnded s from) s words (reads_slice from row address header)) (append-nil header)
      (served-reads (HasEnded s from) s (address / 4096)
      (address % 4096 / 8 + row.header / 8 + first_word row.read (start_of from))
      (words_between row.read (start_of from) (past_of from)) header [] (by_input from row.code header)
      (λ words long. input-so row header words own sliced is two (omega (arith, long))))

  reads_input-so : (row : Row) (address : ℕ) → row.code ≡ code_in (input_value from.state)
      → is_sliced row.code ≡ true → IsSlicedRow row → EndsServed (HasEnded s from) s [] (reads_input from row address)
  reads_input-so row address own sliced is =
      served-reads (HasEnded s from) s (address / 4096) (address % 4096 / 8) (row.header / 8) [] []
      (reads_slice from row address)
      (λ header long. reads_slice-so row address header own sliced is
      (header-two (length header) (row.header / 8) long is.header))

  admitted-so : (row : Row) → row.code ≡ code_in (input_value from.state) → is_sliced row.code ≡ true
      → IsSlicedRow row → EndsServed (HasEnded s from) s [] (admitted from row)
  admitted-so row own sliced is =
      let address = input_address from.state in
      served-if (HasEnded s from) s [] (is_fast (input_value from.state))
      (by_registers from row.code (fast_words from.state)) (by_memory from row address)
      (λ fast. absurd (not-fast (is_fast (input_value from.state)) fast good.slow))
      (λ e. by_memory-so from (HasEnded s from) other-so s row address (reads_input-so row address own sliced is))

-- a call is refused before its first step, or its input is read
by_refusal-so : (s : PartitionState) (from : Origin) (row : Option Row) (refusal : Option HvStatus)
    → IsWhole from.state.registers → is_sliced (code_in (input_value from.state)) ≡ true
    → row_of (code_in (input_value from.state)) ≡ row
    → input_refusal from.pages row (input_value from.state) (input_address from.state)
    (output_address from.state) ≡ refusal
    → EndsServed (HasEnded s from) s [] (by_refusal from row refusal)
by_refusal-so s from row (Some status) whole sliced is e =
    λ fine. let no : None ≡ Some status = sym fine ∙ rw is e in cc
by_refusal-so s from None None whole sliced is e = λ counted. absurd counted
by_refusal-so s from (Some row) None whole sliced is e =
    let value = input_value from.state in
    let own = row-code (code_in value) row is in
    let here : is_sliced row.code ≡ true = rw own sliced in
    let of_slices = sliced-row (code_in value) row is here in
    admitted-so s from (good-value from.pages row value (input_address from.state)
    (output_address from.state) of_slices e) whole row own here of_slices

-- whatever words are read
pub hypercall-ends : (s : PartitionState) (from : Origin) → IsWhole from.state.registers
    → is_sliced (code_in (input_value from.state)) ≡ true → EndsServed (HasEnded s from) s [] (hypercall_tree from)
hypercall-ends s from whole sliced =
    let value = input_value from.state in
    let row = row_of (code_in value) in
    let refusal = input_refusal from.pages row value (input_address from.state) (output_address from.state) in
    served-if (HasEnded s from) s [] (privilege_of from.state == 0) (by_refusal from row refusal)
    (Ends (faulted from Undefined))
    (λ e. by_refusal-so s from row refusal whole sliced refl refl) (λ e counted. absurd counted)
