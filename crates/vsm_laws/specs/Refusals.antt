-- What a refused hypercall leaves: what its elements that are done put out and set, and its result.
use Rattle.std.specs.Prelude.{ℕ, ◌≡◌, ◌≢◌, ◌+◌, ◌*◌, ◌/◌, ◌-◌, ◌%◌, ◌==◌, true, if◌then◌else◌, Some, List, ◌⊎◌, [], ◌∷◌, ◌++◌, flat_map, take, drop}
use Rattle.std.specs.List.{fold}
use Rattle.vsm_core.specs.Calls.{code_in, done_in, status_in}
use Rattle.vsm_core.specs.Controllers.{writes}
use Rattle.vsm_core.specs.Hypercalls.{input_value, output_address}
use Rattle.vsm_core.specs.Keeps.{KeepsTheRest, RefusesAll, RefusesRest}
use Rattle.vsm_core.specs.Outcomes.{Origin, Outcome}
use Rattle.vsm_core.specs.Processor.{Vp, Did, attempted, new_marks, operation_at, origin_of}
use Rattle.vsm_core.specs.RegisterCalls.{Setting, all_emptied, all_set, got_words, settings, slice_numbers, start_of}
use Rattle.vsm_core.specs.Served.{after, answer, block}
use Rattle.vsm_core.specs.Tree.{Tree, Ends, Asks, Wants, WordStep, Writing, Posting, Taking}
use Rattle.vsm_core.specs.Whole.{Flat, flat_after}
use Rattle.vsm_core.specs.declared.event.PendingWord.TheVariants.{Start}
use Rattle.vsm_core.specs.declared.journal.Entry.{Entry}
use Rattle.vsm_core.specs.declared.journal.Entry.TheVariants as entries
use Rattle.vsm_core.specs.declared.mark.Mark.{Mark}
use Rattle.vsm_core.specs.declared.mark.What.TheVariants.{Reply as Result}
use Rattle.vsm_core.specs.declared.operation.Op.TheVariants.{Hypercall}
use Rattle.vsm_core.specs.declared.operation.Program.{Program}
use Rattle.vsm_core.specs.declared.partition_state.PartitionState.{PartitionState}
use Rattle.vsm_core.specs.declared.request.Request.{Request}
use Rattle.vsm_laws.specs.Changes.{level_named}
use Rattle.vsm_laws.specs.ReadWords.{with_read}

-- the changes that were made, with a step's: it writes memory, posts to a word or takes from one
abbrev pub with_change : List WordStep → WordStep → List WordStep
with_change made (Writing page index value) = made ++ Writing page index value ∷ []
with_change made (Posting vp word bits) = made ++ Posting vp word bits ∷ []
with_change made (Taking word) = made ++ Taking word ∷ []
with_change made _ = made

-- an entry of the journal changes no word but that of a start, which posts to the processor's start word
abbrev pub change_by : Entry → List WordStep
change_by (entries.Start by vp level) = Posting vp.0 Start 1 ∷ []
change_by _ = []

-- the requests that were made, each with the partition's state as it came, the last one first
abbrev pub Asked : Type 0
Asked = List (PartitionState × Request)

-- whatever the words answer, and whatever the partition's state is as a request comes, this holds at each end: of the
-- words that were read, the changes and the requests that were made, all after these, and of what it comes to
abbrev pub EndsChanging : {A : Type 0}
    → (List ℕ → List WordStep → Asked → A → Type 0) → List ℕ → List WordStep → Asked → Tree A → Type 0
EndsChanging Q read made asked (Ends a) = Q read made asked a
EndsChanging Q read made asked (Asks s k) =
    (x : ℕ) → EndsChanging Q (with_read read s x) (with_change made s) asked (k x)
EndsChanging Q read made asked (Wants q k) =
    (s : PartitionState)
    → EndsChanging Q read (made ++ flat_map change_by (block s q)) ((s, q) ∷ asked) (k (answer s q))

-- how many elements a result value says were done by this attempt; it counts from the call's first
abbrev pub done_here : Origin → ℕ → ℕ
done_here from value = done_in value - start_of from

-- the words that a call has put out which reads these words and has this result: where it gets registers, the values of
-- those that its elements name which are done
abbrev pub put_out : Origin → (read : List ℕ) → (value : ℕ) → List ℕ
put_out from read value =
    if code_in (input_value from.state) == 0x0050
    then got_words from.state (level_named from read) (take (done_here from value) (slice_numbers from (drop 2 read)))
    else []

-- the steps that put them out, behind those of the elements before: each element has two
abbrev pub outputs : Origin → (read : List ℕ) → (value : ℕ) → List WordStep
outputs from read value =
    writes (output_address from.state / 4096) (output_address from.state % 4096 / 8 + 2 * start_of from)
    (put_out from read value)

-- the elements that are done of a call that sets registers
abbrev pub sets : Origin → (read : List ℕ) → (value : ℕ) → List Setting
sets from read value =
    if code_in (input_value from.state) == 0x0051 then take (done_here from value) (settings (drop 2 read)) else []

-- the partition keeps its state, or the pages before the refused one have got their masks
abbrev pub IsRefused : PartitionState → Request → Type 0
IsRefused s r = RefusesAll s r ⊎ RefusesRest s r

-- each of these requests is refused so
abbrev pub AllRefused : Asked → Type 0
AllRefused [] = Unit {0}
AllRefused (r ∷ asked) = IsRefused r.0 r.1 × AllRefused asked

-- where the attempt begins, with the registers that the elements which are done have set
abbrev pub once_set : Origin → (read : List ℕ) → (value : ℕ) → Origin
once_set from read value = record from { state = all_set (level_named from read) from.state (sets from read value) }

-- the elements that are done have put out or set what they name, and emptied what that empties; all else stays but RAX
-- and the active level's Rip, and the partition refuses what it was asked
pub record LeavesTheDone (from : Origin) (read : List ℕ) (made : List WordStep) (asked : Asked) (value : ℕ)
    (o : Outcome) : Type 0 where
  pub changes : made ≡ outputs from read value
  pub keeps : KeepsTheRest (once_set from read value) o
  pub empties : o.does ≡ all_emptied (level_named from read) (sets from read value)
  pub requests : AllRefused asked

-- where an attempt has a result that refuses: its status isn't 0
abbrev pub LeavesTheDoneIfRefused : Origin → (read : List ℕ) → (made : List WordStep) → Asked → Outcome → Type 0
LeavesTheDoneIfRefused from read made asked o =
    (value : ℕ) → o.what ≡ Result value → status_in value ≢ 0 → LeavesTheDone from read made asked value o

-- the processor makes a hypercall at once, and the mark that this leaves has a result that refuses
pub record IsRefusedAtOnce (program : Program) (v : Vp) (s : PartitionState) (flat : Flat) (value : ℕ) : Type 0 where
  pub started : v.started ≡ true
  pub call : operation_at program v.state ≡ Some Hypercall
  pub mark : Mark
  pub left : new_marks v (attempted program v s flat).vp ≡ mark ∷ []
  pub result : mark.what ≡ Result value
  pub refuses : status_in value ≢ 0

-- these requests, one after the other
abbrev pub AreRefused : PartitionState → List (Request × List Entry) → Type 0
AreRefused s [] = Unit {0}
AreRefused s (r ∷ served) = IsRefused s r.0 × AreRefused (after s r.0) served

-- what a processor came to, where that is a result
abbrev pub came_to_result : Vp → ℕ → Outcome
came_to_result v value =
    record { what = Result value; state = v.state; controllers = v.controllers; does = [] }

-- the same of what was done at once: memory stays but for what was put out, and all posted words do
pub record LeavesTheRest (v : Vp) (s : PartitionState) (flat : Flat) (read : List ℕ) (value : ℕ) (did : Did Flat)
    : Type 0 where
  pub memory : did.words.memory ≡ (fold (flat_after v.limits v.number) flat (outputs (origin_of v) read value)).memory
  pub posted : did.words.posted ≡ flat.posted
  pub keeps : KeepsTheRest (once_set (origin_of v) read value) (came_to_result did.vp value)
  pub requests : AreRefused s did.served
