-- What the top call does.
use Rattle.std.specs.Prelude.{◌≡◌, ◌≤◌, ◌⊎◌, ◌↔◌, ℕ, List, [], ◌∷◌, ◌++◌, length, codes, Option, Some, None, Result, Ok, Err}
use Rattle.std.specs.Fmt.{decimal}
use Rattle.std.specs.Io.KnownBytes.{append_known}
use Rattle.vsm_base.specs.Outside.{Rose}
use Rattle.vsm_base.specs.Whole.{limit, ReadsWhole, ReadsTooMuch}
use Rattle.vsm_base.specs.declared.whole.WriteFailed.{WriteFailed}
use Rattle.guest_script.specs.Grammar.{script}
use Rattle.guest_script.specs.Made.{made}
use Rattle.guest_script.specs.Print.{printed}
use Rattle.guest_script.specs.Why.{why_text}
use Rattle.guest_script.specs.declared.script.Script.{Script}
use Rattle.guest_script.specs.declared.script.Refusal.{Refusal}
use Rattle.vsm_report.specs.Counts.{counts}
use Rattle.vsm_report.specs.FlatRun.{flat}
use Rattle.vsm_report.specs.Pieces.{line}
use Rattle.vsm_report.specs.Text.{text}
use Rattle.vsm_report.specs.Trace.{traced}
use Rattle.vsm_report.specs.declared.counts.Counts.{Counts}
use Rattle.vsm_serve.specs.Commands.{command_of}
use Rattle.vsm_serve.specs.Statuses.{DecidesBy, status_number, status_of}
use Rattle.vsm_serve.specs.Streams.{Reading, Writing, NoReadFails, NoWriteFails, IsUnread, IsSilent, PutsText}
use Rattle.vsm_serve.specs.declared.command.Command.{Command}
use Rattle.vsm_serve.specs.declared.command.Command.TheVariants as commands
use Rattle.vsm_serve.specs.declared.status.Status.{Status}
use Rattle.vsm_serve.specs.declared.status.Status.TheVariants as statuses

abbrev pub usage_text : List ℕ
usage_text = codes "usage: vsm trace|make N|sample N" ++ 10 ∷ []

-- the line that is refused, and why
abbrev pub refusal_text : Refusal → List ℕ
refusal_text r = line (codes "refused line " ∷ decimal r.line ∷ codes " " ∷ why_text r.why ∷ [])

-- a run in numbers
abbrev pub counts_text : ℕ → Counts → List ℕ
counts_text n c =
    line (codes "sample " ∷ decimal n ∷ codes " marks " ∷ decimal c.marks ∷ codes " granted " ∷ decimal c.granted
    ∷ codes " denied " ∷ decimal c.denied ∷ codes " rounds " ∷ decimal c.rounds ∷ [])

-- the run of a made script in numbers
unfoldable pub sample_text : ℕ → List ℕ
sample_text n = counts_text n (counts (traced (made n)))

-- the input was read to its end, it is a script, and the text of its report was put
pub record Traces (source : Reading) (sink : Writing) (result : Result (Unit {0}) WriteFailed) : Type 0 where
  pub bytes : List ℕ
  pub read : ReadsWhole source.left source.left_after bytes
  pub given : Script
  pub spelled : script bytes ≡ Ok given
  pub put : PutsText sink result (text given (flat given))

-- the input was read to its end, it is no script, and the line that says why was put
pub record Refuses (source : Reading) (sink : Writing) : Type 0 where
  pub bytes : List ℕ
  pub read : ReadsWhole source.left source.left_after bytes
  pub refusal : Refusal
  pub refused : script bytes ≡ Err refusal
  pub result : Result (Unit {0}) WriteFailed
  pub put : PutsText sink result (refusal_text refusal)

-- the usage was put
pub record Instructs (sink : Writing) : Type 0 where
  pub result : Result (Unit {0}) WriteFailed
  pub put : PutsText sink result usage_text

-- what each status says of a run of a script that is read
abbrev pub SaysOfTrace : Status → Reading → Writing → Type 0
SaysOfTrace statuses.Ok source sink = Traces source sink (Ok tt)
SaysOfTrace statuses.Usage source sink = ⊥
SaysOfTrace statuses.Refused source sink = Refuses source sink
SaysOfTrace statuses.ReadFault source sink = Rose source.faults source.faults_after × IsSilent sink
SaysOfTrace statuses.WriteFault source sink = Rose sink.faults sink.faults_after × Traces source sink (Err (record {}))
SaysOfTrace statuses.Memory source sink = IsSilent sink
SaysOfTrace statuses.TooLong source sink = ReadsTooMuch source.left source.left_after × IsSilent sink

-- what each status says of a text that nothing is read for
abbrev pub SaysOfText : List ℕ → Status → Writing → Type 0
SaysOfText t statuses.Ok sink = PutsText sink (Ok tt) t
SaysOfText t statuses.WriteFault sink = Rose sink.faults sink.faults_after × PutsText sink (Err (record {})) t
SaysOfText t statuses.Memory sink = IsSilent sink
SaysOfText t _ sink = ⊥

-- what each status says, by the command
abbrev pub SaysOf : Option Command → Status → Reading → Writing → Type 0
SaysOf None status source sink = (status ≡ statuses.Usage) × (IsUnread source × Instructs sink)
SaysOf (Some commands.Trace) status source sink = SaysOfTrace status source sink
SaysOf (Some (commands.Make n)) status source sink = IsUnread source × SaysOfText (printed (made n)) status sink
SaysOf (Some (commands.Sample n)) status source sink = IsUnread source × SaysOfText (sample_text n) status sink

-- the whole text was put, or memory ran out
abbrev pub Completes : List ℕ → Status → Writing → Type 0
Completes t status sink =
    ((status ≡ statuses.Ok) × (sink.taken_after ≡ append_known sink.taken t)) ⊎ (status ≡ statuses.Memory)

-- what a call comes to: its words, its status, and what it did to its source and its sink
pub record Serves (status : Status) (words : List (List ℕ)) (source : Reading) (sink : Writing) : Type 0 where
  -- what the status says of the source and the sink, by the command
  pub says : SaysOf (command_of words) status source sink
  -- which status it is, where the input is told and no read fails
  pub decides : DecidesBy (status_of words) status source
  -- the words alone decide on the usage
  pub usage : (status ≡ statuses.Usage) ↔ (command_of words ≡ None)
  -- a script that is told gets its whole text, where no read and no write fails and memory is there
  pub completes : (bytes : List ℕ) (s : Script) → command_of words ≡ Some commands.Trace
      → source.left ≡ Some bytes → length bytes ≤ limit → script bytes ≡ Ok s
      → NoReadFails source → NoWriteFails sink → Completes (text s (flat s)) status sink
  -- so does a made script, whatever the source is, where no write fails
  pub makes : (n : ℕ) → command_of words ≡ Some (commands.Make n) → NoWriteFails sink
      → Completes (printed (made n)) status sink
  -- and the run of one in numbers
  pub samples : (n : ℕ) → command_of words ≡ Some (commands.Sample n) → NoWriteFails sink
      → Completes (sample_text n) status sink
  -- the source's count of faults never falls
  pub reads_later : source.faults ≤ source.faults_after
  -- nor does the sink's
  pub writes_later : sink.faults ≤ sink.faults_after

-- a process ends with the number of the status of a call
pub record Exits (n : ℕ) (words : List (List ℕ)) (source : Reading) (sink : Writing) : Type 0 where
  pub status : Status
  pub number : n ≡ status_number status
  pub serves : Serves status words source sink
