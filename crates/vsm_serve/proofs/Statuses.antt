-- What the clauses of the top call say together.
use Rattle.std.proofs.Common.{◌≡◌, ◌≤◌, ◌⊎◌, inl, inr, ℕ, false, nat_lt, List, ◌++◌, length, Option, Some, None, Ok, refl, sym, ap, ◌∙◌, subst, arith}
use Rattle.std.proofs.lemmas.Bool.Decides.{nat_tests}
use Rattle.std.proofs.lemmas.List.{append-nil}
use Rattle.std.specs.Io.KnownBytes.{append_known, prepend_known}
use Rattle.vsm_base.specs.Outside.{IsAtEnd}
use Rattle.vsm_base.specs.Whole.{limit}
use Rattle.guest_script.specs.Grammar.{script}
use Rattle.guest_script.specs.Made.{made}
use Rattle.guest_script.specs.Print.{printed}
use Rattle.guest_script.specs.declared.script.Script.{Script}
use Rattle.vsm_report.specs.FlatRun.{flat}
use Rattle.vsm_report.specs.Text.{text}
use Rattle.vsm_serve.specs.declared.command.Command.{Command}
use Rattle.vsm_serve.specs.declared.command.Command.TheVariants as commands
use Rattle.vsm_serve.specs.declared.status.Status.{Status}
use Rattle.vsm_serve.specs.declared.status.Status.TheVariants as statuses
use Rattle.vsm_serve.specs.Commands.{command_of}
use Rattle.vsm_serve.specs.Serve.{Serves, SaysOf, SaysOfTrace, SaysOfText, Traces, Completes, sample_text}
use Rattle.vsm_serve.specs.Statuses.{Decides, DecidesBy, status_of}
use Rattle.vsm_serve.specs.Streams.{Reading, Writing, NoWriteFails}

-- a status of no command is the usage
no_command : (source : Reading) (sink : Writing) (status : Status) (command : Option Command) → SaysOf command status source sink → command ≡ None → status ≡ statuses.Usage
no_command source sink status None says none = says.0
no_command source sink status (Some c) says none = cc

-- no command has the usage as its status
no_usage : (source : Reading) (sink : Writing) (command : Option Command) → SaysOf command statuses.Usage source sink → command ≡ None
no_usage source sink None says = refl
no_usage source sink (Some commands.Trace) says = absurd says
no_usage source sink (Some (commands.Make n)) says = absurd says.1
no_usage source sink (Some (commands.Sample n)) says = absurd says.1

-- what was read to its end is all that was left
read_all : (after : Option (List ℕ)) (bytes got : List ℕ) → Some bytes ≡ prepend_known got after → IsAtEnd after → got ≡ bytes
read_all None bytes got came end = cc
read_all (Some rest) bytes got came end =
    let e : bytes ≡ got ++ rest = cc in sym (e ∙ ap (λ r. got ++ r) (end rest refl) ∙ append-nil got)

traced_text : (source : Reading) (sink : Writing) (bytes : List ℕ) (s : Script) → source.left ≡ Some bytes → script bytes ≡ Ok s → Traces source sink (Ok tt)
    → sink.taken_after ≡ append_known sink.taken (text s (flat s))
traced_text source sink bytes s left is t =
    let same : t.bytes ≡ bytes = read_all source.left_after bytes t.bytes (sym left ∙ t.read.came) t.read.at_end in
    let ok : Ok t.given ≡ Ok s = sym t.spelled ∙ ap script same ∙ is in
    let given : t.given ≡ s = cc in
    t.put.whole ∙ ap (λ (x : Script). append_known sink.taken (text x (flat x))) given

either_way : (source : Reading) (sink : Writing) (bytes : List ℕ) (s : Script) (status : Status) → source.left ≡ Some bytes → script bytes ≡ Ok s → NoWriteFails sink
    → SaysOfTrace status source sink → (status ≡ statuses.Ok) ⊎ ((status ≡ statuses.WriteFault) ⊎ (status ≡ statuses.Memory)) → Completes (text s (flat s)) status sink
either_way source sink bytes s status left is sure says (inl ok) =
    let t : SaysOfTrace statuses.Ok source sink = subst (λ (x : Status). SaysOfTrace x source sink) ok says in
    inl (ok, traced_text source sink bytes s left is t)
either_way source sink bytes s status left is sure says (inr (inl failed)) =
    let t : SaysOfTrace statuses.WriteFault source sink = subst (λ (x : Status). SaysOfTrace x source sink) failed says in
    absurd (sure t.0)
either_way source sink bytes s status left is sure says (inr (inr out)) = inr out

-- a script that is told gets its whole text
completed : (words : List (List ℕ)) (source : Reading) (sink : Writing) (bytes : List ℕ) (s : Script) (status : Status) → command_of words ≡ Some commands.Trace
    → source.left ≡ Some bytes → length bytes ≤ limit → script bytes ≡ Ok s → NoWriteFails sink → SaysOf (command_of words) status source sink → Decides (status_of words bytes) status
    → Completes (text s (flat s)) status sink
completed words source sink bytes s status trace left short is sure says decides =
    let within : nat_lt limit (length bytes) ≡ false = grind (arith, nat_tests) in
    let which : status_of words bytes ≡ statuses.Ok = rw (trace, within, is) refl in
    let told : SaysOf (Some commands.Trace) status source sink = subst (λ (x : Option Command). SaysOf x status source sink) trace says in
    either_way source sink bytes s status left is sure told (subst (λ (x : Status). Decides x status) which decides)

text_whole : (sink : Writing) (t : List ℕ) (status : Status) → NoWriteFails sink → SaysOfText t status sink → Completes t status sink
text_whole sink t statuses.Ok sure says = inl (refl, says.whole)
text_whole sink t statuses.WriteFault sure says = absurd (sure says.0)
text_whole sink t statuses.Memory sure says = inr refl
text_whole sink t statuses.Usage sure says = absurd says
text_whole sink t statuses.Refused sure says = absurd says
text_whole sink t statuses.ReadFault sure says = absurd says
text_whole sink t statuses.TooLong sure says = absurd says

-- what the statuses say, and which one it is, make up the whole
pub serves : (words : List (List ℕ)) (source : Reading) (sink : Writing) (status : Status) → SaysOf (command_of words) status source sink → DecidesBy (status_of words) status source
    → source.faults ≤ source.faults_after → sink.faults ≤ sink.faults_after → Serves status words source sink
serves words source sink status says decides reads writes =
    let of : (command : Option Command) → command_of words ≡ command → SaysOf command status source sink = λ command is. subst (λ (x : Option Command). SaysOf x status source sink) is says in
    record {
      says = says;
      decides = decides;
      usage = (λ is. no_usage source sink (command_of words) (subst (λ (x : Status). SaysOf (command_of words) x source sink) is says), no_command source sink status (command_of words) says);
      completes = λ bytes s trace left short is sure_reads sure_writes. completed words source sink bytes s status trace left short is sure_writes says (decides bytes left sure_reads);
      makes = λ n is sure. text_whole sink (printed (made n)) status sure (of (Some (commands.Make n)) is).1;
      samples = λ n is sure. text_whole sink (sample_text n) status sure (of (Some (commands.Sample n)) is).1;
      reads_later = reads;
      writes_later = writes;
    }
