-- The statuses by their numbers, and which one it is where no read fails.
use Rattle.std.specs.Prelude.{◌≡◌, ◌⊎◌, ℕ, List, length, if◌then◌else◌, nat_lt, Option, Some, None, Result, Ok, Err}
use Rattle.vsm_base.specs.Whole.{limit}
use Rattle.guest_script.specs.Grammar.{script}
use Rattle.guest_script.specs.declared.script.Script.{Script}
use Rattle.guest_script.specs.declared.script.Refusal.{Refusal}
use Rattle.vsm_serve.specs.Commands.{command_of}
use Rattle.vsm_serve.specs.Streams.{Reading, NoReadFails}
use Rattle.vsm_serve.specs.declared.command.Command.{Command}
use Rattle.vsm_serve.specs.declared.command.Command.TheVariants as commands
use Rattle.vsm_serve.specs.declared.status.Status.{Status}
use Rattle.vsm_serve.specs.declared.status.Status.TheVariants as statuses

-- the number of a status
abbrev pub status_number : Status → ℕ
status_number statuses.Ok = 0
status_number statuses.Usage = 1
status_number statuses.Refused = 2
status_number statuses.ReadFault = 3
status_number statuses.WriteFault = 4
status_number statuses.Memory = 5
status_number statuses.TooLong = 6

abbrev pub status_of_script : Result Script Refusal → Status
status_of_script (Ok s) = statuses.Ok
status_of_script (Err r) = statuses.Refused

-- the status of a run of these bytes
abbrev pub status_of_trace : List ℕ → Status
status_of_trace bytes = if nat_lt limit (length bytes) then statuses.TooLong else status_of_script (script bytes)

-- the status of a command and an input
abbrev pub status_for : Option Command → List ℕ → Status
status_for None bytes = statuses.Usage
status_for (Some commands.Trace) bytes = status_of_trace bytes
status_for (Some (commands.Make n)) bytes = statuses.Ok
status_for (Some (commands.Sample n)) bytes = statuses.Ok

-- the status for these words and an input
abbrev pub status_of : List (List ℕ) → List ℕ → Status
status_of words bytes = status_for (command_of words) bytes

-- the status is this one, but for want of memory and for a write that fails
abbrev pub Decides : Status → Status → Type 0
Decides statuses.Ok status = (status ≡ statuses.Ok) ⊎ ((status ≡ statuses.WriteFault) ⊎ (status ≡ statuses.Memory))
Decides statuses.Usage status = status ≡ statuses.Usage
Decides said status = (status ≡ said) ⊎ (status ≡ statuses.Memory)

-- where the input is told and no read fails, the status is the one for its bytes
abbrev pub DecidesBy : (List ℕ → Status) → Status → Reading → Type 0
DecidesBy said status source =
    (bytes : List ℕ) → source.left ≡ Some bytes → NoReadFails source → Decides (said bytes) status
