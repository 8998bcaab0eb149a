-- The script that bytes spell, or the first line that is refused.
use Rattle.std.specs.Prelude.{ℕ, ◌+◌, ◌-◌, ◌^◌, min, List, [], ◌∷◌, Bool, true, false, if◌then◌else◌, Result, Ok, Err}
use Rattle.guest_script.specs.Lines.{lines_of}
use Rattle.guest_script.specs.Line.{after_line}
use Rattle.guest_script.specs.Programs.{nothings}
use Rattle.guest_script.specs.Sound.{script_of}
use Rattle.guest_script.specs.declared.script.Script.{Script}
use Rattle.guest_script.specs.declared.script.Refusal.{Refusal}
use Rattle.guest_script.specs.declared.script.Why.{Why}
use Rattle.guest_script.specs.declared.script.Why.TheVariants.{Cut}
use Rattle.guest_script.specs.declared.keyword.Stage.{Stage}
use Rattle.guest_script.specs.declared.keyword.Stage.TheVariants.{Vsm, Done}
use Rattle.guest_script.specs.declared.reading.Reading.{Reading}

-- what stands before the first line: the least that a script can say
abbrev pub start : Reading
start = record { stage = Vsm; limits = record { vps = 1; pages = 1; budget = 1 }; started = 1; masks = []; words = []; programs = nothings 1; begun = []; schedule = [] }

-- `end` has been read
abbrev pub is_done : Stage → Bool
is_done Done = true
is_done _ = false

-- after the last line, whose number is one less
abbrev pub finished : Reading → ℕ → Result Script Refusal
finished r line = if is_done r.stage then Ok (script_of r) else Err (record { line = line; why = Cut })

-- a line that is refused stops the reading, and any other hands on what has been read
abbrev pub gone_on : Result Reading Why → ℕ → (Reading → Result Script Refusal) → Result Script Refusal
gone_on (Ok r) line rest = rest r
gone_on (Err why) line rest = Err (record { line = line; why = why })

-- the number of the line after the one of this number, as far as 32 bits go
abbrev pub next_number : ℕ → ℕ
next_number n = min (n + 1) (2 ^ 32 - 1)

-- what lines say, the first of which has this number
abbrev pub said_by : Reading → ℕ → List (List ℕ) → Result Script Refusal
said_by r n [] = finished r n
said_by r n (line ∷ lines) = gone_on (after_line r line) n (λ next. said_by next (next_number n) lines)

-- the script that bytes spell, or the first line that is refused
unfoldable pub script : List ℕ → Result Script Refusal
script bytes = said_by start 1 (lines_of bytes)
