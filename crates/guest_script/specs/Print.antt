-- The text that a script is printed as.
use Rattle.std.specs.Prelude.{ℕ, ◌+◌, List, [], ◌∷◌, ◌++◌, map, Bool, true, false, if◌then◌else◌, ◌==◌, codes}
use Rattle.std.specs.Fmt.{decimal, digits}
use Rattle.std.specs.List.{flat_map}
use Rattle.vsm_base.specs.Names as registers
use Rattle.vsm_base.specs.declared.places.Limits.{Limits}
use Rattle.vsm_base.specs.declared.places.Page.{Page}
use Rattle.vsm_core.specs.declared.operation.Op.{Op}
use Rattle.vsm_core.specs.declared.operation.Op.TheVariants as ops
use Rattle.vsm_core.specs.declared.operation.Operand.{Operand}
use Rattle.vsm_core.specs.declared.operation.Operand.TheVariants as operands
use Rattle.vsm_core.specs.declared.operation.Program.{Program}
use Rattle.guest_script.specs.Fields.{Words}
use Rattle.guest_script.specs.Keywords.{spelling}
use Rattle.guest_script.specs.declared.keyword.Keyword.TheVariants as words
use Rattle.guest_script.specs.declared.script.Script.{Script}
use Rattle.guest_script.specs.declared.script.Turns.{Turns}

-- a value or an address: 0x and lower-case digits, with no leading zeros
abbrev pub hex : ℕ → List ℕ
hex n = codes "0x" ++ digits 16 false n

-- a word that isn't the first of its line: one space stands before it
abbrev pub after_space : List ℕ → List ℕ
after_space word = 32 ∷ word

-- a line of these words
abbrev pub line_text : Words → List ℕ
line_text [] = 10 ∷ []
line_text (word ∷ others) = word ++ flat_map after_space others ++ 10 ∷ []

-- what a store writes
abbrev pub operand_word : Operand → List ℕ
operand_word (operands.Number n) = hex n
operand_word (operands.Register name) = registers.spelling name

-- an operation
abbrev pub op_words : Op → Words
op_words (ops.Set name value) = spelling words.Set ∷ registers.spelling name ∷ hex value ∷ []
op_words (ops.Get name) = spelling words.Get ∷ registers.spelling name ∷ []
op_words (ops.Load name address) = spelling words.Load ∷ registers.spelling name ∷ hex address.0 ∷ []
op_words (ops.Store address value) = spelling words.Store ∷ hex address.0 ∷ operand_word value ∷ []
op_words (ops.Exec address) = spelling words.Exec ∷ hex address.0 ∷ []
op_words (ops.Spin address value) = spelling words.Spin ∷ hex address.0 ∷ hex value ∷ []
op_words (ops.Jump target) = spelling words.Jump ∷ decimal target ∷ []
op_words (ops.JumpNe name value target) = spelling words.JumpNe ∷ registers.spelling name ∷ hex value ∷ decimal target ∷ []
op_words (ops.Invlpg address) = codes "invlpg" ∷ hex address.0 ∷ []
op_words ops.Hypercall = spelling words.Hypercall ∷ []
op_words ops.VtlCall = spelling words.VtlCall ∷ []
op_words ops.VtlReturn = spelling words.VtlReturn ∷ []
op_words ops.Poll = spelling words.Poll ∷ []
op_words (ops.Ack name) = spelling words.Ack ∷ registers.spelling name ∷ []
op_words ops.Eoi = spelling words.Eoi ∷ []
op_words ops.Eom = spelling words.Eom ∷ []

-- the five opening lines
abbrev pub head_lines : Limits → ℕ → List Words
head_lines limits started =
    (spelling words.Vsm ∷ decimal 1 ∷ []) ∷
    (spelling words.Vps ∷ decimal limits.vps ∷ []) ∷
    (spelling words.Pages ∷ decimal limits.pages ∷ []) ∷
    (spelling words.Budget ∷ decimal limits.budget ∷ []) ∷
    (spelling words.Started ∷ decimal started ∷ []) ∷ []

-- a page's mask
abbrev pub mask_words : Page × ℕ → Words
mask_words m = spelling words.Mask ∷ decimal m.0.0 ∷ decimal m.1 ∷ []

-- a memory word's value
abbrev pub word_words : Page × ℕ × ℕ → Words
word_words w = spelling words.Word ∷ decimal w.0.0 ∷ decimal w.1 ∷ hex w.2 ∷ []

-- the program of a processor's level, which isn't printed where it is empty
abbrev pub level_lines : ℕ → ℕ → List Op → List Words
level_lines vp level [] = []
level_lines vp level (op ∷ others) = (spelling words.Program ∷ decimal vp ∷ decimal level ∷ []) ∷ map op_words (op ∷ others)

-- the programs of a processor
abbrev pub program_lines : ℕ → Program → List Words
program_lines vp p = level_lines vp 0 p.zero ++ level_lines vp 1 p.one

-- the programs of the processors from this number on
abbrev pub programs_lines : ℕ → List Program → List Words
programs_lines vp [] = []
programs_lines vp (p ∷ others) = program_lines vp p ++ programs_lines (vp + 1) others

-- one step at a time rather than a whole attempt
abbrev single_mark : Bool → List ℕ
single_mark true = 33 ∷ []
single_mark false = []

-- how many times, where it isn't once
abbrev times : ℕ → List ℕ
times count = if count == 1 then [] else 42 ∷ decimal count

-- an entry of the schedule
abbrev pub entry_word : Turns → List ℕ
entry_word t = decimal t.vp.0 ++ single_mark t.single ++ times t.count

-- a line of the schedule
abbrev pub schedule_words : List Turns → Words
schedule_words turns = spelling words.Schedule ∷ map entry_word turns

-- the lines of a script, each by its words
unfoldable pub lines_said : Script → List Words
lines_said s =
    head_lines s.limits s.started ++ map mask_words s.masks ++ map word_words s.words ++ programs_lines 0 s.programs ++ map schedule_words s.schedule ++ (spelling words.End ∷ []) ∷ []

-- the text of a script
unfoldable pub printed : Script → List ℕ
printed s = flat_map line_text (lines_said s)
