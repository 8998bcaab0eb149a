-- What a line does to what has been read so far, or why it is refused.
use Rattle.std.specs.Prelude.{ℕ, ◌+◌, ◌^◌, List, [], ◌∷◌, ◌++◌, length, Bool, false, ◌&&◌, if◌then◌else◌, ◌==◌, nat_lt, nat_le, Option, Some, None, Result, Ok, Err, ◌≡◌}
use Rattle.std.specs.List.{list_any, list_all}
use Rattle.vsm_base.specs.declared.places.Page.{Page}
use Rattle.vsm_core.specs.declared.operation.Op.{Op}
use Rattle.vsm_core.specs.declared.operation.Op.TheVariants as ops
use Rattle.guest_script.specs.Lines.{words_of}
use Rattle.guest_script.specs.Fields.{Words, ◌>>=◌, any_number, number, valid_mask, register, named_register, operand, no_more, entries}
use Rattle.guest_script.specs.Keywords.{keyword_of, stands}
use Rattle.guest_script.specs.Programs.{nothings, operations, program_at, added}
use Rattle.guest_script.specs.Schedules.{turns_of, all_turns}
use Rattle.guest_script.specs.Within.{most_vps, most_levels}
use Rattle.guest_script.specs.Words.{page_of, is_given}
use Rattle.guest_script.specs.declared.script.Turns.{Turns}
use Rattle.guest_script.specs.declared.script.Why.{Why}
use Rattle.guest_script.specs.declared.script.Why.TheVariants.{NotText, UnknownWord, OutOfOrder, MissingWord, Twice, TooMany}
use Rattle.guest_script.specs.declared.keyword.Keyword.{Keyword}
use Rattle.guest_script.specs.declared.keyword.Keyword.TheVariants as words
use Rattle.guest_script.specs.declared.keyword.Stage.{Stage}
use Rattle.guest_script.specs.declared.keyword.Stage.TheVariants as stages
use Rattle.guest_script.specs.declared.reading.Reading.{Reading}
use Rattle.guest_script.specs.declared.reading.LineError.{LineError}
use Rattle.guest_script.specs.declared.reading.LineError.TheVariants as errors

-- what a step of the code leaves is what is said here, unless memory ran out
abbrev pub Becomes : Reading → Result (Unit {0}) LineError → Result Reading Why → Type 0
Becomes new (Ok _) said = said ≡ Ok new
Becomes new (Err (errors.Refused why)) said = said ≡ Err why
Becomes new (Err errors.Memory) said = Unit {0}

-- the entries that the code collects are those that are said here, unless memory ran out
abbrev pub Collects : Result (List Turns) LineError → Result (List Turns) Why → Type 0
Collects (Ok turns) said = said ≡ Ok turns
Collects (Err (errors.Refused why)) said = said ≡ Err why
Collects (Err errors.Memory) said = Unit {0}

-- a byte of text
abbrev pub is_text : ℕ → Bool
is_text b = nat_le 32 b && nat_le b 126

-- vsm 1
unfoldable pub vsm_line : Reading → Words → Result Reading Why
vsm_line r ws = do
  version ← number 1 2 ws
  end ← no_more version.1
  Ok (record r { stage = stages.Vps })

-- vps N, with which programs and schedule begin anew
unfoldable pub vps_line : Reading → Words → Result Reading Why
vps_line r ws = do
  n ← number 1 (most_vps + 1) ws
  end ← no_more n.1
  Ok (record r { stage = stages.Pages; limits = record r.limits { vps = n.0 }; started = n.0; programs = nothings n.0; schedule = [] })

-- pages N
unfoldable pub pages_line : Reading → Words → Result Reading Why
pages_line r ws = do
  n ← number 1 257 ws
  end ← no_more n.1
  Ok (record r { stage = stages.Budget; limits = record r.limits { pages = n.0 } })

-- budget N
unfoldable pub budget_line : Reading → Words → Result Reading Why
budget_line r ws = do
  n ← number 1 10001 ws
  end ← no_more n.1
  Ok (record r { stage = stages.Started; limits = record r.limits { budget = n.0 } })

-- started N, where the first N processors run from the beginning
unfoldable pub started_line : Reading → Words → Result Reading Why
started_line r ws = do
  n ← number 1 (r.limits.vps + 1) ws
  end ← no_more n.1
  Ok (record r { stage = stages.Memory; started = n.0 })

-- the page has a mask
abbrev pub is_masked : ℕ → List (Page × ℕ) → Bool
is_masked page masks = list_any (λ m. m.0.0 == page) masks

-- mask X M
unfoldable pub mask_line : Reading → Words → Result Reading Why
mask_line r ws = do
  page ← number 0 r.limits.pages ws
  bits ← number 0 16 page.1
  mask ← valid_mask bits.0
  end ← no_more bits.1
  if is_masked page.0 r.masks then Err Twice else Ok (record r { masks = r.masks ++ (page_of page.0, mask) ∷ [] })

-- word X I V
unfoldable pub word_line : Reading → Words → Result Reading Why
word_line r ws = do
  page ← number 0 r.limits.pages ws
  index ← number 0 512 page.1
  value ← number 0 (2 ^ 64) index.1
  end ← no_more value.1
  if is_given page.0 index.0 r.words then Err Twice else Ok (record r { words = r.words ++ (page_of page.0, index.0, value.0) ∷ [] })

-- the program of a processor and level was begun
abbrev pub is_begun : ℕ → ℕ → List (ℕ × ℕ) → Bool
is_begun vp level begun = list_any (λ b. b.0 == vp && b.1 == level) begun

-- program P L
unfoldable pub program_line : Reading → Words → Result Reading Why
program_line r ws = do
  vp ← number 0 r.limits.vps ws
  level ← number 0 most_levels vp.1
  end ← no_more level.1
  if is_begun vp.0 level.0 r.begun then Err Twice else Ok (record r { stage = stages.Program vp.0 level.0; begun = r.begun ++ (vp.0, level.0) ∷ [] })

-- one more operation of the program that this stage names
abbrev pub with_op_at : Stage → Reading → Op → Result Reading Why
with_op_at (stages.Program vp level) r op =
    if nat_lt (length (operations (program_at r.programs vp) level)) 4096 then Ok (record r { programs = added r.programs vp level op }) else Err TooMany
with_op_at _ r op = Err OutOfOrder

-- one more operation of the program that was begun last
abbrev pub with_op : Reading → Op → Result Reading Why
with_op r op = with_op_at r.stage r op

-- set NAME V
unfoldable pub set_line : Reading → Words → Result Reading Why
set_line r ws = do
  target ← named_register ws
  value ← any_number target.1
  end ← no_more value.1
  with_op r (ops.Set target.0 value.0)

-- get NAME
unfoldable pub get_line : Reading → Words → Result Reading Why
get_line r ws = do
  name ← named_register ws
  end ← no_more name.1
  with_op r (ops.Get name.0)

-- load REG GVA
unfoldable pub load_line : Reading → Words → Result Reading Why
load_line r ws = do
  target ← register ws
  address ← number 0 (2 ^ 64) target.1
  end ← no_more address.1
  with_op r (ops.Load target.0 (record { 0 = address.0 }))

-- store GVA V or store GVA REG
unfoldable pub store_line : Reading → Words → Result Reading Why
store_line r ws = do
  address ← number 0 (2 ^ 64) ws
  value ← operand address.1
  end ← no_more value.1
  with_op r (ops.Store (record { 0 = address.0 }) value.0)

-- exec GVA
unfoldable pub exec_line : Reading → Words → Result Reading Why
exec_line r ws = do
  address ← number 0 (2 ^ 64) ws
  end ← no_more address.1
  with_op r (ops.Exec (record { 0 = address.0 }))

-- spin GVA V
unfoldable pub spin_line : Reading → Words → Result Reading Why
spin_line r ws = do
  address ← number 0 (2 ^ 64) ws
  value ← number 0 (2 ^ 64) address.1
  end ← no_more value.1
  with_op r (ops.Spin (record { 0 = address.0 }) value.0)

-- jump N
unfoldable pub jump_line : Reading → Words → Result Reading Why
jump_line r ws = do
  target ← number 0 (2 ^ 64) ws
  end ← no_more target.1
  with_op r (ops.Jump target.0)

-- jumpne REG V N
unfoldable pub jump_ne_line : Reading → Words → Result Reading Why
jump_ne_line r ws = do
  name ← register ws
  value ← number 0 (2 ^ 64) name.1
  target ← number 0 (2 ^ 64) value.1
  end ← no_more target.1
  with_op r (ops.JumpNe name.0 value.0 target.0)

-- hypercall
unfoldable pub hypercall_line : Reading → Words → Result Reading Why
hypercall_line r ws = do
  end ← no_more ws
  with_op r ops.Hypercall

-- vtlcall
unfoldable pub vtl_call_line : Reading → Words → Result Reading Why
vtl_call_line r ws = do
  end ← no_more ws
  with_op r ops.VtlCall

-- vtlreturn
unfoldable pub vtl_return_line : Reading → Words → Result Reading Why
vtl_return_line r ws = do
  end ← no_more ws
  with_op r ops.VtlReturn

-- poll
unfoldable pub poll_line : Reading → Words → Result Reading Why
poll_line r ws = do
  end ← no_more ws
  with_op r ops.Poll

-- ack REG
unfoldable pub ack_line : Reading → Words → Result Reading Why
ack_line r ws = do
  target ← register ws
  end ← no_more target.1
  with_op r (ops.Ack target.0)

-- eoi
unfoldable pub eoi_line : Reading → Words → Result Reading Why
eoi_line r ws = do
  end ← no_more ws
  with_op r ops.Eoi

-- eom
unfoldable pub eom_line : Reading → Words → Result Reading Why
eom_line r ws = do
  end ← no_more ws
  with_op r ops.Eom

-- all the words as entries, of which there is one at least
abbrev pub some_entries : ℕ → Words → Result (List Turns) Why
some_entries vps [] = Err MissingWord
some_entries vps (word ∷ ws) = entries vps (word ∷ ws)

-- schedule ENTRY ..
unfoldable pub schedule_line : Reading → Words → Result Reading Why
schedule_line r ws = do
  turns ← some_entries r.limits.vps ws
  if nat_le (turns_of turns + all_turns r.schedule) 100000 then Ok (record r { stage = stages.Schedule; schedule = r.schedule ++ turns ∷ [] }) else Err TooMany

-- end
unfoldable pub end_line : Reading → Words → Result Reading Why
end_line r ws = do
  end ← no_more ws
  Ok (record r { stage = stages.Done })

-- the reading after the words behind a keyword
abbrev pub after_words : Reading → Keyword → Words → Result Reading Why
after_words r words.Vsm ws = vsm_line r ws
after_words r words.Vps ws = vps_line r ws
after_words r words.Pages ws = pages_line r ws
after_words r words.Budget ws = budget_line r ws
after_words r words.Started ws = started_line r ws
after_words r words.Mask ws = mask_line r ws
after_words r words.Word ws = word_line r ws
after_words r words.Program ws = program_line r ws
after_words r words.Set ws = set_line r ws
after_words r words.Get ws = get_line r ws
after_words r words.Load ws = load_line r ws
after_words r words.Store ws = store_line r ws
after_words r words.Exec ws = exec_line r ws
after_words r words.Spin ws = spin_line r ws
after_words r words.Jump ws = jump_line r ws
after_words r words.JumpNe ws = jump_ne_line r ws
after_words r words.Hypercall ws = hypercall_line r ws
after_words r words.VtlCall ws = vtl_call_line r ws
after_words r words.VtlReturn ws = vtl_return_line r ws
after_words r words.Poll ws = poll_line r ws
after_words r words.Ack ws = ack_line r ws
after_words r words.Eoi ws = eoi_line r ws
after_words r words.Eom ws = eom_line r ws
after_words r words.Schedule ws = schedule_line r ws
after_words r words.End ws = end_line r ws

-- the reading after a line of this kind, where it can stand here
abbrev pub after_keyword : Reading → Option Keyword → Words → Result Reading Why
after_keyword r None ws = Err UnknownWord
after_keyword r (Some keyword) ws = if stands keyword r.stage then after_words r keyword ws else Err OutOfOrder

-- a first word that makes its line a comment
abbrev pub is_comment : List ℕ → Bool
is_comment [] = false
is_comment (b ∷ word) = b == 35

-- the reading after a line of these words; a line without words is skipped, and so is a comment
abbrev pub after_first : Reading → Words → Result Reading Why
after_first r [] = Ok r
after_first r (word ∷ ws) = if is_comment word then Ok r else after_keyword r (keyword_of word) ws

-- the reading after a line
unfoldable pub after_line : Reading → List ℕ → Result Reading Why
after_line r line = if list_all is_text line then after_first r (words_of line) else Err NotText
