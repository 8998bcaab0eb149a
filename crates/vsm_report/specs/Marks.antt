-- The lines of marks.
use Rattle.std.specs.Prelude.{ℕ, List, [], ◌∷◌, ◌++◌, Option, Some, None, codes, slice_get}
use Rattle.std.specs.List.{concat}
use Rattle.std.specs.Fmt.{decimal}
use Rattle.vsm_base.specs.Levels.{level_number}
use Rattle.vsm_base.specs.Names.{spelling}
use Rattle.vsm_base.specs.declared.name.Name.{Name}
use Rattle.vsm_base.specs.declared.places.VpIndex.{VpIndex}
use Rattle.vsm_base.specs.declared.places.Vtl.{Vtl}
use Rattle.vsm_base.specs.declared.places.Vtl.TheVariants.{Zero, One}
use Rattle.vsm_core.specs.declared.mark.Denial.{Denial}
use Rattle.vsm_core.specs.declared.mark.EomWord.{EomWord}
use Rattle.vsm_core.specs.declared.mark.Grant.{Grant}
use Rattle.vsm_core.specs.declared.mark.GuestFault.{GuestFault}
use Rattle.vsm_core.specs.declared.mark.Posted.{Posted}
use Rattle.vsm_core.specs.declared.mark.What.{What}
use Rattle.vsm_core.specs.declared.mark.What.TheVariants as whats
use Rattle.vsm_core.specs.declared.mark.Mark.{Mark}
use Rattle.vsm_core.specs.declared.operation.Op.{Op}
use Rattle.vsm_core.specs.declared.operation.Op.TheVariants as ops
use Rattle.vsm_core.specs.declared.operation.Program.{Program}
use Rattle.guest_script.specs.declared.script.Script.{Script}
use Rattle.vsm_report.specs.Pieces.{hex_digits, line}
use Rattle.vsm_report.specs.Words.{op_word, access_word, posted_word, eom_word, fault_word, mask_word, value_word}

-- a program's operations of a level
abbrev pub operations : Program → Vtl → List Op
operations program Zero = program.zero
operations program One = program.one

-- the operation that stands at a mark's level and Rip in a program
abbrev pub operation_in : Option Program → Mark → Option Op
operation_in None mark = None
operation_in (Some program) mark = slice_get (operations program mark.level) mark.rip

-- the operation that stands at a mark's level and Rip in the program of its processor
unfoldable pub operation_at : Script → VpIndex → Mark → Option Op
operation_at s vp m = operation_in (slice_get s.programs vp.0) m

-- the processor, the level, Rip and the operation of a mark
unfoldable pub place_text : VpIndex → Mark → Op → List ℕ
place_text vp m op =
    concat (decimal vp.0 ∷ codes "." ∷ decimal (level_number m.level) ∷ codes " " ∷ decimal m.rip ∷ codes " " ∷ op_word op ∷ [])

-- behind an operation whose outcome has nothing more to tell: the pairs of operation and outcome that aren't named below
abbrev pub bare_text : List ℕ
bare_text = line []

-- an access that was granted, with the word that it read or wrote
abbrev pub valued_text : List ℕ → Grant → List ℕ
valued_text head g =
    line (head ∷ decimal g.page.0 ∷ codes " mask " ∷ mask_word g.mask ∷ codes " gen " ∷ decimal g.generation ∷ codes " value 0x" ∷ hex_digits 16 g.value ∷ [])

abbrev pub granted_text : Op → Grant → List ℕ
granted_text (ops.Load name gva) g = valued_text (codes " ok page ") g
granted_text (ops.Store gva operand) g = valued_text (codes " ok page ") g
granted_text (ops.Spin gva value) g = valued_text (codes " ok page ") g
granted_text (ops.Exec gva) g =
    line (codes " ok page " ∷ decimal g.page.0 ∷ codes " mask " ∷ mask_word g.mask ∷ codes " gen " ∷ decimal g.generation ∷ [])
granted_text _ g = bare_text

-- a spin that found another value
abbrev pub again_text : Op → Grant → List ℕ
again_text (ops.Spin gva value) g = valued_text (codes " again page ") g
again_text _ g = bare_text

-- an access that was denied, whatever the operation
abbrev pub denied_text : Denial → List ℕ
denied_text d =
    line (codes " denied page " ∷ decimal d.page.0 ∷ codes " mask " ∷ decimal d.mask ∷ codes " gen " ∷ decimal d.generation ∷ codes " access " ∷ access_word d.access ∷ codes " " ∷ posted_word d.posted ∷ [])

abbrev pub register_fault_text : Name → GuestFault → List ℕ
register_fault_text name kind = line (codes " " ∷ spelling name ∷ codes " fault " ∷ fault_word kind ∷ [])

-- a guest fault, whatever the operation; a set and a get tell their register too
abbrev pub fault_text : Op → GuestFault → List ℕ
fault_text (ops.Set name value) kind = register_fault_text name kind
fault_text (ops.Get name) kind = register_fault_text name kind
fault_text _ kind = line (codes " fault " ∷ fault_word kind ∷ [])

abbrev pub register_text : Name → ℕ → List ℕ
register_text name value = line (codes " " ∷ spelling name ∷ codes " 0x" ∷ value_word name value ∷ [])

-- a register and its value
abbrev pub value_text : Op → ℕ → List ℕ
value_text (ops.Get name) value = register_text name value
value_text (ops.Ack name) value = register_text name value
value_text _ value = bare_text

abbrev pub intercept_text : Name → Posted → List ℕ
intercept_text name where_to = line (codes " " ∷ spelling name ∷ codes " intercept " ∷ posted_word where_to ∷ [])

-- a register that level 1 intercepts
abbrev pub hit_text : Op → Posted → List ℕ
hit_text (ops.Set name value) where_to = intercept_text name where_to
hit_text (ops.Get name) where_to = intercept_text name where_to
hit_text _ where_to = bare_text

-- a hypercall that goes on at this element
abbrev pub part_text : Op → ℕ → List ℕ
part_text ops.Hypercall next = line (codes " part " ∷ decimal next ∷ [])
part_text _ next = bare_text

-- a hypercall's result
abbrev pub reply_text : Op → ℕ → List ℕ
reply_text ops.Hypercall value = line (codes " done 0x" ∷ hex_digits 16 value ∷ [])
reply_text _ value = bare_text

-- level 1 was entered
abbrev pub entered_text : Op → List ℕ
entered_text ops.Poll = line (codes " enter" ∷ [])
entered_text _ = bare_text

-- it was done
abbrev pub plain_text : Op → List ℕ
plain_text (ops.Set name value) = line (codes " " ∷ spelling name ∷ codes " ok" ∷ [])
plain_text (ops.Jump to) = line (codes " ok" ∷ [])
plain_text (ops.JumpNe name value to) = line (codes " ok" ∷ [])
plain_text (ops.Invlpg gva) = line (codes " ok" ∷ [])
plain_text ops.VtlCall = line (codes " ok" ∷ [])
plain_text ops.VtlReturn = line (codes " ok" ∷ [])
plain_text ops.Poll = line (codes " ok" ∷ [])
plain_text ops.Eoi = line (codes " ok" ∷ [])
plain_text _ = bare_text

-- what an end of message did
abbrev pub eom_text : Op → EomWord → List ℕ
eom_text ops.Eom word = line (codes " " ∷ eom_word word ∷ [])
eom_text _ word = bare_text

-- what an attempt came to, up to the end of its line
abbrev pub what_text : Op → What → List ℕ
what_text op (whats.Granted g) = granted_text op g
what_text op (whats.Again g) = again_text op g
what_text op (whats.Denied d) = denied_text d
what_text op (whats.Fault kind) = fault_text op kind
what_text op (whats.Value value) = value_text op value
what_text op (whats.Hit where_to) = hit_text op where_to
what_text op (whats.Part next) = part_text op next
what_text op (whats.Reply value) = reply_text op value
what_text op whats.Entered = entered_text op
what_text op whats.Plain = plain_text op
what_text op (whats.Eom word) = eom_text op word
what_text op whats.Started = bare_text

-- the line of a mark of this operation; none where no operation stands at its place
abbrev pub attempt_text : VpIndex → Mark → Option Op → List ℕ
attempt_text vp m None = []
attempt_text vp m (Some op) = place_text vp m op ++ what_text op m.what

-- the line of a start, which is no operation's
abbrev pub start_text : VpIndex → Mark → List ℕ
start_text vp m =
    line (decimal vp.0 ∷ codes "." ∷ decimal (level_number m.level) ∷ codes " " ∷ decimal m.rip ∷ codes " start ok" ∷ [])

abbrev pub came_to_text : Script → VpIndex → Mark → What → List ℕ
came_to_text s vp m whats.Started = start_text vp m
came_to_text s vp m _ = attempt_text vp m (operation_at s vp m)

-- the line of a mark
abbrev pub mark_text : Script → VpIndex → Mark → List ℕ
mark_text s vp m = came_to_text s vp m m.what
