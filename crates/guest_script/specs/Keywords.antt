-- The kinds of lines: how each begins, and where it can stand.
use Rattle.std.specs.Prelude.{ℕ, List, [], ◌∷◌, Bool, true, false, codes, Option, find}
use Rattle.std.specs.Str.{bytes_eq}
use Rattle.guest_script.specs.declared.keyword.Keyword.{Keyword}
use Rattle.guest_script.specs.declared.keyword.Keyword.TheVariants as words
use Rattle.guest_script.specs.declared.keyword.Stage.{Stage}
use Rattle.guest_script.specs.declared.keyword.Stage.TheVariants as stages

-- the kinds of lines
unfoldable pub all_keywords : List Keyword
all_keywords =
    words.Vsm ∷
    words.Vps ∷
    words.Pages ∷
    words.Budget ∷
    words.Started ∷
    words.Mask ∷
    words.Word ∷
    words.Program ∷
    words.Set ∷
    words.Get ∷
    words.Load ∷
    words.Store ∷
    words.Exec ∷
    words.Spin ∷
    words.Jump ∷
    words.JumpNe ∷
    words.Hypercall ∷
    words.VtlCall ∷
    words.VtlReturn ∷
    words.Poll ∷
    words.Ack ∷
    words.Eoi ∷
    words.Eom ∷
    words.Schedule ∷
    words.End ∷ []

-- the first word of a line of this kind
abbrev pub spelling : Keyword → List ℕ
spelling words.Vsm = codes "vsm"
spelling words.Vps = codes "vps"
spelling words.Pages = codes "pages"
spelling words.Budget = codes "budget"
spelling words.Started = codes "started"
spelling words.Mask = codes "mask"
spelling words.Word = codes "word"
spelling words.Program = codes "program"
spelling words.Set = codes "set"
spelling words.Get = codes "get"
spelling words.Load = codes "load"
spelling words.Store = codes "store"
spelling words.Exec = codes "exec"
spelling words.Spin = codes "spin"
spelling words.Jump = codes "jump"
spelling words.JumpNe = codes "jumpne"
spelling words.Hypercall = codes "hypercall"
spelling words.VtlCall = codes "vtlcall"
spelling words.VtlReturn = codes "vtlreturn"
spelling words.Poll = codes "poll"
spelling words.Ack = codes "ack"
spelling words.Eoi = codes "eoi"
spelling words.Eom = codes "eom"
spelling words.Schedule = codes "schedule"
spelling words.End = codes "end"

abbrev pub is_spelled : List ℕ → Keyword → Bool
is_spelled word keyword = bytes_eq (spelling keyword) word

-- the kind of line that a first word begins
unfoldable pub keyword_of : List ℕ → Option Keyword
keyword_of word = find (is_spelled word) all_keywords

-- whether a line of this kind can stand at this stage
abbrev pub stands : Keyword → Stage → Bool
stands words.Vsm stages.Vsm = true
stands words.Vps stages.Vps = true
stands words.Pages stages.Pages = true
stands words.Budget stages.Budget = true
stands words.Started stages.Started = true
stands words.Mask stages.Memory = true
stands words.Word stages.Memory = true
stands words.Program stages.Memory = true
stands words.Program (stages.Program vp level) = true
stands words.Set (stages.Program vp level) = true
stands words.Get (stages.Program vp level) = true
stands words.Load (stages.Program vp level) = true
stands words.Store (stages.Program vp level) = true
stands words.Exec (stages.Program vp level) = true
stands words.Spin (stages.Program vp level) = true
stands words.Jump (stages.Program vp level) = true
stands words.JumpNe (stages.Program vp level) = true
stands words.Hypercall (stages.Program vp level) = true
stands words.VtlCall (stages.Program vp level) = true
stands words.VtlReturn (stages.Program vp level) = true
stands words.Poll (stages.Program vp level) = true
stands words.Ack (stages.Program vp level) = true
stands words.Eoi (stages.Program vp level) = true
stands words.Eom (stages.Program vp level) = true
stands words.Schedule stages.Memory = true
stands words.Schedule (stages.Program vp level) = true
stands words.Schedule stages.Schedule = true
stands words.End stages.Memory = true
stands words.End (stages.Program vp level) = true
stands words.End stages.Schedule = true
stands _ _ = false
