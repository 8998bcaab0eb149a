-- What a processor's interrupt controllers hold, and what becomes of messages (TLFS, Synthetic Interrupt Controller: Message Slots, SINT Registers, EOM Register).
use Rattle.std.specs.Prelude.{ℕ, suc, ◌/◌, ◌%◌, ◌^◌, ◌==◌, ◌&&◌, Bool, true, false, if◌then◌else◌, nat_le, Option, Some, None, List, [], ◌∷◌, ◌++◌, take, drop}
use Rattle.vsm_base.specs.declared.name.Name.TheVariants as names
use Rattle.vsm_base.specs.declared.places.Vtl.{Vtl}
use Rattle.vsm_base.specs.declared.places.Vtl.TheVariants.{Zero, One}
use Rattle.vsm_core.specs.declared.event.PendingWord.{PendingWord}
use Rattle.vsm_core.specs.declared.event.PendingWord.TheVariants.{Vectors as VectorsWord}
use Rattle.vsm_core.specs.declared.mark.EomWord.{EomWord}
use Rattle.vsm_core.specs.declared.mark.EomWord.TheVariants as eoms
use Rattle.vsm_core.specs.declared.mark.Posted.{Posted}
use Rattle.vsm_core.specs.declared.mark.Posted.TheVariants.{Slot, Waiting}
use Rattle.vsm_core.specs.declared.note.Note.{Note}
use Rattle.vsm_core.specs.Messages.{message_words, is_free, with_pending, flagged}
use Rattle.vsm_core.specs.Registers.{get as get_in}
use Rattle.vsm_core.specs.State.{State}
use Rattle.vsm_core.specs.Switch.{page_named}
use Rattle.vsm_core.specs.Tree.{WordStep, Writing, Posting}
use Rattle.vsm_core.specs.Vectors.{Vectors, no_vectors, part_of, bit_of, all_requested}

-- each level's vectors, and the notes whose messages wait for level 1's slot, the oldest first
pub record Controllers : Type 0 where
  pub zero : Vectors
  pub one : Vectors
  pub waiting : List Note

unfoldable pub opening_controllers : Controllers
opening_controllers = record { zero = no_vectors; one = no_vectors; waiting = [] }

abbrev pub vectors_at : Controllers → Vtl → Vectors
vectors_at controllers Zero = controllers.zero
vectors_at controllers One = controllers.one

abbrev pub with_vectors : Controllers → Vtl → Vectors → Controllers
with_vectors controllers Zero vectors = record controllers { zero = vectors }
with_vectors controllers One vectors = record controllers { one = vectors }

-- a processor's words of pending vectors, level 0's first
abbrev pub vector_words : List PendingWord
vector_words =
    VectorsWord Zero 0 ∷ VectorsWord Zero 1 ∷ VectorsWord Zero 2 ∷ VectorsWord Zero 3
    ∷ VectorsWord One 0 ∷ VectorsWord One 1 ∷ VectorsWord One 2 ∷ VectorsWord One 3 ∷ []

-- what was found in all of these words is requested
abbrev pub with_taken : Controllers → List ℕ → Controllers
with_taken controllers found =
    record controllers { zero = all_requested controllers.zero (take 4 found); one = all_requested controllers.one (drop 4 found) }

-- the page of level 1's message slot among so many pages, where it is on: bit 0 of Scontrol and of Simp is 1, and the page that Simp names is there
abbrev pub message_page : ℕ → State → Option ℕ
message_page pages state =
    if get_in state.registers One names.Scontrol % 2 == 1 then page_named pages (get_in state.registers One names.Simp % 2 ^ 64) else None

abbrev pub has_none : List Note → Bool
has_none [] = true
has_none (note ∷ notes) = false

-- the message slot, by its first word, is there and free; there is none where the page is off
abbrev pub is_open : Option ℕ → Bool
is_open None = false
is_open (Some word) = is_free word

-- where the message of a new note goes: into the slot where that is free and no older one waits
abbrev pub posted_by : Option ℕ → List Note → Posted
posted_by slot waiting = if is_open slot && has_none waiting then Slot else Waiting

-- the notes that wait after that
abbrev pub waiting_after : Posted → List Note → Note → List Note
waiting_after Waiting waiting note = waiting ++ note ∷ []
waiting_after _ waiting note = waiting

abbrev pub noted : Controllers → Posted → Note → Controllers
noted controllers posted note = record controllers { waiting = waiting_after posted controllers.waiting note }

-- these words are written, from this place on
abbrev pub writes : ℕ → ℕ → List ℕ → List WordStep
writes page index [] = []
writes page index (word ∷ words) = Writing page index word ∷ writes page (suc index) words

-- the vector of Sint0 is its bits 7 to 0; it is masked where bit 16 is 1, and below 0x10 it is none
abbrev pub sint0_vector : ℕ → Option ℕ
sint0_vector sint = if (sint / 2 ^ 16 % 2 == 0) && nat_le 16 (sint % 256) then Some (sint % 256) else None

-- the vector of Sint0 is requested for level 1 of this processor
abbrev pub rings : ℕ → Option ℕ → List WordStep
rings number None = []
rings number (Some vector) = Posting number (VectorsWord One (part_of vector)) (bit_of vector) ∷ []

-- a message goes to the slot: its words in order of address, and then the vector
abbrev pub message_steps : ℕ → State → ℕ → List ℕ → List WordStep
message_steps number state page words = writes page 0 words ++ rings number (sint0_vector (get_in state.registers One names.Sint0 % 2 ^ 64))

-- the slot is told that more messages wait
abbrev pub pending_steps : ℕ → ℕ → List WordStep
pending_steps page word = Writing page 0 (with_pending word) ∷ []

-- the words of a new note's message, where the slot has this first word
abbrev pub post_steps : ℕ → State → ℕ → ℕ → List Note → Note → List WordStep
post_steps number state page word waiting note =
    if is_free word then (if has_none waiting then message_steps number state page (message_words note) else []) else pending_steps page word

-- what an end of message does, where the slot has this first word
abbrev pub eom_by : Option ℕ → List Note → EomWord
eom_by slot [] = eoms.Nothing
eom_by slot (note ∷ more) = if is_open slot then eoms.Slot else eoms.Waiting

-- the notes that wait after that
abbrev pub waiting_then : Option ℕ → List Note → List Note
waiting_then slot [] = []
waiting_then slot (note ∷ more) = if is_open slot then more else note ∷ more

-- the words of the oldest message that waits
abbrev pub eom_steps : ℕ → State → ℕ → ℕ → Note → List Note → List WordStep
eom_steps number state page word note more =
    if is_free word then message_steps number state page (flagged (if has_none more then false else true) (message_words note)) else pending_steps page word
