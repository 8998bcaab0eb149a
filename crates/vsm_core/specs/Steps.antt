-- The atomic steps of a processor: the event that each is, what it teaches, and when it may be made.
use Rattle.std.specs.Prelude.{◌≡◌, ◌≢◌, ℕ, ◌<◌, List, [], ◌∷◌}
use Rattle.vsm_base.specs.declared.places.Limits.{Limits}
use Rattle.vsm_core.specs.declared.event.Event.{Event}
use Rattle.vsm_core.specs.declared.event.Event.TheVariants as events
use Rattle.vsm_core.specs.declared.event.PendingWord.{PendingWord}
use Rattle.vsm_core.specs.declared.event.PendingWord.TheVariants.{Start, Vectors}
use Rattle.vsm_core.specs.declared.event.Phase.{Phase}
use Rattle.vsm_core.specs.declared.event.Phase.TheVariants.{Idle, Entered, In}
use Rattle.vsm_core.specs.Tree.{WordStep, Entering, Checking, Masking, Reading, Writing, Leaving, Posting, Taking}

-- the event of a step that was answered so
abbrev pub made : WordStep → ℕ → Event
made Entering x = events.Enter
made Checking x = events.Check x
made (Masking page) x = events.Mask (record { 0 = page }) x
made (Reading page index) x = events.Read index (record { 0 = page }) x
made (Writing page index value) x = events.Write index (record { 0 = page }) value
made Leaving x = events.Leave
made (Posting vp word bits) x = events.Post (record { 0 = vp }) word bits
made (Taking word) x = events.Take word x

-- what an attempt learns from an event: what a load or a take found, and nothing from a write
abbrev pub learned : Event → ℕ
learned (events.Check generation) = generation
learned (events.Mask page mask) = mask
learned (events.Read index page value) = value
learned (events.Take word bits) = bits
learned _ = 0

-- where a processor is in its access after a step
abbrev pub phase_after : Phase → WordStep → ℕ → Phase
phase_after phase Entering x = Entered
phase_after phase Checking x = In x
phase_after phase (Masking page) x = phase
phase_after phase (Reading page index) x = phase
phase_after phase (Writing page index value) x = phase
phase_after phase Leaving x = Idle
phase_after phase (Posting vp word bits) x = phase
phase_after phase (Taking word) x = phase

-- where a processor is in its access after these events, newest first
abbrev pub phase_of : List Event → Phase
phase_of [] = Idle
phase_of (events.Enter ∷ es) = Entered
phase_of (events.Check generation ∷ es) = In generation
phase_of (events.Leave ∷ es) = Idle
phase_of (e ∷ es) = phase_of es

-- the generation was checked in this access
abbrev pub IsIn : Phase → Type 0
IsIn Idle = ⊥
IsIn Entered = ⊥
IsIn (In generation) = Unit {0}

-- a word of pending vectors
abbrev pub IsVectors : PendingWord → Type 0
IsVectors Start = ⊥
IsVectors (Vectors level part) = part < 4

-- a word from which a processor takes
abbrev pub IsPending : PendingWord → Type 0
IsPending Start = Unit {0}
IsPending (Vectors level part) = part < 4

-- when a step may be made
abbrev pub MayStep : Limits → Phase → WordStep → Type 0
MayStep limits phase Entering = phase ≡ Idle
MayStep limits phase Checking = phase ≡ Entered
MayStep limits phase (Masking page) = IsIn phase × (page < limits.pages)
MayStep limits phase (Reading page index) = IsIn phase × (page < limits.pages) × (index < 512)
MayStep limits phase (Writing page index value) = IsIn phase × (page < limits.pages) × (index < 512)
MayStep limits phase Leaving = phase ≢ Idle
MayStep limits phase (Posting vp word bits) = (vp < limits.vps) × IsVectors word
MayStep limits phase (Taking word) = IsPending word
