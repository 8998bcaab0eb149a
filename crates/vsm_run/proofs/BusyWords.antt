-- A processor's busy word is 0 while it is in no access.
use Rattle.std.proofs.Common.{◌≡◌, ◌≢◌, ◌<◌, ◌+◌, ◌⊎◌, inl, inr, eqb, ℕ, true, false, List, length, get_or, slice_set, refl, sym, ◌∙◌, subst, arith}
use Rattle.std.specs.Prelude.{slice_index}
use Rattle.std.proofs.lemmas.Bool.Decides.{eqb_tells}
use Rattle.std.proofs.lemmas.Grind.{get_or-set_at}
use Rattle.std.proofs.lemmas.List.{get_or-set_other}
use Rattle.vsm_base.specs.declared.places.Limits.{Limits}
use Rattle.vsm_core.specs.declared.event.PendingWord.{PendingWord}
use Rattle.vsm_core.specs.declared.event.Phase.{Phase}
use Rattle.vsm_core.specs.declared.event.Phase.TheVariants.{Idle}
use Rattle.vsm_core.specs.Seat.{Fabric}
use Rattle.vsm_core.specs.Steps.{phase_after}
use Rattle.vsm_core.specs.Tree.{WordStep, Entering, Checking, Masking, Reading, Writing, Leaving, Posting, Taking}
use Rattle.vsm_core.specs.Whole.{memory_place, posted_place}
use Rattle.vsm_core.specs.Words.{busy_at, memory_at, posted_at, words_by}
use Rattle.vsm_run.specs.Serving.{Agrees}

module _ (limits : Limits) (p : ℕ) (words : List ℕ) (q : ℕ) (low : q < limits.vps) where
  abbrev busy : List ℕ → ℕ
  busy ws = slice_index ws (busy_at limits q)

  -- a write behind the busy words
  behind : (place value : ℕ) → busy (slice_set words (posted_at limits + place) value) ≡ busy words
  behind place value = get_or-set_other words (posted_at limits + place) (busy_at limits q) value 0 (λ e. omega (arith, e, low))

  in_memory : (place value : ℕ) → busy (slice_set words (memory_at limits + place) value) ≡ busy words
  in_memory place value = get_or-set_other words (memory_at limits + place) (busy_at limits q) value 0 (λ e. omega (arith, e, low))

  at_other : q ≢ p → (value : ℕ) → busy (slice_set words (busy_at limits p) value) ≡ busy words
  at_other apart value = get_or-set_other words (busy_at limits p) (busy_at limits q) value 0 (λ e. apart (omega (arith, e)))

  -- a step of another processor
  other-busy : q ≢ p → (s : WordStep) → busy (words_by limits p words s) ≡ busy words
  other-busy apart Entering = at_other apart 1
  other-busy apart Checking = refl
  other-busy apart (Masking page) = refl
  other-busy apart (Reading page index) = refl
  other-busy apart (Writing page index value) = in_memory (memory_place page index) value
  other-busy apart Leaving = at_other apart 0
  other-busy apart (Posting vp word bits) = behind (posted_place limits vp word) _
  other-busy apart (Taking word) = behind (posted_place limits p word) 0

-- the processor's own step
own-busy : (limits : Limits) (p : ℕ) (words : List ℕ) (s : WordStep) (x : ℕ) (phase : Phase) → p < limits.vps → busy_at limits p < length words → (phase ≡ Idle → slice_index words (busy_at limits p) ≡ 0) → phase_after phase s x ≡ Idle → slice_index (words_by limits p words s) (busy_at limits p) ≡ 0
own-busy limits p words Entering x phase low long was idle = cc
own-busy limits p words Checking x phase low long was idle = cc
own-busy limits p words (Masking page) x phase low long was idle = was idle
own-busy limits p words (Reading page index) x phase low long was idle = was idle
own-busy limits p words (Writing page index value) x phase low long was idle = in_memory limits p words p low (memory_place page index) value ∙ was idle
own-busy limits p words Leaving x phase low long was idle = get_or-set_at words (busy_at limits p) (busy_at limits p) 0 0 refl long
own-busy limits p words (Posting vp word bits) x phase low long was idle = behind limits p words p low (posted_place limits vp word) _ ∙ was idle
own-busy limits p words (Taking word) x phase low long was idle = behind limits p words p low (posted_place limits p word) 0 ∙ was idle

-- a step of a processor keeps it so for all
pub step-agrees : (limits : Limits) (p : ℕ) (s : WordStep) (x : ℕ) (f g : Fabric) → p < length f.phases → busy_at limits p < length f.words → g.words ≡ words_by limits p f.words s → g.phases ≡ slice_set f.phases p (phase_after (get_or f.phases p Idle) s x) → Agrees limits f → Agrees limits g
step-agrees limits p s x f g there long words phases agrees = λ q low idle. subst (λ ws. slice_index ws (busy_at limits q) ≡ 0) (sym words) (go q low (eqb_tells q p) (subst (λ ps. get_or ps q Idle ≡ Idle) phases idle)) where
  go : (q : ℕ) → q < limits.vps → ((eqb q p ≡ true) × (q ≡ p)) ⊎ ((eqb q p ≡ false) × (q ≢ p)) → get_or (slice_set f.phases p (phase_after (get_or f.phases p Idle) s x)) q Idle ≡ Idle → slice_index (words_by limits p f.words s) (busy_at limits q) ≡ 0
  go q low (inl here) idle =
      let own : get_or (slice_set f.phases p (phase_after (get_or f.phases p Idle) s x)) p Idle ≡ Idle = subst (λ i. get_or (slice_set f.phases p (phase_after (get_or f.phases p Idle) s x)) i Idle ≡ Idle) here.1 idle in
      let after : phase_after (get_or f.phases p Idle) s x ≡ Idle = sym (get_or-set_at f.phases p p (phase_after (get_or f.phases p Idle) s x) Idle refl there) ∙ own in
      let low_p : p < limits.vps = subst (λ i. i < limits.vps) here.1 low in
      subst (λ i. slice_index (words_by limits p f.words s) (busy_at limits i) ≡ 0) (sym here.1) (own-busy limits p f.words s x (get_or f.phases p Idle) low_p long (λ e. agrees p low_p e) after)
  go q low (inr other) idle =
      other-busy limits p f.words q low other.1 s ∙ agrees q low (sym (get_or-set_other f.phases p q (phase_after (get_or f.phases p Idle) s x) Idle other.1) ∙ idle)

-- a word that is posted to is no busy word
pub taking-agrees : (limits : Limits) (p : ℕ) (word : PendingWord) (f g : Fabric) → g.words ≡ words_by limits p f.words (Taking word) → g.phases ≡ f.phases → Agrees limits f → Agrees limits g
taking-agrees limits p word f g words phases agrees = λ q low idle.
    subst (λ ws. slice_index ws (busy_at limits q) ≡ 0) (sym words) (behind limits p f.words q low (posted_place limits p word) 0 ∙ agrees q low (subst (λ ps. get_or ps q Idle ≡ Idle) phases idle))
