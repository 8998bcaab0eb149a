-- The start of a processor, turn by turn.
use Rattle.std.specs.Prelude.{◌≡◌, ◌≢◌, ℕ, None, List}
use Rattle.vsm_base.specs.declared.places.Limits.{Limits}
use Rattle.vsm_core.specs.declared.event.PendingWord.TheVariants.{Start}
use Rattle.vsm_core.specs.declared.request.PartCall.TheVariants.{Fetch}
use Rattle.vsm_core.specs.Hypercalls.{asked_of}
use Rattle.vsm_core.specs.Outcomes.{Origin, Outcome}
use Rattle.vsm_core.specs.Processor.{Vp, saw}
use Rattle.vsm_core.specs.Starts.{start_outcome}
use Rattle.vsm_core.specs.Steps.{made}
use Rattle.vsm_core.specs.Tree.{Tree, Ends, Wants, Taking}
use Rattle.vsm_core.specs.Words.{answer_of, words_by}
use Rattle.cpu.specs.declared.cpu_turn.CpuTurn.{CpuTurn}
use Rattle.cpu.specs.declared.cpu_turn.CpuTurn.TheVariants as turns

-- what is left of a start once it was taken from the start word
abbrev pub fetches : Origin → Tree Outcome
fetches from = Wants (asked_of from Fetch) (λ reply. Ends (start_outcome from reply))

-- what the processor's start word holds
abbrev pub start_word : Limits → Vp → List ℕ → ℕ
start_word limits v words = answer_of limits v.number words (Taking Start)

-- the start word was 0, and nothing changed
pub record Waits (limits : Limits) (v n : Vp) (words now : List ℕ) : Type 0 where
  pub none : start_word limits v words ≡ 0
  pub same : n ≡ v
  pub stays : now ≡ words

-- a start was taken from the start word
pub record Takes (limits : Limits) (v n : Vp) (words now : List ℕ) : Type 0 where
  pub some : start_word limits v words ≢ 0
  pub sees : n ≡ saw None v (made (Taking Start) (start_word limits v words))
  pub taken : now ≡ words_by limits v.number words (Taking Start)

-- what a turn has done that was answered so
abbrev pub StartsBy : CpuTurn → Limits → Vp → Vp → List ℕ → List ℕ → Type 0
StartsBy turns.Moved limits v n words now = Takes limits v n words now
StartsBy turns.Idle limits v n words now = Waits limits v n words now
StartsBy _ limits v n words now = ⊥
