-- A turn of an attempt.
use Rattle.std.specs.Prelude.{◌≡◌, ℕ, ◌+◌, ◌≤◌, [], List, drop, length, reverse, Option, IfSome}
use Rattle.vsm_base.specs.declared.places.Limits.{Limits}
use Rattle.vsm_core.specs.declared.operation.Op.{Op}
use Rattle.vsm_core.specs.declared.partition_state.PartitionState.{PartitionState}
use Rattle.vsm_core.specs.declared.request.Reply.{Reply}
use Rattle.vsm_core.specs.declared.request.Request.{Request}
use Rattle.vsm_core.specs.Entries.{words_by_entries}
use Rattle.vsm_core.specs.Outcomes.{Outcome}
use Rattle.vsm_core.specs.Processor.{Vp, Did, IsSameProcessor, asking, does_all, rest_of, settled}
use Rattle.vsm_core.specs.Sound.{Sound, IsOver}
use Rattle.vsm_core.specs.Tree.{Tree, Ends, Wants, after}
use Rattle.vsm_core.specs.Words.{answer_of, words_by}
use Rattle.cpu.specs.declared.cpu_turn.CpuTurn.{CpuTurn}
use Rattle.cpu.specs.declared.cpu_turn.CpuTurn.TheVariants as turns
use Rattle.vsm_run.specs.Rests.{IsAtRest}

-- what is left of an attempt of this operation is done, with the partition in this state
abbrev pub does_rest : Limits → ℕ → Option Op → PartitionState → Vp → List ℕ → Did (List ℕ)
does_rest limits p op s v words = does_all (answer_of limits p) (words_by limits p) (words_by_entries limits) s op v words (rest_of v op)

-- a reply that was had came after no more events than the attempt has had
abbrev pub HasHeard : Vp → Type 0
HasHeard v = IfSome v.heard (λ h. h.after + v.first ≤ length v.seen)

-- what is left of the attempt asks only what may be asked after its events so far
abbrev pub StaysSound : Limits → Option Op → Vp → Type 0
StaysSound limits op v = Sound limits IsOver (reverse (drop v.first v.seen)) (rest_of v op)

-- a step with which the attempt goes on, by this answer
pub record Moves (limits : Limits) (p : ℕ) (op : Option Op) (v n : Vp) (words now : List ℕ) : Type 0 where
  pub answer : ℕ
  pub goes_on : rest_of n op ≡ after (rest_of v op) answer
  pub same_end : (s : PartitionState) → does_rest limits p op s n now ≡ does_rest limits p op s v words
  pub same : IsSameProcessor v n
  pub state : n.state ≡ v.state
  pub kept : n.op ≡ op
  pub ended : n.ended ≡ v.ended
  pub heard : n.heard ≡ v.heard
  pub nearer : length n.seen + v.first ≡ length v.seen + n.first + 1
  pub sound : StaysSound limits op v → StaysSound limits op n

-- the end of the attempt, by this answer where a step led to it; `last` is the processor before its mark
pub record Stops (limits : Limits) (p : ℕ) (op : Option Op) (v n : Vp) (words now : List ℕ) : Type 0 where
  pub answer : ℕ
  pub outcome : Outcome
  pub last : Vp
  pub ends : after (rest_of v op) answer ≡ Ends outcome
  pub marked : n ≡ settled (Ends outcome) last
  pub heard : last.heard ≡ v.heard
  pub does : (s : PartitionState) → does_rest limits p op s v words ≡ record { vp = n; words = now; served = [] }
  pub rests : IsAtRest n

-- the request of the attempt, which takes no step
pub record Hands (q : Request) (op : Option Op) (v n : Vp) (words now : List ℕ) : Type 0 where
  pub more : Reply → Tree Outcome
  pub left : rest_of v op ≡ Wants q more
  pub asks : n ≡ asking op v
  pub stays : now ≡ words

-- what a turn has done that was answered so
abbrev pub Leads : CpuTurn → Limits → ℕ → Option Op → Vp → Vp → List ℕ → List ℕ → Type 0
Leads turns.Moved limits p op v n words now = Moves limits p op v n words now
Leads (turns.Wants q) limits p op v n words now = Hands q op v n words now
Leads _ limits p op v n words now = Stops limits p op v n words now
