-- The memory words that an attempt reads.
use Rattle.std.specs.Prelude.{ℕ, List, [], ◌∷◌, ◌++◌}
use Rattle.vsm_core.specs.Outcomes.{Outcome}
use Rattle.vsm_core.specs.Processor.{Vp, operation_at, origin_of, tree_of}
use Rattle.vsm_core.specs.Served.{after, answer, block}
use Rattle.vsm_core.specs.Tree.{Tree, Ends, Asks, Wants, WordStep, Reading}
use Rattle.vsm_core.specs.Whole.{Flat, answer_in, flat_after, with_entries}
use Rattle.vsm_core.specs.declared.operation.Program.{Program}
use Rattle.vsm_core.specs.declared.partition_state.PartitionState.{PartitionState}
use Rattle.vsm_core.specs.declared.request.Reply.{Reply}
use Rattle.vsm_base.specs.declared.places.Limits.{Limits}

-- the words that were read, with that of a step which was answered so
abbrev pub with_read : List ℕ → WordStep → ℕ → List ℕ
with_read words (Reading page index) x = words ++ x ∷ []
with_read words _ x = words

-- whatever is answered, this holds at each end of the words that were read, after these, and of what it comes to
abbrev pub EndsReading : {A : Type 0} → (List ℕ → A → Type 0) → List ℕ → Tree A → Type 0
EndsReading Q words (Ends a) = Q words a
EndsReading Q words (Asks s k) = (x : ℕ) → EndsReading Q (with_read words s x) (k x)
EndsReading Q words (Wants q k) = (r : Reply) → EndsReading Q words (k r)

-- what is left of an attempt is done at once: the words that it reads, after these
abbrev pub all_read : Limits → ℕ → PartitionState → Flat → List ℕ → Tree Outcome → List ℕ
all_read limits number s flat words (Ends o) = words
all_read limits number s flat words (Asks step k) =
    all_read limits number s (flat_after limits number flat step) (with_read words step (answer_in limits number flat step)) (k (answer_in limits number flat step))
all_read limits number s flat words (Wants q k) = all_read limits number (after s q) (with_entries flat (block s q)) words (k (answer s q))

-- the words that the attempt of the operation reads where a processor's program stands
abbrev pub words_read : Program → Vp → PartitionState → Flat → List ℕ
words_read program v s flat = all_read v.limits v.number s flat [] (tree_of (origin_of v) (operation_at program v.state))
