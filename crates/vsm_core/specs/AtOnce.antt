-- An attempt over all shared words, and the same attempt over the journal and the lists that they hold.
use Rattle.std.specs.Prelude.{◌≡◌, ℕ, List, length}
use Rattle.vsm_base.specs.declared.places.Limits.{Limits}
use Rattle.vsm_core.specs.Processor.{Did}
use Rattle.vsm_core.specs.Whole.{Flat, generation_in}
use Rattle.vsm_core.specs.Words.{Holds}
use Rattle.vsm_core.specs.declared.partition_state.PartitionState.{PartitionState}

-- both leave the same processor and serve the same requests, and what the words hold then is what the other leaves
pub record SameDid (limits : Limits) (steps : Did (List ℕ)) (whole : Did Flat) : Type 0 where
  pub vp : steps.vp ≡ whole.vp
  pub served : steps.served ≡ whole.served
  pub holds : Holds limits steps.words whole.words

-- the partition has these processors and pages, and as many rounds were made as the journal reports
pub record IsInStep (limits : Limits) (s : PartitionState) (flat : Flat) : Type 0 where
  pub vps : length s.vps ≡ limits.vps
  pub pages : s.pages ≡ limits.pages
  pub rounds : s.rounds ≡ generation_in flat
