-- A source and a sink before a call and after it, as contracts see them.
use Rattle.std.specs.Prelude.{◌≡◌, ℕ, List, Option, Result}
use Rattle.vsm_base.specs.Outside.{Rose}
use Rattle.vsm_base.specs.Whole.{Puts}
use Rattle.vsm_base.specs.declared.outside.Source.{Ghosts as SeenOfSource}
use Rattle.vsm_base.specs.declared.outside.Sink.{Ghosts as SeenOfSink}
use Rattle.vsm_base.specs.declared.whole.WriteFailed.{WriteFailed}

-- what is left of a source, where that is told, and how many reads have failed
pub record Reading : Type 0 where
  pub left : Option (List ℕ)
  pub left_after : Option (List ℕ)
  pub faults : ℕ
  pub faults_after : ℕ

-- what a sink has taken, where that is told, and how many writes have failed
pub record Writing : Type 0 where
  pub taken : Option (List ℕ)
  pub taken_after : Option (List ℕ)
  pub faults : ℕ
  pub faults_after : ℕ

abbrev pub reading : {S : Type 0} → SeenOfSource S → S → S → Reading
reading seen old new =
    record { left = seen.left old; left_after = seen.left new; faults = seen.faults old; faults_after = seen.faults new }

abbrev pub writing : {K : Type 0} → SeenOfSink K → K → K → Writing
writing seen old new =
    record { taken = seen.taken old; taken_after = seen.taken new; faults = seen.faults old; faults_after = seen.faults new }

-- the source's count of faults stays, below its last value
abbrev pub NoReadFails : Reading → Type 0
NoReadFails source = Rose source.faults source.faults_after → ⊥

-- the sink's count of faults stays, below its last value
abbrev pub NoWriteFails : Writing → Type 0
NoWriteFails sink = Rose sink.faults sink.faults_after → ⊥

-- the source is as it was
abbrev pub IsUnread : Reading → Type 0
IsUnread source = (source.left_after ≡ source.left) × (source.faults_after ≡ source.faults)

-- nothing was written
abbrev pub IsSilent : Writing → Type 0
IsSilent sink = (sink.taken_after ≡ sink.taken) × (sink.faults_after ≡ sink.faults)

-- a text was put, whole or, where a write failed, a front of it
abbrev pub PutsText : Writing → Result (Unit {0}) WriteFailed → List ℕ → Type 0
PutsText sink result t = Puts sink.taken sink.taken_after sink.faults sink.faults_after result t
