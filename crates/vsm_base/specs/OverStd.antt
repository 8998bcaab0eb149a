-- The streams over std: their counts of faults, and what they pass on.
use Rattle.std.specs.Prelude.{ℕ, ◌<◌, List, length, take, Option}
use Rattle.std.specs.Io.KnownBytes.{Keeps, Appends, Consumes, IsAtEnd}
use Rattle.vsm_base.specs.declared.std_streams.StdSource.{StdSource}
use Rattle.vsm_base.specs.declared.std_streams.StdSink.{StdSink}
use Rattle.vsm_base.specs.declared.outside.Got.{Got}
use Rattle.vsm_base.specs.declared.outside.Got.TheVariants.{Bytes, End, Failed}
use Rattle.vsm_base.specs.declared.outside.Put.{Put}
use Rattle.vsm_base.specs.declared.outside.Put.TheVariants as puts

abbrev pub reader_of : {R : Type 0} → StdSource R → R
reader_of s = s.inner

abbrev pub writer_of : {W : Type 0} → StdSink W → W
writer_of s = s.inner

-- how many reads have failed
abbrev pub failed_reads : {R : Type 0} → StdSource R → ℕ
failed_reads s = s.faults

-- how many writes have failed
abbrev pub failed_writes : {W : Type 0} → StdSink W → ℕ
failed_writes s = s.faults

-- where a reader's bytes are known, it lost those that came, and an end comes where none is left
abbrev pub PassesRead : Option (List ℕ) → Option (List ℕ) → Got → List ℕ → Type 0
PassesRead old new (Bytes n) into = Consumes old new (take n into)
PassesRead old new End into = 0 < length into → IsAtEnd new
PassesRead old new Failed into = Keeps old new

-- where a writer's bytes are known, they grew by those that were taken
abbrev pub PassesWrite : Option (List ℕ) → Option (List ℕ) → Put → List ℕ → Type 0
PassesWrite old new (puts.Took n) piece = Appends old new (take n piece)
PassesWrite old new puts.Failed piece = Keeps old new
