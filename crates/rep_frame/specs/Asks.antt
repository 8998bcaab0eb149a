-- What a slice asks of the partition.
use Rattle.std.specs.Prelude.{ℕ, Option, Some, None}
use Rattle.vsm_core.specs.declared.request.PartCall.{PartCall}
use Rattle.vsm_core.specs.declared.request.PartCall.TheVariants.{ReadStatus, ReadConfig, WriteConfig}
use Rattle.rep_frame.specs.declared.getting.Look.{Look}
use Rattle.rep_frame.specs.declared.getting.Look.TheVariants.{Status, Config}

-- a register that is read there
abbrev pub look_call : Look → PartCall
look_call Status = ReadStatus
look_call Config = ReadConfig

abbrev pub look_calls : Option Look → Option PartCall
look_calls None = None
look_calls (Some look) = Some (look_call look)

-- a configuration that is written there
abbrev pub write_calls : Option ℕ → Option PartCall
write_calls None = None
write_calls (Some value) = Some (WriteConfig value)
