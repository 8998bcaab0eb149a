-- The words of statuses.
use Rattle.std.specs.Prelude.{ℕ, List, codes}
use Rattle.vsm_serve.specs.declared.status.Status.{Status}
use Rattle.vsm_serve.specs.declared.status.Status.TheVariants as statuses

abbrev pub status_word : Status → List ℕ
status_word statuses.Ok = codes "ok"
status_word statuses.Usage = codes "usage"
status_word statuses.Refused = codes "refused"
status_word statuses.ReadFault = codes "read-fault"
status_word statuses.WriteFault = codes "write-fault"
status_word statuses.Memory = codes "memory"
status_word statuses.TooLong = codes "too-long"
