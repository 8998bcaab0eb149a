-- What a watch says, as the definitions have it.
use Rattle.vsm_core.specs.Watches.{Watched}
use Rattle.reg_intercept.specs.declared.watch.Watch.{Watch}

abbrev pub watched_by : Watch → Watched
watched_by watch = record { control = watch.control; cr0_mask = watch.cr0_mask; cr4_mask = watch.cr4_mask }
