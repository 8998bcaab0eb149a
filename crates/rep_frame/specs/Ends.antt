-- What a slice comes to, as the definitions have it.
use Rattle.vsm_core.specs.Reps.{RepEnd, Refused, GoesOn, Complete}
use Rattle.rep_frame.specs.declared.slice_end.SliceEnd.{SliceEnd}
use Rattle.rep_frame.specs.declared.slice_end.SliceEnd.TheVariants as ends

abbrev pub end_from : SliceEnd → RepEnd
end_from (ends.Refused status done) = Refused status done
end_from (ends.GoesOn next) = GoesOn next
end_from (ends.Complete done) = Complete done
