use Rattle.partition.proofs.Opening.{sound-opening}
use Rattle.partition.proofs.serving.Partition.new.Goals as goal

pub invariant_of-result : goal.invariant_of-result
invariant_of-result c = rw (c.in_ok-opening_partition.ensures, c.in_ok-new.ensures, c.in_ok-none_ended.ensures) (sound-opening _ _ _ c.requires.vps c.requires.pages c.requires.budget c.requires.masks)
