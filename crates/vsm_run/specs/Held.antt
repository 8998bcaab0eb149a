-- A run under way as contracts see it, and what is so between two attempts.
use Rattle.std.specs.Prelude.{◌≡◌, ℕ, Some, slice_get}
use Rattle.vsm_core.specs.Processor.{Vp}
use Rattle.vsm_run.specs.Rests.{AllIdle, IsInPlace}
use Rattle.vsm_run.specs.Running.{Running}
use Rattle.vsm_run.specs.Serving.{Agrees, IsFree, IsPacedBy, HasRoom, kept_of}
use Rattle.vsm_run.specs.declared.run.Run.TheInside.{Inside}

abbrev pub view_of : Inside → Running
view_of r = record {
  world = record {
    words = r.fabric.fabric.words;
    partition = kept_of r.partition;
    vps = r.cpus.items;
    lines = r.lines.0;
  };
  room = r.lines.1;
  limits = r.fabric.limits;
}

-- no processor is in an access, nor says so, each is in its place, and the partition is free, in pace with the fabric, and has room for what is left of all budgets
pub record IsReady (r : Inside) : Type 0 where
  pub idle : AllIdle r.fabric.fabric.phases
  pub each : (p : ℕ) (v : Vp) → slice_get r.cpus.items p ≡ Some v → IsInPlace r.fabric.limits p v
  pub agrees : Agrees r.fabric.limits r.fabric.fabric
  pub free : IsFree r.fabric.limits r.partition
  pub paced : IsPacedBy r.partition r.fabric
  pub room : HasRoom r.partition r.cpus.items
