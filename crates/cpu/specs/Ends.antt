-- A spin that found another value.
use Rattle.std.specs.Prelude.{◌≡◌, ◌≤◌, ◌-◌, List, None, length}
use Rattle.vsm_core.specs.declared.mark.Grant.{Grant}
use Rattle.vsm_core.specs.declared.mark.What.TheVariants.{Again}
use Rattle.vsm_core.specs.declared.event.Phase.TheVariants.{Idle}
use Rattle.vsm_core.specs.Fills.{Cached}
use Rattle.vsm_core.specs.Outcomes.{outcome_at}
use Rattle.vsm_core.specs.Processor.{Vp, origin_of, rest_of, tree_of}
use Rattle.vsm_core.specs.Tree.{Ends}
use Rattle.cpu.specs.Turns.{phase_at}
use Rattle.cpu.specs.UnderWay.{IsUnchecked}

-- an attempt of a spin has come to its end in vain: its access is over, has had at most thirteen steps, and begins anew
-- by a check
pub record SpinsInVain (v : Vp) (grant : Grant) : Type 0 where
  pub does : List Cached
  pub ends : rest_of v v.op ≡ Ends (outcome_at (origin_of v) (Again grant) v.state does)
  pub anew : IsUnchecked (tree_of (origin_of v) v.op)
  pub tidy : v.part ≡ v.first
  pub few : length v.seen - v.first ≤ 13
  pub heard : v.heard ≡ None
  pub idle : phase_at v.seen v.first ≡ Idle
