-- What the tests of a partition keep through their requests.
use Rattle.std.specs.Prelude.{◌≡◌, Option, List, length, option_map}
use Rattle.vsm_core.specs.Stand.{Stand}
use Rattle.vsm_core.specs.declared.event.Phase.{Phase}
use Rattle.partition.specs.PartView.{PartView}

-- a partition of three processors and four pages, with room for 340 entries
pub record IsOpen (p : PartView) : Type 0 where
  pub vps : length p.state.vps ≡ 3
  pub pages : p.state.pages ≡ 4
  pub opening : length p.journal.opening ≡ 4
  pub room : p.journal.room ≡ 340

-- the phases of the processors, where they are known
abbrev pub phases_of : Stand → Option (List Phase)
phases_of stand = option_map (λ fabric. fabric.phases) stand.told
