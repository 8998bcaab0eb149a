-- One step of a tree.
use Rattle.std.proofs.Common.{◌≡◌, ℕ, refl}
use Rattle.std.specs.Prelude.{Option}
use Rattle.vsm_base.specs.declared.places.Access.{Access}
use Rattle.vsm_base.specs.declared.places.Access.TheVariants.{Read, Write, Execute}
use Rattle.vsm_core.specs.Access.{Goal, data_step}
use Rattle.vsm_core.specs.Fills.{Fill}
use Rattle.vsm_core.specs.Tree.{Tree, Ends, Asks, Wants, after, then_}
use Rattle.attempt.specs.declared.path.Path.{Path}
use Rattle.attempt.specs.declared.path.Place.{Place}
use Rattle.attempt.specs.declared.path.Place.TheVariants.{Start, Check, TableMask, TableRead, DataMask, Data}
use Rattle.attempt.specs.Nexts.{IsAsking}
use Rattle.attempt.specs.Paths.{path_rest, place_rest}

pub after-then : {A B : Type 0} (t : Tree A) (f : A → Tree B) (x : ℕ) → IsAsking t
    → after (then_ t f) x ≡ then_ (after t x) f
after-then (Ends a) f x asks = absurd asks
after-then (Asks s k) f x asks = refl
after-then (Wants q k) f x asks = absurd asks

data-asks : (kind : Access) (goal : Goal) (page : ℕ) (mask : Option ℕ) (generation : ℕ) (fill : Option Fill)
    → IsAsking (data_step kind goal page mask generation fill)
data-asks Read goal page mask generation fill = tt
data-asks Write goal page mask generation fill = tt
data-asks Execute goal page mask generation fill = tt

place-asks : (path : Path) (place : Place) → IsAsking (place_rest path place)
place-asks path Start = tt
place-asks path Check = tt
place-asks path TableMask = tt
place-asks path TableRead = tt
place-asks path DataMask = tt
place-asks path Data = data-asks path.aim.access _ _ _ _ _

-- an access that isn't over has a next step
pub path-asks : (path : Path) → IsAsking (path_rest path)
path-asks path = place-asks path path.place
