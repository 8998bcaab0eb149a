-- The step that an access is for.
use Rattle.std.proofs.Common.{◌≡◌, ◌⊎◌, inl, inr, ℕ, false, Option, refl}
use Rattle.vsm_base.specs.declared.places.Access.{Access}
use Rattle.vsm_base.specs.declared.places.Access.TheVariants.{Read, Write, Execute}
use Rattle.vsm_base.specs.declared.places.Page.{Page}
use Rattle.vsm_core.specs.Access.{data_step, index_of}
use Rattle.vsm_core.specs.Fills.{Fill}
use Rattle.vsm_core.specs.Seat.{Seat, Makes}
use Rattle.vsm_core.specs.Tree.{Reading, Writing}
use Rattle.vsm_core.specs.Turns.{Turned}
use Rattle.access_path.specs.Rest.{Goes, goal_of}
use Rattle.access_path.specs.declared.aim.Aim.{Aim}
use Rattle.access_path.specs.declared.place.PathTurn.TheVariants as turns
use Rattle.access_path.specs.declared.place.Place.TheVariants.{Over}

-- the data step led to a grant of this value
abbrev Grants : Access → Aim → ℕ → Page → Option ℕ → ℕ → Option Fill → Seat → Seat → ℕ → Type 0
Grants kind aim at page mask generation fill old new value =
    Turned (data_step kind (goal_of aim) at mask generation fill) old new (Goes aim (turns.Granted (record { page = page; mask = mask; generation = generation; value = value; hit = false })) Over)

pub granted-read : (kind : Access) (aim : Aim) (at : ℕ) (page : Page) (mask : Option ℕ) (generation : ℕ) (fill : Option Fill) (old new : Seat) (x : ℕ) → (kind ≡ Read) ⊎ (kind ≡ Execute) → at ≡ page.0 → Makes old (Reading page.0 (index_of aim.gva.0)) x new → Grants kind aim at page mask generation fill old new x
granted-read Read aim at page mask generation fill old new x is same makes = rw same (x, makes, (fill, refl, refl))
granted-read Write aim at page mask generation fill old new x is same makes = elim is [ inl e ↦ cc | inr e ↦ cc ]
granted-read Execute aim at page mask generation fill old new x is same makes = rw same (x, makes, (fill, refl, refl))

pub granted-write : (kind : Access) (aim : Aim) (at : ℕ) (page : Page) (mask : Option ℕ) (generation : ℕ) (fill : Option Fill) (old new : Seat) → kind ≡ Write → at ≡ page.0 → Makes old (Writing page.0 (index_of aim.gva.0) aim.value) 0 new → Grants kind aim at page mask generation fill old new aim.value
granted-write kind aim at page mask generation fill old new is same makes = rw (is, same) (0, makes, (fill, refl, refl))
