-- What contracts see of an access under way.
use Rattle.access_path.specs.declared.aim.Aim.{Aim}
use Rattle.access_path.specs.declared.place.Place.{Place}

-- what it is for, and how far it has come
pub record PathView : Type 0 where
  pub aim : Aim
  pub place : Place
