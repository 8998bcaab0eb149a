-- Room for what a run leaves.
use Rattle.std.specs.Prelude.{◌≡◌, ℕ, ◌*◌, [], length}
use Rattle.vsm_base.specs.declared.places.Limits.{Limits}
use Rattle.vsm_run.specs.declared.leaving.Rooms.{Rooms}

-- room for what each of so many processors leaves, and for all masks; nothing is there yet, and as many memory words as there are
pub record HasRooms (rooms : Rooms) (vps : ℕ) (limits : Limits) : Type 0 where
  pub tracks : rooms.tracks ≡ ([], vps)
  pub ends : rooms.ends ≡ ([], vps)
  pub masks : rooms.masks ≡ ([], limits.pages)
  pub words : length rooms.words.items ≡ 512 * limits.pages
