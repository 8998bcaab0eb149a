-- The script that has been read so far, and what is true of it at each line.
use Rattle.std.specs.Prelude.{ℕ, ◌<◌}
use Rattle.guest_script.specs.Within.{IsWithin}
use Rattle.guest_script.specs.declared.script.Script.{Script}
use Rattle.guest_script.specs.declared.keyword.Stage.{Stage}
use Rattle.guest_script.specs.declared.keyword.Stage.TheVariants as stages
use Rattle.guest_script.specs.declared.reading.Reading.{Reading}

-- the script as it has been read so far
abbrev pub script_of : Reading → Script
script_of r = record { limits = r.limits; started = r.started; masks = r.masks; words = r.words; programs = r.programs; schedule = r.schedule }

-- a program that was begun is one of a processor that there is
abbrev pub IsOfSome : Stage → ℕ → Type 0
IsOfSome (stages.Program vp level) vps = vp < vps
IsOfSome _ vps = Unit {0}

-- what has been read keeps the limits of a script
pub record IsSound (r : Reading) : Type 0 where
  pub within : IsWithin (script_of r)
  pub begun : IsOfSome r.stage r.limits.vps
