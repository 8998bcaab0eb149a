-- Which translation a processor still has of an address page, by what was done to its translations, newest first.
use Rattle.std.specs.Prelude.{ℕ, ◌%◌, ◌==◌, ◌&&◌, Bool, if◌then◌else◌, List, [], ◌∷◌, Option, Some, None}
use Rattle.vsm_base.specs.declared.places.Vtl.{Vtl}
use Rattle.vsm_core.specs.Fills.{Fill, Cached, Filled, Dropped, Emptied}
use Rattle.vsm_core.specs.Targets.{is_level}

-- a level has 64 places, and address pages that are 64 apart share one
abbrev pub shares_place : ℕ → ℕ → Bool
shares_place at page = at % 64 == page % 64

-- of the place's last fill: it stands for its own address page, while the generation is the one that it was checked in
abbrev pub standing : Fill → ℕ → ℕ → Option Fill
standing f page generation = if (f.at == page) && (f.generation == generation) then Some f else None

-- the fill that a look for this address page hits, in a level and at a generation
abbrev pub hit : List Cached → Vtl → ℕ → ℕ → Option Fill
hit [] level page generation = None
hit (Filled l f ∷ past) level page generation = if is_level l level && shares_place f.at page then standing f page generation else hit past level page generation
hit (Dropped l at ∷ past) level page generation = if is_level l level && (at == page) then None else hit past level page generation
hit (Emptied l ∷ past) level page generation = if is_level l level then None else hit past level page generation

-- what was done to the translations, once this was done as well, one after the other
abbrev pub past_after : List Cached → List Cached → List Cached
past_after past [] = past
past_after past (c ∷ does) = past_after (c ∷ past) does
