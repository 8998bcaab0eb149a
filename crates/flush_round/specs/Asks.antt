-- The asks of a round that are still to come.
use Rattle.std.specs.Prelude.{ℕ, ◌-◌, List, drop}
use Rattle.std.specs.List.{range_with_len}
use Rattle.vsm_base.specs.declared.places.Page.{Page}
use Rattle.vsm_core.specs.Protection.{asks_for}
use Rattle.flush_round.specs.declared.asks.Asks.{Asks}
use Rattle.flush_round.specs.declared.asks.Asks.TheVariants.{Few, All}

-- the asks from this one on
abbrev pub asks_from : ℕ → Asks → List (Page × ℕ)
asks_from at (Few asks) = drop at asks.items
asks_from at (All pages mask) = asks_for mask (range_with_len at (pages - at))
