-- What the switches answer, as numbers.
use Rattle.std.specs.Prelude.{ℕ, Bool, true, false, Option, Some, None}
use Rattle.vsm_base.specs.declared.places.Page.{Page}
use Rattle.vtl_switch.specs.declared.switches.Back.{Back}
use Rattle.vtl_switch.specs.declared.switches.Back.TheVariants.{Fast, Restore}

-- the number of a page, where there is one
abbrev pub number_of : Option Page → Option ℕ
number_of None = None
number_of (Some page) = Some page.0

-- a return keeps RAX and RCX because level 1 asked so
abbrev pub is_fast_back : Back → Bool
is_fast_back Fast = true
is_fast_back _ = false

-- the number of the page from which a return takes RAX and RCX, where it does
abbrev pub page_of : Back → Option ℕ
page_of (Restore page) = Some page.0
page_of _ = None
