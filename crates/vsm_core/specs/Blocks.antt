-- A journal that is whole: the entries of one request after those of another, and each request's entries of one of a few forms.
use Rattle.std.specs.Prelude.{◌≡◌, ℕ, ◌+◌, ◌||◌, ◌&&◌, Bool, true, false, not, List, [], ◌∷◌, ◌++◌, map}
use Rattle.std.specs.List.{range_with_len, fold}
use Rattle.vsm_base.specs.declared.places.Page.{Page}
use Rattle.vsm_base.specs.declared.places.VpIndex.{VpIndex}
use Rattle.vsm_core.specs.Status.{protects}
use Rattle.vsm_core.specs.declared.journal.Entry.{Entry}
use Rattle.vsm_core.specs.declared.journal.Entry.TheVariants.{Config, Ask, Turn, Clear, Report}

abbrev pub ask : Page × ℕ → Entry
ask a = Ask a.0 a.1

abbrev pub clear : ℕ → Entry
clear vp = Clear (record { 0 = vp })

-- a round among so many processors: its asks, its turn, the clear of each processor in order of their numbers, and the report
abbrev pub round : ℕ → List (Page × ℕ) → ℕ → VpIndex → List Entry
round vps asks k by = map ask asks ++ Turn k by ∷ (map clear (range_with_len 0 vps) ++ Report k ∷ [])

abbrev pub IsRound : ℕ → ℕ → List Entry → Type 0
IsRound vps k es = (asks : List (Page × ℕ)) × (by : VpIndex) × (es ≡ round vps asks k by)

-- a round follows the configuration that first turns it on
abbrev pub IsConfigRest : Bool → ℕ → ℕ → List Entry → Type 0
IsConfigRest true vps rounds es = IsRound vps (rounds + 1) es
IsConfigRest false vps rounds es = es ≡ []

-- the entries of one request, where so many rounds were made before and protection was on or not
abbrev pub IsBlock : ℕ → Bool → ℕ → List Entry → Type 0
IsBlock vps on rounds [] = ⊥
IsBlock vps on rounds (Config by value ∷ rest) = IsConfigRest (not on && protects value) vps rounds rest
IsBlock vps on rounds (Ask page mask ∷ rest) = IsRound vps (rounds + 1) (Ask page mask ∷ rest)
IsBlock vps on rounds (Turn k by ∷ rest) = IsRound vps (rounds + 1) (Turn k by ∷ rest)
IsBlock vps on rounds (Clear vp ∷ rest) = ⊥
IsBlock vps on rounds (Report k ∷ rest) = ⊥
IsBlock vps on rounds (_ ∷ rest) = rest ≡ []

abbrev pub rounds_after : ℕ → Entry → ℕ
rounds_after n (Report k) = n + 1
rounds_after n _ = n

abbrev pub on_after : Bool → Entry → Bool
on_after on (Config by value) = on || protects value
on_after on _ = on

-- the entries of each request are a block
abbrev pub AreBlocks : ℕ → Bool → ℕ → List (List Entry) → Type 0
AreBlocks vps on rounds [] = Unit {0}
AreBlocks vps on rounds (b ∷ bs) = IsBlock vps on rounds b × AreBlocks vps (fold on_after on b) (fold rounds_after rounds b) bs

-- a journal that begins with neither rounds nor protection and ends between two requests
abbrev pub join : List (List Entry) → List Entry
join [] = []
join (b ∷ bs) = b ++ join bs

abbrev pub IsWhole : ℕ → List Entry → Type 0
IsWhole vps es = (blocks : List (List Entry)) × AreBlocks vps false 0 blocks × (join blocks ≡ es)
