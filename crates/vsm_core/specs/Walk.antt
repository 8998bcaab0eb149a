-- Where an address leads through the guest's four tables (Intel SDM, 4-Level Paging), by the list of all entries read so far.
use Rattle.std.specs.Prelude.{ℕ, ◌-◌, ◌*◌, ◌/◌, ◌%◌, ◌^◌, Bool, not, ◌&&◌, ◌||◌, ◌==◌, List, [], ◌∷◌, if◌then◌else◌}
use Rattle.std.specs.List.{list_all}
use Rattle.vsm_base.specs.declared.places.Access.{Access}
use Rattle.vsm_base.specs.declared.places.Access.TheVariants.{Read, Write, Execute}
use Rattle.vsm_core.specs.declared.mark.GuestFault.{GuestFault}
use Rattle.vsm_core.specs.declared.mark.GuestFault.TheVariants.{Noncanonical, Page}
use Rattle.vsm_core.specs.Fills.{Translation, straight}

-- what a walk is asked
pub record Query : Type 0 where
  pub cr0 : ℕ
  pub cr3 : ℕ
  pub gva : ℕ
  pub access : Access
  pub cpl : ℕ

-- the entry that is wanted next, by table and place; where the address leads; or why it leads nowhere
pub data Walked : Type 0 where
  Need : (page index : ℕ) → Walked
  Mapped : Translation → Walked
  Refused : GuestFault → Walked

-- bit 31 of Cr0
abbrev pub is_paging : ℕ → Bool
is_paging cr0 = cr0 / 2 ^ 31 % 2 == 1

-- bits 63:47 of an address are all equal
abbrev pub is_canonical : ℕ → Bool
is_canonical gva = (gva / 2 ^ 47 == 0) || (gva / 2 ^ 47 == 2 ^ 17 - 1)

-- the page of an address
abbrev pub page_of : ℕ → ℕ
page_of address = address / 4096

-- the page that Cr3 or an entry names: its bits 51:12
abbrev pub frame_of : ℕ → ℕ
frame_of entry = entry / 4096 % 2 ^ 40

abbrev pub is_present : ℕ → Bool
is_present entry = entry % 2 == 1

abbrev pub is_writable : ℕ → Bool
is_writable entry = entry / 2 % 2 == 1

abbrev pub is_user : ℕ → Bool
is_user entry = entry / 4 % 2 == 1

-- bit 63 of an entry forbids execution
abbrev pub is_executable : ℕ → Bool
is_executable entry = entry / 2 ^ 63 == 0

-- the place of an address in the table of this depth: bits 47:39, 38:30, 29:21 or 20:12
abbrev pub index_at : ℕ → ℕ → ℕ
index_at gva depth = gva / 2 ^ (39 - 9 * depth) % 512

-- the access is one that these rights allow
abbrev pub is_right : Access → ℕ → Translation → Bool
is_right Read cpl to = not (cpl == 3) || to.user
is_right Write cpl to = to.write && (not (cpl == 3) || to.user)
is_right Execute cpl to = to.execute && (not (cpl == 3) || to.user)

abbrev pub mapped : Query → Translation → Walked
mapped q to = if is_right q.access q.cpl to then Mapped to else Refused Page

-- the walk by the number of its entries, where all are present
abbrev pub of_entries : Query → List ℕ → Walked
of_entries q [] = Need (frame_of q.cr3) (index_at q.gva 0)
of_entries q (a ∷ []) = Need (frame_of a) (index_at q.gva 1)
of_entries q (a ∷ b ∷ []) = Need (frame_of b) (index_at q.gva 2)
of_entries q (a ∷ b ∷ c ∷ []) = Need (frame_of c) (index_at q.gva 3)
of_entries q (a ∷ b ∷ c ∷ d ∷ more) = mapped q (record {
  page = frame_of d;
  write = is_writable a && is_writable b && is_writable c && is_writable d;
  user = is_user a && is_user b && is_user c && is_user d;
  execute = is_executable a && is_executable b && is_executable c && is_executable d;
})

-- the walk through the tables, which ends at the first entry that isn't present
abbrev pub paged : Query → List ℕ → Walked
paged q entries = if list_all is_present entries then of_entries q entries else Refused Page

-- the walk after these entries; with paging off an address leads to its own page, with all rights
abbrev pub walk : Query → List ℕ → Walked
walk q entries =
    if is_paging q.cr0 then (if is_canonical q.gva then paged q entries else Refused Noncanonical) else Mapped (straight (page_of q.gva))
