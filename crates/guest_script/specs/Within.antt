-- The limits that a script keeps.
use Rattle.std.specs.Prelude.{◌≡◌, ◌≤◌, ℕ, length, IsTrue}
use Rattle.std.specs.List.{list_all}
use Rattle.guest_script.specs.Schedules.{all_turns, all_known}
use Rattle.guest_script.specs.declared.script.Script.{Script}

-- how many processors a script may have as the language stands
abbrev pub most_vps : ℕ
most_vps = 8

-- how many levels may have a program as the language stands
abbrev pub most_levels : ℕ
most_levels = 2

-- a script keeps the limits
pub record IsWithin (s : Script) : Type 0 where
  pub vps_some : 1 ≤ s.limits.vps
  pub vps_few : s.limits.vps ≤ most_vps
  pub pages_some : 1 ≤ s.limits.pages
  pub pages_few : s.limits.pages ≤ 256
  pub budget_some : 1 ≤ s.limits.budget
  pub budget_few : s.limits.budget ≤ 10000
  pub started_some : 1 ≤ s.started
  pub started_few : s.started ≤ s.limits.vps
  pub programs : length s.programs ≡ s.limits.vps
  pub turns_few : all_turns s.schedule ≤ 100000
  pub entries : IsTrue (list_all (all_known s.limits.vps) s.schedule)
