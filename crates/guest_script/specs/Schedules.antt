-- The turns of a schedule.
use Rattle.std.specs.Prelude.{ℕ, List, Bool, nat_lt, sum_by}
use Rattle.std.specs.List.{list_all}
use Rattle.guest_script.specs.declared.script.Turns.{Turns}

-- the turns of all the entries of a line
abbrev pub turns_of : List Turns → ℕ
turns_of turns = sum_by (λ t. t.count) turns

-- the turns of all lines
abbrev pub all_turns : List (List Turns) → ℕ
all_turns schedule = sum_by turns_of schedule

-- each entry of a line names one of so many processors
abbrev pub all_known : ℕ → List Turns → Bool
all_known vps turns = list_all (λ t. nat_lt t.vp.0 vps) turns
