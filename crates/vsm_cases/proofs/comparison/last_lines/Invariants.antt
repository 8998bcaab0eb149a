use Rattle.std.proofs.Common.{◌≡◌, ◌≤◌, ℕ, length}
use Rattle.vsm_cases.proofs.comparison.last_lines.Given as goal

abbrev pub decreases-loop-passed : goal.decreases-loop-passed
decreases-loop-passed l = l.passed
