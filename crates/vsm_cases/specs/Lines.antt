-- The line that tells of a case.
use Rattle.std.specs.Prelude.{ℕ, List, [], ◌∷◌, ◌++◌, Option, Some, None, codes}
use Rattle.std.specs.Fmt.{decimal}
use Rattle.vsm_report.specs.Pieces.{line}
use Rattle.vsm_serve.specs.declared.status.Status.{Status}
use Rattle.vsm_cases.specs.Words.{status_word}
use Rattle.vsm_cases.specs.declared.comparison.LineDifference.{LineDifference}
use Rattle.vsm_cases.specs.declared.comparison.Verdict.{Verdict}
use Rattle.vsm_cases.specs.declared.comparison.Verdict.TheVariants.{Agrees, Differs}

abbrev pub ok_line : List ℕ → List ℕ
ok_line name = line (name ∷ codes ": ok" ∷ [])

-- the status that came, and the one that was expected
abbrev pub status_line : List ℕ → Status → Status → List ℕ
status_line name expected came =
    line (name ∷ codes ": status " ∷ status_word came ∷ codes " for " ∷ status_word expected ∷ [])

-- these, and the first line that differs, as it came and as it was expected
abbrev pub difference_line : List ℕ → Status → Status → LineDifference → List ℕ
difference_line name expected came d =
    line (name ∷ codes ": status " ∷ status_word came ∷ codes " for " ∷ status_word expected ∷ codes ", line " ∷ decimal d.line ∷ codes ": [" ∷ d.came.now ∷ codes "] for [" ∷ d.expected.now ∷ codes "]" ∷ [])

-- what is told of a verdict on the case of this name
abbrev pub verdict_line : List ℕ → Status → Verdict → List ℕ
verdict_line name expected Agrees = ok_line name
verdict_line name expected (Differs came None) = status_line name expected came
verdict_line name expected (Differs came (Some d)) = difference_line name expected came d
