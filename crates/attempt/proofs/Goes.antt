-- At each stage but the end an attempt goes on.
use Rattle.std.proofs.Common.{◌≢◌, ◌<◌, ℕ, zero, suc, true, List, [], ◌∷◌, refl, arith}
use Rattle.vsm_core.specs.Access.{Decision}
use Rattle.vsm_core.specs.Attempt.{left_with}
use Rattle.vsm_core.specs.Outcomes.{Origin, Outcome}
use Rattle.vsm_core.specs.Tree.{Tree, Ends, Asks, Wants, WordStep, asks_all, reads, then_}
use Rattle.attempt.specs.declared.stage.Stage.{Stage}
use Rattle.attempt.specs.declared.stage.Stage.TheVariants.{Access, Enter, Check, Mask, Look, Rax, Rcx, Header, Slice}
use Rattle.attempt.specs.declared.stage.Stage.TheVariants.{Make, Take, Depart, Want, Quit, Send, End}
use Rattle.attempt.specs.declared.under.Under.{Under}
use Rattle.attempt.specs.Heads.{GoesOn}
use Rattle.attempt.specs.Nexts.{IsAsking}
use Rattle.attempt.specs.Paths.{path_rest}
use Rattle.attempt.specs.Plans.{planned}
use Rattle.attempt.specs.Rests.{IsAt, stage_rest}
use Rattle.attempt.specs.Results.{result_of}
use Rattle.attempt.proofs.Polls.{next-taken}
use Rattle.attempt.proofs.Steps.{path-asks}

module _ (from : Origin) (u : Under) where
  then-goes : (t : Tree Decision) (f : Decision → Tree Outcome) → IsAsking t → GoesOn from u (then_ t f) true
  then-goes (Ends d) f asks = absurd asks
  then-goes (Asks s k) f asks = tt
  then-goes (Wants q k) f asks = absurd asks

  reads-goes : (page index left : ℕ) (found : List ℕ) (rest : List ℕ → Tree Outcome) → 0 < left
      → GoesOn from u (reads page index left found rest) true
  reads-goes page index zero found rest some = absurd (omega (arith, some))
  reads-goes page index (suc left) found rest some = tt

  planned-goes : (steps : List WordStep) (o : Outcome) → GoesOn from u (asks_all steps (left_with o)) true
  planned-goes [] o = tt
  planned-goes (s ∷ steps) o = tt

  pub stage-goes : (s : Stage) → IsAt from u s → s ≢ End → GoesOn from u (stage_rest from u s) true
  stage-goes Access is other = then-goes (path_rest u.path) _ (path-asks u.path)
  stage-goes (Enter inner) is other = tt
  stage-goes (Check inner) is other = tt
  stage-goes (Mask gate generation) is other = tt
  stage-goes (Look page matter) is other = tt
  stage-goes (Rax page) is other = tt
  stage-goes (Rcx page rax) is other = tt
  stage-goes (Header words) is other = reads-goes words.page.0 words.index words.left _ _ is.some
  stage-goes (Slice words) is other = reads-goes words.page.0 words.index words.left _ _ is.some
  stage-goes Make is other = planned-goes (planned from.number u.output u.plan) (result_of from u)
  stage-goes (Take count) is other = rw (next-taken count is) tt
  stage-goes (Depart asked) is other = tt
  stage-goes (Want asked) is other = tt
  stage-goes (Quit sends) is other = tt
  stage-goes (Send sending) is other = tt
  stage-goes End is other = absurd (other refl)
