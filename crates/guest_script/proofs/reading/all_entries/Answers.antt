use Rattle.std.proofs.Common.{sym, ◌∙◌}
use Rattle.std.proofs.lemmas.Result.{err_from_is_err_and}
use Rattle.guest_script.proofs.Entries.{entries_step, entries_err, entries_end}
use Rattle.guest_script.proofs.Known.{known_entry}
use Rattle.guest_script.proofs.reading.all_entries.Goals as goal

pub returns-in_err-entry-clause-said : goal.returns-in_err-entry-clause-said
returns-in_err-entry-clause-said c =
    let p = err_from_is_err_and c.from_residual.result c.from_residual.ensures.1 in
    rw (p.1, p.2) (sym c.loop-word.invariant.0 ∙ entries_err _ _ _ _ _ _ c.in-Some.ensures.words c.in_err-entry.ensures.said)

pub loop-word-preserved : goal.loop-word-preserved
loop-word-preserved c =
    rw c.in_ok-push.ensures.ok (entries_step _ _ _ _ _ _ c.in-Some.ensures.words c.in_ok-entry.ensures.said ∙ c.loop-word.invariant.0, known_entry _ _ _ c.loop-word.invariant.1 c.in_ok-entry.ensures.known)

pub returns-clause-said : goal.returns-clause-said
returns-clause-said c = sym c.loop-word.invariant.0 ∙ entries_end _ _ _ c.in_default.ensures.words
