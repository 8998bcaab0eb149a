use Rattle.std.proofs.Common.{◌≡◌, ◌+◌, ◌*◌, ◌%◌, ◌≤◌, true, false, Some, rules, ap, sym, ◌∙◌}
use Rattle.vsm_core.specs.Calls.{Row, row_of, code_in, is_fast, count_in, start_in, first_failed}
use Rattle.vsm_core.specs.Hypercalls.{place_checks}
use Rattle.hyper_abi.specs.Told.{row_for}
use Rattle.hyper_abi.proofs.Admitted.{refused-value, by_place, may_be-fast, begins-below, slice-within}
use Rattle.hyper_abi.proofs.admission.admit.Goals as goal

pub returns-in_err-control-clause-admits : goal.returns-in_err-control-clause-admits
returns-in_err-control-clause-admits c = search (rules, refused-value)

pub returns-then-control-clause-may_be_fast : goal.returns-then-control-clause-may_be_fast
returns-then-control-clause-may_be_fast c = λ e.
    let at : row_of (code_in c.args.value) ≡ Some (row_for c.in-Some.call) = search rules in
    let fast : is_fast c.args.value ≡ true = search rules in
    may_be-fast c.args.value (row_for c.in-Some.call) _ at c.in_ok-control.ensures.read fast

pub returns-in-Some-place_refusal-clause-admits : goal.returns-in-Some-place_refusal-clause-admits
returns-in-Some-place_refusal-clause-admits c =
    let row = row_for c.in-Some.call in
    let at : row_of (code_in c.args.value) ≡ Some row = search rules in
    let slow : is_fast c.args.value ≡ false = search rules in
    by_place c.args.pages c.args.value c.args.address c.args.output row _ at c.in_ok-control.ensures.read slow
    ∙ ap (λ (r : Row). first_failed (place_checks c.args.pages r c.args.value c.args.address c.args.output)) (sym c.form.ensures) ∙ sym c.place_refusal.ensures.result ∙ c.in-Some-place_refusal.is

pub returns-in-None-clause-admits : goal.returns-in-None-clause-admits
returns-in-None-clause-admits c =
    let row = row_for c.in-Some.call in
    let at : row_of (code_in c.args.value) ≡ Some row = search rules in
    let slow : is_fast c.args.value ≡ false = search rules in
    by_place c.args.pages c.args.value c.args.address c.args.output row _ at c.in_ok-control.ensures.read slow
    ∙ ap (λ (r : Row). first_failed (place_checks c.args.pages r c.args.value c.args.address c.args.output)) (sym c.form.ensures) ∙ sym c.place_refusal.ensures.result ∙ c.in-None.is

pub returns-then-control-clause-below : goal.returns-then-control-clause-below
returns-then-control-clause-below c = λ rep.
    let at : row_of (code_in c.args.value) ≡ Some (row_for c.in-Some.call) = search rules in
    let start : c.in_ok-control.control.start ≡ start_in c.args.value = search rules in
    let count : c.in_ok-control.control.count ≡ count_in c.args.value = search rules in
    let below = begins-below c.args.value (row_for c.in-Some.call) _ at c.in_ok-control.ensures.read rep in
    rw (start, count) below

pub returns-in-None-clause-below : goal.returns-in-None-clause-below
returns-in-None-clause-below c = λ rep.
    let at : row_of (code_in c.args.value) ≡ Some (row_for c.in-Some.call) = search rules in
    let start : c.in_ok-control.control.start ≡ start_in c.args.value = search rules in
    let count : c.in_ok-control.control.count ≡ count_in c.args.value = search rules in
    let below = begins-below c.args.value (row_for c.in-Some.call) _ at c.in_ok-control.ensures.read rep in
    rw (start, count) below

pub returns-in-None-clause-slice : goal.returns-in-None-clause-slice
returns-in-None-clause-slice c = λ slow.
    let row = row_for c.in-Some.call in
    let at : row_of (code_in c.args.value) ≡ Some row = search rules in
    let start : c.in_ok-control.control.start ≡ start_in c.args.value = search rules in
    let count : c.in_ok-control.control.count ≡ count_in c.args.value = search rules in
    let extent : c.args.address % 4096 + row.header + row.element * count_in c.args.value ≤ 4096 = search rules in
    rw (start, count) (slice-within c.in-Some.call (c.args.address % 4096) (start_in c.args.value) (count_in c.args.value) (begins-below c.args.value row _ at c.in_ok-control.ensures.read) extent)
