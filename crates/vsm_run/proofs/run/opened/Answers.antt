use Rattle.std.proofs.Common.{◌≡◌, length, arith, refl, subst, sym, ap, ◌∙◌}
use Rattle.std.proofs.lemmas.List.FromFn.{length-map-range_with_len}
use Rattle.fabric.specs.Plain.{Plain}
use Rattle.partition.specs.PartView.{opening_view}
use Rattle.vsm_core.specs.Partition.{opening_standing}
use Rattle.vsm_report.specs.Acting.{opening_vps}
use Rattle.vsm_run.specs.Fits.{Fits}
use Rattle.vsm_run.specs.Rests.{AllIdle}
use Rattle.vsm_run.specs.Serving.{Agrees}
use Rattle.vsm_run.proofs.Acts.{AllInPlace}
use Rattle.vsm_run.proofs.Budgets.{room-at-first}
use Rattle.vsm_run.proofs.First.{all_idle, first-agrees, first-paced, length-opening_vps, opening-in-place, opening-fit}
use Rattle.vsm_run.proofs.run.opened.Goals as goal

pub invariant_of-result : goal.invariant_of-result
invariant_of-result c =
    let s = c.args.script.now in
    let first = c.in_ok-fabric.ensures.opening in
    let part = c.in_ok-partition.ensures in
    let limits : c.in_ok-fabric.fabric.limits ≡ s.limits = ap (λ (f : Plain). f.limits) first in
    let many : length (opening_view s.limits c.in_ok-masks.masks.items s.started).state.vps ≡ s.limits.vps = length-map-range_with_len (opening_standing s.started) 0 s.limits.vps in
    let each : AllInPlace s.limits (opening_vps s) = opening-in-place s c.requires.within.programs c.requires.within.budget_some in
    record {
      idle = subst (λ (f : Plain). AllIdle f.fabric.phases) (sym first) (all_idle s.limits.vps);
      each = rw (limits, c.in_ok-cpus.ensures) each;
      agrees = subst (λ (f : Plain). Agrees f.limits f.fabric) (sym first) (first-agrees s.limits _ _ (ap length c.deref.ensures.value ∙ c.in_ok-masks.ensures.all));
      free = rw (limits, part) (record { free = refl; vps_all = many; pages_all = refl });
      paced = rw (first, part) (first-paced s.limits _ _ _ s.started (ap length c.deref-2.ensures.value ∙ c.in_ok-masks.ensures.all));
      room = rw (c.in_ok-cpus.ensures, part) (room-at-first s.limits (opening_vps s) (opening_view s.limits c.in_ok-masks.masks.items s.started) each (length-opening_vps s ∙ c.requires.within.programs) many (omega arith) refl refl);
    }

pub returns-clause-fits : goal.returns-clause-fits
returns-clause-fits c = subst (Fits c.args.script.now.programs) (sym c.in_ok-cpus.ensures) (opening-fit c.args.script.now)
