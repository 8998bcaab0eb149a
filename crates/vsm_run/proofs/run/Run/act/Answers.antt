use Rattle.std.proofs.Common.{◌≡◌, ◌≤◌, ◌+◌, length, arith, refl, sym, ap, subst, ◌∙◌, true, false, None, is_some}
use Rattle.vsm_core.specs.Protection.{owed}
use Rattle.vsm_report.specs.Trace.{stepped}
use Rattle.vsm_run.specs.Fits.{Fits}
use Rattle.vsm_run.specs.Running.{Running}
use Rattle.vsm_run.specs.Serving.{Agrees, IsFree, HasRoom, kept_of}
use Rattle.vsm_run.proofs.Acts.{found_at, set_back, fits_here, still_fit, still_in_place, own_place, program_of, runs_on, stepped-ended, stepped-running, world_of}
use Rattle.vsm_run.proofs.Budgets.{room-for-one, room-still}
use Rattle.vsm_run.proofs.run.Run.act.Goals as goal

pub invariant_of-self-then-is_some : goal.invariant_of-self-then-is_some
invariant_of-self-then-is_some c =
    let v = c.in-Some.cpu.now in let vps = c.self.inside.cpus.items in let limits = c.self.inside.fabric.limits in
    let low = c.in-Some.ensures.item.3.0 in let is = c.in-Some.ensures.value in let all = c.self.invariant.each in
    record {
      idle = c.self.invariant.idle;
      each = still_in_place limits vps c.args.vp.0 v low is all limits v refl (own_place limits vps c.args.vp.0 v low is all);
      agrees = c.self.invariant.agrees;
      free = c.self.invariant.free;
      paced = c.self.invariant.paced;
      room = subst (HasRoom c.self.inside.partition) (sym (set_back vps c.args.vp.0 v is)) c.self.invariant.room;
    }

pub returns-then-is_some-clause-acts : goal.returns-then-is_some-clause-acts
returns-then-is_some-clause-acts c =
    let p = c.args.vp.0 in let v = c.in-Some.cpu.now in let vps = c.self.inside.cpus.items in
    let found = found_at vps p v c.in-Some.ensures.item.3.0 c.in-Some.ensures.value in
    let now = world_of c.self.inside.fabric.fabric.words (kept_of c.self.inside.partition) vps c.self.inside.lines.0 in
    let ended : is_some v.ended ≡ true = sym (ap is_some c.ended.ensures) ∙ sym c.is_some.ensures ∙ c.if-is_some.true in
    ap (λ us. world_of now.words now.partition us now.lines) (set_back vps p v c.in-Some.ensures.value)
    ∙ sym (stepped-ended c.args.programs.now p now v found ended)
    ∙ ap (λ (r : Running). stepped c.args.programs.now p r.world) c.self.view_is

pub act_at-requires-clause-place : goal.act_at-requires-clause-place
act_at-requires-clause-place c =
    own_place c.self.inside.fabric.limits c.self.inside.cpus.items c.args.vp.0 c.in-Some.cpu.now c.in-Some.ensures.item.3.0 c.in-Some.ensures.value c.self.invariant.each

pub act_at-requires-clause-fits : goal.act_at-requires-clause-fits
act_at-requires-clause-fits c =
    let fits = subst (λ (r : Running). Fits c.args.programs.now r.world.vps) (sym c.self.view_is) c.requires.fits in
    fits_here c.args.programs.now c.self.inside.cpus.items c.args.vp.0 c.index-programs-p.result c.in-Some.cpu.now fits c.in-Some.ensures.item.3.0 c.in-Some.ensures.value c.index-programs-p.is

pub act_at-requires-clause-entries : goal.act_at-requires-clause-entries
act_at-requires-clause-entries c =
    let v = c.in-Some.cpu.now in
    let going : v.ended ≡ None = runs_on v (sym (ap is_some c.ended.ensures) ∙ sym c.is_some.ensures ∙ c.if-is_some.false) in
    room-for-one c.self.inside.fabric.limits c.self.inside.cpus.items c.args.vp.0 v c.in-Some.ensures.item.3.0 c.in-Some.ensures.value c.self.invariant.each c.self.inside.partition c.self.invariant.room going

pub act_at-requires-clause-room : goal.act_at-requires-clause-room
act_at-requires-clause-room c =
    let room = subst (λ (r : Running). length r.world.lines + owed r.world.partition.state + (r.limits.vps + 12) ≤ r.room) (sym c.self.view_is) c.requires.room in
    let many = c.self.invariant.free.vps_all in
    omega arith

pub returns-clause-grows : goal.returns-clause-grows
returns-clause-grows c =
    let was = ap (λ (r : Running). length r.world.lines + owed r.world.partition.state + (r.limits.vps + 12)) c.self.view_is in
    let many = c.self.invariant.free.vps_all in
    let grows = c.act_at.ensures.grows in
    omega arith

pub invariant_of-self-2 : goal.invariant_of-self-2
invariant_of-self-2 c =
    let limits = c.self.inside.fabric.limits in
    let vps = c.self.inside.cpus.items in
    let v = c.in-Some.cpu.now in
    let n = c.act_at.new.cpu in
    let low = c.in-Some.ensures.item.3.0 in
    let is = c.in-Some.ensures.value in
    let all = c.self.invariant.each in
    let did = c.act_at.ensures in
    let going : v.ended ≡ None = runs_on v (sym (ap is_some c.ended.ensures) ∙ sym c.is_some.ensures ∙ c.if-is_some.false) in
    record {
      idle = did.idle;
      each = still_in_place limits vps c.args.vp.0 v low is all c.act_at.new.fabric.limits n did.limits did.place;
      agrees = subst (λ l. Agrees l c.act_at.new.fabric.fabric) (sym did.limits) did.agrees;
      free = subst (λ l. IsFree l c.act_at.new.partition) (sym did.limits) did.free;
      paced = did.paced;
      room = room-still limits vps c.args.vp.0 v low is all c.self.inside.partition c.act_at.new.partition n c.self.invariant.room going did.place.limits_same (ap (λ p. p.journal.room) did.done.partition) (did.free.vps_all ∙ sym c.self.invariant.free.vps_all) did.spends did.marks;
    }

pub returns-clause-acts : goal.returns-clause-acts
returns-clause-acts c =
    let p = c.args.vp.0 in let v = c.in-Some.cpu.now in let vps = c.self.inside.cpus.items in let program = c.index-programs-p.result in
    let found = found_at vps p v c.in-Some.ensures.item.3.0 c.in-Some.ensures.value in
    let now = world_of c.self.inside.fabric.fabric.words (kept_of c.self.inside.partition) vps c.self.inside.lines.0 in
    let fits = subst (λ (r : Running). Fits c.args.programs.now r.world.vps) (sym c.self.view_is) c.requires.fits in
    let place = c.self.invariant.each p v found in
    let going : is_some v.ended ≡ false = sym (ap is_some c.ended.ensures) ∙ sym c.is_some.ensures ∙ c.if-is_some.false in
    let did = c.act_at.ensures in
    stepped-running c.args.programs.now p program now v c.act_at.new.cpu c.self.inside.partition c.act_at.new.partition c.act_at.new.fabric.fabric.words c.act_at.new.lines.0 (program_of c.args.programs.now vps p program fits c.in-Some.ensures.item.3.0 c.index-programs-p.is) found place.number going refl did.done (ap (λ r. r.0) did.lines)
    ∙ ap (λ (r : Running). stepped c.args.programs.now p r.world) c.self.view_is

pub returns-clause-fits : goal.returns-clause-fits
returns-clause-fits c =
    let fits = subst (λ (r : Running). Fits c.args.programs.now r.world.vps) (sym c.self.view_is) c.requires.fits in
    still_fit c.args.programs.now c.self.inside.cpus.items c.args.vp.0 c.index-programs-p.result c.act_at.new.cpu fits c.in-Some.ensures.item.3.0 c.index-programs-p.is c.act_at.ensures.fits
