-- A request that is served by the partition, entry by entry, while no processor is in an access.
use Rattle.std.proofs.Common.{◌≡◌, ◌≢◌, ◌<◌, ◌≤◌, ◌==◌, inl, inr, ℕ, true, not, Option, Some, None, List, [], ◌∷◌, ◌++◌, length, refl, sym, ap, ◌∙◌, subst, append_assoc, append-nil, arith}
use Rattle.std.specs.Prelude.{slice_index}
use Rattle.std.proofs.lemmas.List.{get_or-set_other}
use Rattle.std.proofs.lemmas.List.Sums.{fold-append}
use Rattle.vsm_base.specs.declared.places.Limits.{Limits}
use Rattle.vsm_core.specs.Entries.{step_of, words_by_entry, words_by_entries, words_if}
use Rattle.vsm_core.specs.Protection.{IsSlice}
use Rattle.vsm_core.specs.Seat.{Fabric}
use Rattle.vsm_core.specs.Served.{after, answer, block}
use Rattle.vsm_core.specs.Stand.{Stand, IsToldBusy, start_at}
use Rattle.vsm_core.specs.Words.{busy_at}
use Rattle.vsm_core.specs.declared.event.Event.{Event}
use Rattle.vsm_core.specs.declared.event.Event.TheVariants as events
use Rattle.vsm_core.specs.declared.journal.Entry.{Entry}
use Rattle.vsm_core.specs.declared.journal.Entry.TheVariants as entries
use Rattle.vsm_core.specs.declared.request.Reply.{Reply}
use Rattle.vsm_core.specs.declared.request.Request.{Request}
use Rattle.fabric.specs.Plain.{Plain}
use Rattle.partition.specs.PartView.{PartView, Doing, begun}
use Rattle.partition.specs.Turns.{Adds, Turns, TurnsBy, ServesIf, Waits}
use Rattle.partition.specs.declared.turn.PartTurn.{PartTurn}
use Rattle.partition.specs.declared.turn.PartTurn.TheVariants.{Moved, Busy, Done}
use Rattle.vsm_run.specs.Serving.{IsFree, NoneBusy, with_served}
use Rattle.vsm_core.proofs.Servable.{AllReach, Reaches, servable}
use Rattle.vsm_run.proofs.Wholes.{same-some}

abbrev pub entries_left : Option Doing → List Entry
entries_left None = []
entries_left (Some doing) = doing.rest

-- the partition serves this request, of which these entries are left
abbrev pub serving : PartView → Request → (gone left : List Entry) → PartView
serving before r gone left = record before {
  state = after before.state r;
  journal = record before.journal { entries = before.journal.entries ++ gone };
  under = Some (record { rest = left; reply = answer before.state r });
}

-- what these entries did to a fabric
pub record ChangedBy (first : Plain) (gone : List Entry) (f : Plain) : Type 0 where
  pub limits : f.limits ≡ first.limits
  pub phases : f.fabric.phases ≡ first.fabric.phases
  pub words : f.fabric.words ≡ words_by_entries first.limits first.fabric.words gone
  pub idle : NoneBusy first.limits f.fabric.words

-- the partition serves this request and has come so far: these entries were added, and these are left
pub record IsServing (before : PartView) (r : Request) (first : Plain) (now : PartView) (f : Plain) : Type 0 where
  pub gone : List Entry
  pub next : Entry
  pub more : List Entry
  pub split : block before.state r ≡ gone ++ next ∷ more
  pub view : now ≡ serving before r gone (next ∷ more)
  pub changed : ChangedBy first gone f
  pub reach : AllReach first.limits.vps first.limits.pages (next ∷ more)

-- the request was served whole
pub record IsServed (before : PartView) (r : Request) (first : Plain) (reply : Reply) (now : PartView) (f : Plain) : Type 0 where
  pub reply_is : reply ≡ answer before.state r
  pub view : now ≡ with_served before ((r, block before.state r) ∷ [])
  pub changed : ChangedBy first (block before.state r) f

-- a turn that goes on with it, and has come nearer to its end
abbrev pub GoesOn : PartTurn → PartView → Request → Plain → PartView → PartView → Plain → Type 0
GoesOn Moved before r first now n g = IsServing before r first n g × (length (entries_left n.under) < length (entries_left now.under))
GoesOn (Busy vp) before r first now n g = ⊥
GoesOn (Done reply) before r first now n g = IsServed before r first reply n g

begun-is : (before : PartView) (r : Request) (es : List Entry) → block before.state r ≡ es → begun before r ≡ serving before r [] es
begun-is before r es e =
    ap (λ left. record before { state = after before.state r; under = Some (record { rest = left; reply = answer before.state r }) }) e
    ∙ ap (λ all. record before { state = after before.state r; journal = record before.journal { entries = all }; under = Some (record { rest = es; reply = answer before.state r }) }) (sym (append-nil before.journal.entries))

begins-by : (before : PartView) (r : Request) (first : Plain) (es : List Entry) → block before.state r ≡ es → 1 ≤ length es → AllReach first.limits.vps first.limits.pages es → NoneBusy first.limits first.fabric.words → IsServing before r first (begun before r) first
begins-by before r first [] e some reach idle = absurd (omega arith)
begins-by before r first (next ∷ more) e some reach idle = record {
  gone = [];
  next = next;
  more = more;
  split = e;
  view = begun-is before r (next ∷ more) e;
  changed = record { limits = refl; phases = refl; words = refl; idle = idle };
  reach = reach;
}

-- a request that was just begun
pub begins : (before : PartView) (r : Request) (first : Plain) → IsFree first.limits before → IsSlice r.call → NoneBusy first.limits first.fabric.words → IsServing before r first (begun before r) first
begins before r first free slice idle =
    let fine = servable before.state r slice in
    let es = block before.state r in
    let reach : AllReach first.limits.vps first.limits.pages es = subst (λ n. AllReach n first.limits.pages es) free.vps_all (subst (λ m. AllReach (length before.state.vps) m es) free.pages_all fine.reach) in
    begins-by before r first es refl fine.some reach idle

-- the words of an entry's step leave all busy words alone
entry-idle : (limits : Limits) (words : List ℕ) (e : Entry) → Reaches limits.vps limits.pages e → NoneBusy limits words → NoneBusy limits (words_by_entry limits words e)
entry-idle limits words (entries.Ask page mask) low idle = λ q below. get_or-set_other words page.0 (busy_at limits q) mask 0 (λ e. omega (arith, e, low)) ∙ idle q below
entry-idle limits words (entries.Turn round by) low idle = λ q below. get_or-set_other words limits.pages (busy_at limits q) round 0 (λ e. omega (arith, e)) ∙ idle q below
entry-idle limits words (entries.Start by vp level) low idle = λ q below. get_or-set_other words (start_at limits vp.0) (busy_at limits q) _ 0 (λ e. omega (arith, e, below)) ∙ idle q below
entry-idle limits words (entries.Clear vp) low idle = idle
entry-idle limits words (entries.Enable by) low idle = idle
entry-idle limits words (entries.Level by vp) low idle = idle
entry-idle limits words (entries.Config by value) low idle = idle
entry-idle limits words (entries.Fetch vp) low idle = idle
entry-idle limits words (entries.Look by) low idle = idle
entry-idle limits words (entries.Refuse by status) low idle = idle
entry-idle limits words (entries.Report round) low idle = idle

-- a step of the partition at a plain fabric
record Stepped (f g : Plain) (step : Option Event) : Type 0 where
  limits : g.limits ≡ f.limits
  phases : g.fabric.phases ≡ f.fabric.phases
  words : g.fabric.words ≡ words_if f.limits f.fabric.words step

-- what is known of the stands before and after a turn
pub record Tells (f g : Plain) (stand after : Stand) : Type 0 where
  pub limits : stand.limits ≡ f.limits
  pub told : stand.told ≡ Some f.fabric
  pub limits_then : after.limits ≡ g.limits
  pub told_then : after.told ≡ Some g.fabric

stepped-by : (f g : Plain) (stand then : Stand) (step : Option Event) → Tells f g stand then → ServesIf stand step then → Stepped f g step
stepped-by f g stand then None t serves =
    let same = same-some g.fabric f.fabric (sym t.told_then ∙ ap (λ (s : Stand). s.told) serves ∙ t.told) in
    record { limits = sym t.limits_then ∙ ap (λ (s : Stand). s.limits) serves ∙ t.limits; phases = ap (λ (h : Fabric). h.phases) same; words = ap (λ (h : Fabric). h.words) same }
stepped-by f g stand then (Some e) t serves =
    let known = sym t.told_then ∙ ap (λ (s : Stand). s.told) serves.after in
    let told : Some g.fabric ≡ _ = rw t.told at known in
    let same = same-some g.fabric _ told in
    record { limits = sym t.limits_then ∙ ap (λ (s : Stand). s.limits) serves.after ∙ t.limits; phases = ap (λ (h : Fabric). h.phases) same; words = ap (λ (h : Fabric). h.words) same ∙ ap (λ l. words_if l f.fabric.words (Some e)) t.limits }

changed-more : (first f g : Plain) (gone : List Entry) (e : Entry) → Reaches first.limits.vps first.limits.pages e → ChangedBy first gone f → Stepped f g (step_of e) → ChangedBy first (gone ++ e ∷ []) g
changed-more first f g gone e low was step =
    let limits = was.limits in
    let words : g.fabric.words ≡ words_by_entry first.limits f.fabric.words e = step.words ∙ ap (λ l. words_if l f.fabric.words (step_of e)) limits in
    record {
      limits = step.limits ∙ limits;
      phases = step.phases ∙ was.phases;
      words = words ∙ ap (λ ws. words_by_entry first.limits ws e) was.words ∙ sym (fold-append (words_by_entry first.limits) first.fabric.words gone (e ∷ []));
      idle = subst (NoneBusy first.limits) (sym words) (entry-idle first.limits f.fabric.words e low was.idle);
    }

-- a processor whose busy word is 0 isn't found busy
not-busy : (limits : Limits) (f : Plain) (stand : Stand) (vp : ℕ) → stand.limits ≡ limits → stand.told ≡ Some f.fabric → slice_index f.fabric.words (busy_at limits vp) ≡ 0 → IsToldBusy stand.limits (events.Clear (record { 0 = vp }) true) stand.told → ⊥
not-busy limits f stand vp same told zero busy =
    let b : true ≡ not (slice_index f.fabric.words (busy_at limits vp) == 0) = rw (same, told) at busy in
    let z : true ≡ not (0 == 0) = rw zero at b in cc

served-is : (before : PartView) (r : Request) (gone : List Entry) (e : Entry) → before.under ≡ None → gone ++ e ∷ [] ≡ block before.state r
    → record before { state = after before.state r; journal = record before.journal { entries = (before.journal.entries ++ gone) ++ e ∷ [] }; under = None } ≡ with_served before ((r, block before.state r) ∷ [])
served-is before r gone e free whole =
    let entries : (before.journal.entries ++ gone) ++ e ∷ [] ≡ before.journal.entries ++ (block before.state r ++ []) =
    append_assoc before.journal.entries gone (e ∷ []) ∙ ap (λ es. before.journal.entries ++ es) (whole ∙ sym (append-nil (block before.state r))) in
    ap (λ es. record before { state = after before.state r; journal = record before.journal { entries = es }; under = None }) entries
    ∙ ap (λ u. record before { state = after before.state r; journal = record before.journal { entries = before.journal.entries ++ (block before.state r ++ []) }; under = u }) (sym free)

-- the next entry was added
module _ (before : PartView) (r : Request) (first : Plain) (now n : PartView) (f g : Plain) (stand then : Stand) (turn : PartTurn) (free : before.under ≡ None) (t : Tells f g stand then) where
  adds-on : (gone : List Entry) (next : Entry) (more : List Entry) → block before.state r ≡ gone ++ next ∷ more → now ≡ serving before r gone (next ∷ more) → ChangedBy first gone f → AllReach first.limits.vps first.limits.pages (next ∷ more)
      → Adds next more (answer before.state r) (serving before r gone (next ∷ more)) stand n then turn → GoesOn turn before r first now n g
  adds-on gone next [] split view was reach adds =
      let changed = changed-more first f g gone next reach.0 was (stepped-by f g stand then (step_of next) t adds.step) in
      rw adds.answer (record {
        reply_is = refl;
        view = adds.view ∙ served-is before r gone next free (sym split);
        changed = subst (λ es. ChangedBy first es g) (sym split) changed;
      })
  adds-on gone next (d ∷ ds) split view was reach adds =
      let changed = changed-more first f g gone next reach.0 was (stepped-by f g stand then (step_of next) t adds.step) in
      let new : n ≡ serving before r (gone ++ next ∷ []) (d ∷ ds) =
      adds.view ∙ ap (λ es. record before { state = after before.state r; journal = record before.journal { entries = es }; under = Some (record { rest = d ∷ ds; reply = answer before.state r }) }) (append_assoc before.journal.entries gone (next ∷ [])) in
      let fewer : length (entries_left n.under) < length (entries_left now.under) = rw (new, view) (omega arith) in
      rw adds.answer (
        record {
          gone = gone ++ next ∷ [];
          next = d;
          more = ds;
          split = split ∙ sym (append_assoc gone (next ∷ []) (d ∷ ds));
          view = new;
          changed = changed;
          reach = reach.1;
        },
        fewer,
      )

  -- no processor was found busy
  waits-not : (gone : List Entry) (next : Entry) → ChangedBy first gone f → Reaches first.limits.vps first.limits.pages next → (old : PartView) → Waits next old stand n then turn → ⊥
  waits-not gone next was low old waits =
      let vp = waits.vp in
      let below : vp.0 < first.limits.vps = subst (Reaches first.limits.vps first.limits.pages) waits.clear low in
      not-busy first.limits f stand vp.0 (t.limits ∙ was.limits) t.told (was.idle vp.0 below) waits.step.busy

  pub turn-goes : IsServing before r first now f → Turns now stand n then turn → GoesOn turn before r first now n g
  turn-goes on turned = go (subst (λ v. Turns v stand n then turn) on.view turned) where
    go : TurnsBy (on.next ∷ on.more) (answer before.state r) (serving before r on.gone (on.next ∷ on.more)) stand n then turn → GoesOn turn before r first now n g
    go (inl adds) = adds-on on.gone on.next on.more on.split on.view on.changed on.reach adds
    go (inr waits) = absurd (waits-not on.gone on.next on.changed on.reach.0 (serving before r on.gone (on.next ∷ on.more)) waits)

-- a request is under way
pub is-under : (before : PartView) (r : Request) (first : Plain) (now : PartView) (f : Plain) → IsServing before r first now f → now.under ≢ None
is-under before r first now f on none = let some = sym (ap (λ (p : PartView). p.under) on.view) ∙ none in cc

-- few elements are done
pub few-done : (before : PartView) (r : Request) (reply : Reply) → IsSlice r.call → reply ≡ answer before.state r → reply.done < 4096
few-done before r reply slice e = subst (λ (a : Reply). a.done < 4096) (sym e) (servable before.state r slice).done
