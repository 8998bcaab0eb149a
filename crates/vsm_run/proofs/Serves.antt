-- The partition after an attempt.
use Rattle.std.proofs.Common.{◌≡◌, ◌≤◌, ◌+◌, ◌*◌, ℕ, List, [], ◌∷◌, ◌++◌, length, refl, sym, ap, ◌∙◌, subst, append_assoc, length-append, arith}
use Rattle.std.proofs.lemmas.List.{append-nil}
use Rattle.vsm_base.specs.declared.places.Limits.{Limits}
use Rattle.vsm_core.specs.declared.journal.Entry.{Entry}
use Rattle.vsm_core.specs.declared.mark.Mark.{Mark}
use Rattle.vsm_core.specs.declared.partition_state.PartitionState.{PartitionState}
use Rattle.vsm_core.specs.declared.request.Request.{Request}
use Rattle.vsm_core.specs.Processor.{Vp, Did, standing}
use Rattle.vsm_core.specs.Protection.{owed}
use Rattle.vsm_core.specs.Served.{after, state_after, joined}
use Rattle.vsm_core.proofs.ServedBlocks.{lawful}
use Rattle.partition.specs.PartView.{PartView}
use Rattle.vsm_report.proofs.Stepping.{state_after-append, joined-append}
use Rattle.vsm_run.specs.Serving.{IsDone, IsFree, with_served}
use Rattle.vsm_run.proofs.Attempts.{Pays}

pub state_after-vps : (s : PartitionState) (served : List (Request × List Entry)) → length (state_after s served).vps ≡ length s.vps
state_after-vps s [] = refl
state_after-vps s (v ∷ served) = state_after-vps (after s v.0) served ∙ (lawful s v.0).vps

state_after-pages : (s : PartitionState) (served : List (Request × List Entry)) → (state_after s served).pages ≡ s.pages
state_after-pages s [] = refl
state_after-pages s (v ∷ served) = state_after-pages (after s v.0) served ∙ (lawful s v.0).pages

-- a free partition is free once requests were served
pub served-free : (before : PartView) (served : List (Request × List Entry)) (limits : Limits) → IsFree limits before → IsFree limits (with_served before served)
served-free before served limits free = record { free = free.free; vps_all = state_after-vps before.state served ∙ free.vps_all; pages_all = state_after-pages before.state served ∙ free.pages_all }

-- where nothing was served, the partition is as it was
pub with_none : (p : PartView) → with_served p [] ≡ p
with_none p = ap (λ es. record p { journal = record p.journal { entries = es } }) (append-nil p.journal.entries)

-- where some were served and then others, all of them were
pub with_more : (p : PartView) (served more : List (Request × List Entry)) → with_served (with_served p served) more ≡ with_served p (served ++ more)
with_more p served more =
    let entries = append_assoc p.journal.entries (joined served) (joined more) ∙ ap (λ es. p.journal.entries ++ es) (sym (joined-append served more)) in
    ap (λ s. record p { state = s; journal = record p.journal { entries = (p.journal.entries ++ joined served) ++ joined more } }) (sym (state_after-append p.state served more))
    ∙ ap (λ es. record p { state = state_after p.state (served ++ more); journal = record p.journal { entries = es } }) entries

pub times-most : (each a b : ℕ) → a ≤ b → each * a ≤ each * b
times-most each a b le = grind arith

pub times-add : (each a b : ℕ) → each * (a + b) ≡ each * a + each * b
times-add each a b = grind arith

module _ (did : Did (List ℕ)) (n : Vp) (words : List ℕ) (before now : PartView) (done : IsDone did n words before now) where
  pub still-free : (limits : Limits) → IsFree limits before → IsFree limits now
  still-free limits free = subst (IsFree limits) (sym done.partition) (served-free before did.served limits free)

  entries-after : now.journal.entries ≡ before.journal.entries ++ joined did.served
  entries-after = ap (λ (p : PartView). p.journal.entries) done.partition

  -- no entry goes
  pub entries-later : length before.journal.entries ≤ length now.journal.entries
  entries-later =
      let long : length now.journal.entries ≡ length before.journal.entries + length (joined did.served) = ap length entries-after ∙ length-append before.journal.entries (joined did.served) in
      omega arith

  -- the entries that an attempt added, and what is still owed to the pages, are paid for by marks that stay
  module _ (each : ℕ) (stood : List Mark) (pays : Pays stood did) (few : length (joined did.served) + owed now.state ≤ each * length did.served + owed before.state) where
    more : length now.journal.entries ≡ length before.journal.entries + length (joined did.served)
    more = ap length entries-after ∙ length-append before.journal.entries (joined did.served)

    pub entries-few : length now.journal.entries + owed now.state ≤ length before.journal.entries + owed before.state + each
    entries-few = let one = pays.one in let long = more in let le = times-most each (length did.served) 1 one in omega arith

    pub entries-paid : length now.journal.entries + owed now.state + each * length stood ≤ length before.journal.entries + owed before.state + each * length (standing n)
    entries-paid =
        let vp : length (standing n) ≡ length (standing did.vp) = ap (λ (v : Vp). length (standing v)) done.vp in
        let spends = pays.spends in
        let long = more in
        let le = times-most each (length did.served + length stood) (length (standing n)) (omega arith) in
        let split = times-add each (length did.served) (length stood) in
        omega arith
