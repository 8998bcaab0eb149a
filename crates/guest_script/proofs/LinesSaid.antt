-- What is kept at each line of a script that is read.
use Rattle.std.proofs.Common.{◌≡◌, ℕ, ◌+◌, ◌^◌, ◌≤◌, List, [], ◌∷◌, ◌++◌, length, true, nat_le, Result, Ok, refl, sym, subst, ◌∙◌, arith}
use Rattle.std.proofs.lemmas.List.{length-replicate}
use Rattle.std.proofs.lemmas.List.Sums.{sum_by-append}
use Rattle.vsm_base.specs.declared.places.Page.{Page}
use Rattle.vsm_core.specs.declared.operation.Program.{Program}
use Rattle.guest_script.specs.Fields.{Words, number, valid_mask, no_more}
use Rattle.guest_script.specs.Keywords.{stands}
use Rattle.guest_script.specs.Line.{vsm_line, vps_line, pages_line, budget_line, started_line, mask_line, word_line, program_line, some_entries, schedule_line, end_line, is_masked, is_begun}
use Rattle.guest_script.specs.Programs.{nothing, nothings}
use Rattle.guest_script.specs.Schedules.{turns_of, all_turns, all_known}
use Rattle.guest_script.specs.Sound.{script_of}
use Rattle.guest_script.specs.Within.{IsWithin, most_vps, most_levels}
use Rattle.guest_script.specs.Words.{page_of, is_given}
use Rattle.guest_script.specs.declared.keyword.Keyword.TheVariants as words
use Rattle.guest_script.specs.declared.keyword.Stage.{Stage}
use Rattle.guest_script.specs.declared.keyword.Stage.TheVariants as stages
use Rattle.guest_script.specs.declared.reading.Reading.{Reading}
use Rattle.guest_script.specs.declared.script.Script.{Script}
use Rattle.guest_script.specs.declared.script.Turns.{Turns}
use Rattle.guest_script.specs.declared.script.Why.{Why}
use Rattle.guest_script.specs.declared.script.Why.TheVariants.{Twice, TooMany}
use Rattle.guest_script.proofs.FieldsSaid.{bound, passed, unmet, no_more_than, number_between, valid_mask_ok, some_entries_ok}
use Rattle.guest_script.proofs.Known.{known_line}
use Rattle.guest_script.proofs.OneMore.{one_mask, one_word, nothings_are, one_line}
use Rattle.guest_script.proofs.Printable.{IsPrintable, AreMasks, AreWords}

-- no memory was given yet
pub record IsBare (r : Reading) : Type 0 where
  pub masks : r.masks ≡ []
  pub words : r.words ≡ []

abbrev pub IsEarly : Stage → Reading → Type 0
IsEarly stages.Vsm r = IsBare r
IsEarly stages.Vps r = IsBare r
IsEarly stages.Pages r = IsBare r
IsEarly _ r = Unit {0}

-- what has been read can be printed, and memory is given only once the number of pages is known
pub record IsKept (r : Reading) : Type 0 where
  pub printable : IsPrintable (script_of r)
  pub early : IsEarly r.stage r

-- a line that reads on
pub next : (x r : Reading) → ◌≡◌ {A = Result Reading Why} (Ok x) (Ok r) → IsKept x → IsKept r
next x r e k =
    let p : x ≡ r = cc in
    subst IsKept p k

-- no memory was given where vsm, vps or pages stands
bare_at-vsm : (s : Stage) (r : Reading) → stands words.Vsm s ≡ true → IsEarly s r → IsBare r
bare_at-vsm stages.Vsm r t e = e
bare_at-vsm _ r t e = cc

bare_at-vps : (s : Stage) (r : Reading) → stands words.Vps s ≡ true → IsEarly s r → IsBare r
bare_at-vps stages.Vps r t e = e
bare_at-vps _ r t e = cc

bare_at-pages : (s : Stage) (r : Reading) → stands words.Pages s ≡ true → IsEarly s r → IsBare r
bare_at-pages stages.Pages r t e = e
bare_at-pages _ r t e = cc

-- memory may be given where a mask or a word stands
memory_at-mask : (s : Stage) (r : Reading) → stands words.Mask s ≡ true → IsEarly s r
memory_at-mask stages.Memory r t = tt
memory_at-mask _ r t = cc

memory_at-word : (s : Stage) (r : Reading) → stands words.Word s ≡ true → IsEarly s r
memory_at-word stages.Memory r t = tt
memory_at-word _ r t = cc

-- vsm 1
pub vsm_kept : (r r' : Reading) (ws : Words) → vsm_line r ws ≡ Ok r' → stands words.Vsm r.stage ≡ true → IsKept r → IsKept r'
unfolding vsm_line
vsm_kept r r' ws e t k =
    let a = bound (number 1 2 ws) _ r' e in
    let b = bound (no_more a.value.1) _ r' a.rest in
    let p = k.printable in
    let bare = bare_at-vsm r.stage r t k.early in
    next _ r' b.rest (record { printable = p; early = record { masks = bare.masks; words = bare.words } })

-- a number of processors, with programs that are not given and no schedule
vps_within : (r : Reading) (n : ℕ) → IsWithin (script_of r) → 1 ≤ n → n ≤ most_vps → IsWithin (script_of (record r { limits = record r.limits { vps = n }; started = n; programs = nothings n; schedule = [] }))
vps_within r n w some few = record {
  vps_some = some;
  vps_few = few;
  pages_some = w.pages_some;
  pages_few = w.pages_few;
  budget_some = w.budget_some;
  budget_few = w.budget_few;
  started_some = some;
  started_few = omega arith;
  programs = length-replicate n nothing;
  turns_few = omega arith;
  entries = refl;
}

-- vps N
pub vps_kept : (r r' : Reading) (ws : Words) → vps_line r ws ≡ Ok r' → stands words.Vps r.stage ≡ true → IsKept r → IsKept r'
unfolding vps_line
vps_kept r r' ws e t k =
    let a = bound (number 1 (most_vps + 1) ws) _ r' e in
    let b = bound (no_more a.value.1) _ r' a.rest in
    let n = number_between 1 (most_vps + 1) ws a.value a.came in
    let p = k.printable in
    let bare = bare_at-vps r.stage r t k.early in
    let within = vps_within r a.value.0 p.within n.0 (omega (arith, n.1)) in
    next _ r' b.rest (record {
      printable = record { within = within; masks = p.masks; words = p.words; programs = nothings_are a.value.0; schedule = tt };
      early = record { masks = bare.masks; words = bare.words };
    })

-- a number of pages
pages_within : (r : Reading) (n : ℕ) → IsWithin (script_of r) → 1 ≤ n → n ≤ 256 → IsWithin (script_of (record r { limits = record r.limits { pages = n } }))
pages_within r n w some few = record {
  vps_some = w.vps_some;
  vps_few = w.vps_few;
  pages_some = some;
  pages_few = few;
  budget_some = w.budget_some;
  budget_few = w.budget_few;
  started_some = w.started_some;
  started_few = w.started_few;
  programs = w.programs;
  turns_few = w.turns_few;
  entries = w.entries;
}

-- pages N
pub pages_kept : (r r' : Reading) (ws : Words) → pages_line r ws ≡ Ok r' → stands words.Pages r.stage ≡ true → IsKept r → IsKept r'
unfolding pages_line
pages_kept r r' ws e t k =
    let a = bound (number 1 257 ws) _ r' e in
    let b = bound (no_more a.value.1) _ r' a.rest in
    let n = number_between 1 257 ws a.value a.came in
    let p = k.printable in
    let bare = bare_at-pages r.stage r t k.early in
    let within = pages_within r a.value.0 p.within n.0 (omega (arith, n.1)) in
    let masks = subst (AreMasks a.value.0 []) (sym bare.masks) tt in
    let words = subst (AreWords a.value.0 []) (sym bare.words) tt in
    next _ r' b.rest (record { printable = record { within = within; masks = masks; words = words; programs = p.programs; schedule = p.schedule }; early = tt })

-- a budget
budget_within : (r : Reading) (n : ℕ) → IsWithin (script_of r) → 1 ≤ n → n ≤ 10000 → IsWithin (script_of (record r { limits = record r.limits { budget = n } }))
budget_within r n w some few = record {
  vps_some = w.vps_some;
  vps_few = w.vps_few;
  pages_some = w.pages_some;
  pages_few = w.pages_few;
  budget_some = some;
  budget_few = few;
  started_some = w.started_some;
  started_few = w.started_few;
  programs = w.programs;
  turns_few = w.turns_few;
  entries = w.entries;
}

-- budget N
pub budget_kept : (r r' : Reading) (ws : Words) → budget_line r ws ≡ Ok r' → IsKept r → IsKept r'
unfolding budget_line
budget_kept r r' ws e k =
    let a = bound (number 1 10001 ws) _ r' e in
    let b = bound (no_more a.value.1) _ r' a.rest in
    let n = number_between 1 10001 ws a.value a.came in
    let p = k.printable in
    let within = budget_within r a.value.0 p.within n.0 (omega (arith, n.1)) in
    next _ r' b.rest (record { printable = record { within = within; masks = p.masks; words = p.words; programs = p.programs; schedule = p.schedule }; early = tt })

-- a number of processors that run from the beginning
started_within : (r : Reading) (n : ℕ) → IsWithin (script_of r) → 1 ≤ n → n ≤ r.limits.vps → IsWithin (script_of (record r { started = n }))
started_within r n w some few = record {
  vps_some = w.vps_some;
  vps_few = w.vps_few;
  pages_some = w.pages_some;
  pages_few = w.pages_few;
  budget_some = w.budget_some;
  budget_few = w.budget_few;
  started_some = some;
  started_few = few;
  programs = w.programs;
  turns_few = w.turns_few;
  entries = w.entries;
}

-- started N
pub started_kept : (r r' : Reading) (ws : Words) → started_line r ws ≡ Ok r' → IsKept r → IsKept r'
unfolding started_line
started_kept r r' ws e k =
    let a = bound (number 1 (r.limits.vps + 1) ws) _ r' e in
    let b = bound (no_more a.value.1) _ r' a.rest in
    let n = number_between 1 (r.limits.vps + 1) ws a.value a.came in
    let p = k.printable in
    let within = started_within r a.value.0 p.within n.0 (omega (arith, n.1)) in
    next _ r' b.rest (record { printable = record { within = within; masks = p.masks; words = p.words; programs = p.programs; schedule = p.schedule }; early = tt })

-- other masks, memory words and programs
pub with_others : (s : Script) (masks : List (Page × ℕ)) (words : List (Page × ℕ × ℕ)) (programs : List Program) → length programs ≡ length s.programs → IsWithin s → IsWithin (record s { masks = masks; words = words; programs = programs })
with_others s masks words programs same w = record {
  vps_some = w.vps_some;
  vps_few = w.vps_few;
  pages_some = w.pages_some;
  pages_few = w.pages_few;
  budget_some = w.budget_some;
  budget_few = w.budget_few;
  started_some = w.started_some;
  started_few = w.started_few;
  programs = same ∙ w.programs;
  turns_few = w.turns_few;
  entries = w.entries;
}

-- mask X M
pub mask_kept : (r r' : Reading) (ws : Words) → mask_line r ws ≡ Ok r' → stands words.Mask r.stage ≡ true → IsKept r → IsKept r'
unfolding mask_line
mask_kept r r' ws e t k =
    let a = bound (number 0 r.limits.pages ws) _ r' e in
    let b = bound (number 0 16 a.value.1) _ r' a.rest in
    let c = bound (valid_mask b.value.0) _ r' b.rest in
    let d = bound (no_more b.value.1) _ r' c.rest in
    let m : Page × ℕ = (page_of a.value.0, c.value) in
    let n = number_between 0 r.limits.pages ws a.value a.came in
    let made : Reading = record r { masks = r.masks ++ m ∷ [] } in
    let u = unmet (is_masked a.value.0 r.masks) made r' Twice d.rest in
    let p = k.printable in
    let within = with_others (script_of r) (r.masks ++ m ∷ []) r.words r.programs refl p.within in
    let masks = one_mask r.limits.pages [] r.masks m p.masks n.1 (valid_mask_ok b.value.0 c.value c.came) u.0 in
    let is : IsKept made = record { printable = record { within = within; masks = masks; words = p.words; programs = p.programs; schedule = p.schedule }; early = memory_at-mask r.stage made t } in
    subst IsKept u.1 is

-- word X I V
pub word_kept : (r r' : Reading) (ws : Words) → word_line r ws ≡ Ok r' → stands words.Word r.stage ≡ true → IsKept r → IsKept r'
unfolding word_line
word_kept r r' ws e t k =
    let a = bound (number 0 r.limits.pages ws) _ r' e in
    let b = bound (number 0 512 a.value.1) _ r' a.rest in
    let c = bound (number 0 (2 ^ 64) b.value.1) _ r' b.rest in
    let d = bound (no_more c.value.1) _ r' c.rest in
    let w : Page × ℕ × ℕ = (page_of a.value.0, b.value.0, c.value.0) in
    let n = number_between 0 r.limits.pages ws a.value a.came in
    let i = number_between 0 512 a.value.1 b.value b.came in
    let v = number_between 0 (2 ^ 64) b.value.1 c.value c.came in
    let made : Reading = record r { words = r.words ++ w ∷ [] } in
    let u = unmet (is_given a.value.0 b.value.0 r.words) made r' Twice d.rest in
    let p = k.printable in
    let within = with_others (script_of r) r.masks (r.words ++ w ∷ []) r.programs refl p.within in
    let words = one_word r.limits.pages [] r.words w p.words n.1 i.1 v.1 u.0 in
    let is : IsKept made = record { printable = record { within = within; masks = p.masks; words = words; programs = p.programs; schedule = p.schedule }; early = memory_at-word r.stage made t } in
    subst IsKept u.1 is

-- program P L
pub program_kept : (r r' : Reading) (ws : Words) → program_line r ws ≡ Ok r' → IsKept r → IsKept r'
unfolding program_line
program_kept r r' ws e k =
    let a = bound (number 0 r.limits.vps ws) _ r' e in
    let b = bound (number 0 most_levels a.value.1) _ r' a.rest in
    let c = bound (no_more b.value.1) _ r' b.rest in
    let made : Reading = record r { stage = stages.Program a.value.0 b.value.0; begun = r.begun ++ (a.value.0, b.value.0) ∷ [] } in
    let u = unmet (is_begun a.value.0 b.value.0 r.begun) made r' Twice c.rest in
    let is : IsKept made = record { printable = k.printable; early = tt } in
    subst IsKept u.1 is

-- one more line of the schedule
schedule_within : (r : Reading) (turns : List Turns) → IsWithin (script_of r) → turns_of turns + all_turns r.schedule ≤ 100000 → all_known r.limits.vps turns ≡ true → IsWithin (script_of (record r { schedule = r.schedule ++ turns ∷ [] }))
schedule_within r turns w few known = record {
  vps_some = w.vps_some;
  vps_few = w.vps_few;
  pages_some = w.pages_some;
  pages_few = w.pages_few;
  budget_some = w.budget_some;
  budget_few = w.budget_few;
  started_some = w.started_some;
  started_few = w.started_few;
  programs = w.programs;
  turns_few = rw (sum_by-append turns_of r.schedule (turns ∷ [])) (omega (arith, few));
  entries = known_line r.limits.vps r.schedule turns w.entries known;
}

-- schedule ENTRY ..
pub schedule_kept : (r r' : Reading) (ws : Words) → schedule_line r ws ≡ Ok r' → IsKept r → IsKept r'
unfolding schedule_line
schedule_kept r r' ws e k =
    let a = bound (some_entries r.limits.vps ws) _ r' e in
    let made : Reading = record r { stage = stages.Schedule; schedule = r.schedule ++ a.value ∷ [] } in
    let u = passed (nat_le (turns_of a.value + all_turns r.schedule) 100000) made r' TooMany a.rest in
    let few = no_more_than (turns_of a.value + all_turns r.schedule) 100000 u.0 in
    let s = some_entries_ok r.limits.vps ws a.value a.came in
    let p = k.printable in
    let within = schedule_within r a.value p.within few s.1.known in
    let lines = one_line r.schedule a.value p.schedule s.0 s.1.entries in
    let is : IsKept made = record { printable = record { within = within; masks = p.masks; words = p.words; programs = p.programs; schedule = lines }; early = tt } in
    subst IsKept u.1 is

-- end
pub end_kept : (r r' : Reading) (ws : Words) → end_line r ws ≡ Ok r' → IsKept r → IsKept r'
unfolding end_line
end_kept r r' ws e k =
    let a = bound (no_more ws) _ r' e in
    next _ r' a.rest (record { printable = k.printable; early = tt })
