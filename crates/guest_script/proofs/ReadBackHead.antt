-- The opening lines and the last line are read again.
use Rattle.std.proofs.Common.{◌≡◌, ℕ, ◌+◌, ◌^◌, ◌<◌, ◌≤◌, [], ◌∷◌, true, Ok, refl, ◌∙◌, arith}
use Rattle.std.specs.Fmt.{decimal}
use Rattle.vsm_base.specs.declared.places.Limits.{Limits}
use Rattle.guest_script.specs.Fields.{Words, no_more}
use Rattle.guest_script.specs.Grammar.{start}
use Rattle.guest_script.specs.Keywords.{spelling, stands}
use Rattle.guest_script.specs.Line.{after_first, vsm_line, vps_line, pages_line, budget_line, started_line, end_line}
use Rattle.guest_script.specs.Print.{head_lines}
use Rattle.guest_script.specs.Programs.{nothings}
use Rattle.guest_script.specs.declared.keyword.Keyword.{Keyword}
use Rattle.guest_script.specs.declared.keyword.Keyword.TheVariants as words
use Rattle.guest_script.specs.declared.keyword.Stage.TheVariants as stages
use Rattle.guest_script.specs.declared.reading.Reading.{Reading}
use Rattle.guest_script.proofs.ReadBackLines.{Leads, leads_on, leads_line}
use Rattle.guest_script.proofs.Spoken.{AreSpoken}
use Rattle.guest_script.proofs.SpokenLines.{after_first-keyword}
use Rattle.guest_script.proofs.SpokenNumbers.{decimal_is_word, keyword_is_word, number-decimal}

-- the line of this kind that gives a number
abbrev numbered : Keyword → ℕ → Words
numbered k n = spelling k ∷ decimal n ∷ []

-- its words
numbered_is_spoken : (k : Keyword) (n : ℕ) → n < 2 ^ 64 → AreSpoken (numbered k n)
numbered_is_spoken k n f = (keyword_is_word k, (decimal_is_word n f, tt))

-- the first line
vsm_read : (r : Reading) → r.stage ≡ stages.Vsm → after_first r (numbered words.Vsm 1) ≡ Ok (record r { stage = stages.Vps })
unfolding vsm_line no_more
vsm_read r s =
    let x = number-decimal 1 2 1 [] (omega arith) (omega arith) (omega arith) in
    after_first-keyword r words.Vsm (decimal 1 ∷ []) (rw s refl) ∙ rw x refl

-- the number of processors
vps_read : (r : Reading) (n : ℕ) → r.stage ≡ stages.Vps → 1 ≤ n → n ≤ 8 → after_first r (numbered words.Vps n) ≡ Ok (record r { stage = stages.Pages; limits = record r.limits { vps = n }; started = n; programs = nothings n; schedule = [] })
unfolding vps_line no_more
vps_read r n s a b =
    let x = number-decimal 1 9 n [] (omega arith) a (omega arith) in
    after_first-keyword r words.Vps (decimal n ∷ []) (rw s refl) ∙ rw x refl

-- the number of pages
pages_read : (r : Reading) (n : ℕ) → r.stage ≡ stages.Pages → 1 ≤ n → n ≤ 256 → after_first r (numbered words.Pages n) ≡ Ok (record r { stage = stages.Budget; limits = record r.limits { pages = n } })
unfolding pages_line no_more
pages_read r n s a b =
    let x = number-decimal 1 257 n [] (omega arith) a (omega arith) in
    after_first-keyword r words.Pages (decimal n ∷ []) (rw s refl) ∙ rw x refl

-- the budget
budget_read : (r : Reading) (n : ℕ) → r.stage ≡ stages.Budget → 1 ≤ n → n ≤ 10000 → after_first r (numbered words.Budget n) ≡ Ok (record r { stage = stages.Started; limits = record r.limits { budget = n } })
unfolding budget_line no_more
budget_read r n s a b =
    let x = number-decimal 1 10001 n [] (omega arith) a (omega arith) in
    after_first-keyword r words.Budget (decimal n ∷ []) (rw s refl) ∙ rw x refl

-- the number of processors that run from the beginning
started_read : (r : Reading) (n : ℕ) → r.stage ≡ stages.Started → 1 ≤ n → n ≤ r.limits.vps → r.limits.vps ≤ 8 → after_first r (numbered words.Started n) ≡ Ok (record r { stage = stages.Memory; started = n })
unfolding started_line no_more
started_read r n s a b c =
    let x = number-decimal 1 (r.limits.vps + 1) n [] (omega arith) a (omega arith) in
    after_first-keyword r words.Started (decimal n ∷ []) (rw s refl) ∙ rw x refl

-- what has been read after the opening lines
abbrev pub opened : Limits → ℕ → Reading
opened limits started = record { stage = stages.Memory; limits = limits; started = started; masks = []; words = []; programs = nothings limits.vps; begun = []; schedule = [] }

-- the opening lines
pub head_read : (limits : Limits) (started : ℕ) → 1 ≤ limits.vps → limits.vps ≤ 8 → 1 ≤ limits.pages → limits.pages ≤ 256 → 1 ≤ limits.budget → limits.budget ≤ 10000 → 1 ≤ started → started ≤ limits.vps → Leads start (head_lines limits started) (opened limits started)
head_read limits started a b c d e f g h =
    let first = record start { stage = stages.Vps } in
    let second = record first { stage = stages.Pages; limits = record first.limits { vps = limits.vps }; started = limits.vps; programs = nothings limits.vps } in
    let third = record second { stage = stages.Budget; limits = record second.limits { pages = limits.pages } } in
    let fourth = record third { stage = stages.Started; limits = limits } in
    leads_on (numbered_is_spoken words.Vsm 1 (omega arith)) (vsm_read start refl)
    (leads_on (numbered_is_spoken words.Vps limits.vps (omega arith)) (vps_read first limits.vps refl a b)
    (leads_on (numbered_is_spoken words.Pages limits.pages (omega arith)) (pages_read second limits.pages refl c d)
    (leads_on (numbered_is_spoken words.Budget limits.budget (omega arith)) (budget_read third limits.budget refl e f)
    (leads_line (numbered_is_spoken words.Started started (omega arith)) (started_read fourth started refl g h b)))))

-- the last line
pub end_read : (r : Reading) → stands words.End r.stage ≡ true → Leads r ((spelling words.End ∷ []) ∷ []) (record r { stage = stages.Done })
unfolding end_line no_more
end_read r s = leads_line (keyword_is_word words.End, tt) (after_first-keyword r words.End [] s)
