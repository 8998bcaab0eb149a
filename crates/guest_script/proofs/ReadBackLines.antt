-- Lines that are read one after another.
use Rattle.std.proofs.Common.{◌≡◌, ℕ, List, [], ◌∷◌, ◌++◌, cond, true, Result, Ok, Err, refl, ap, ◌∙◌}
use Rattle.std.specs.List.{flat_map}
use Rattle.guest_script.specs.Fields.{Words, ◌>>=◌}
use Rattle.guest_script.specs.Grammar.{said_by, gone_on, next_number, finished, is_done}
use Rattle.guest_script.specs.Line.{after_first}
use Rattle.guest_script.specs.Lines.{lines_of}
use Rattle.guest_script.specs.Print.{line_text}
use Rattle.guest_script.specs.Sound.{script_of}
use Rattle.guest_script.specs.declared.reading.Reading.{Reading}
use Rattle.guest_script.specs.declared.script.Refusal.{Refusal}
use Rattle.guest_script.specs.declared.script.Script.{Script}
use Rattle.guest_script.specs.declared.script.Why.{Why}
use Rattle.guest_script.specs.declared.script.Why.TheVariants.{Cut}
use Rattle.guest_script.proofs.Spoken.{AreSpoken}
use Rattle.guest_script.proofs.SpokenLines.{said_by_line}

-- the reading after lines of these words
abbrev pub all_read : Reading → List Words → Result Reading Why
all_read r [] = Ok r
all_read r (ws ∷ lines) = after_first r ws >>= λ next. all_read next lines

-- each line has words that stay whole
abbrev pub AllSpoken : List Words → Type 0
AllSpoken [] = Unit {0}
AllSpoken (ws ∷ lines) = AreSpoken ws × AllSpoken lines

-- lines of these words lead from one reading to another
pub record Leads (first : Reading) (lines : List Words) (last : Reading) : Type 0 where
  pub spoken : AllSpoken lines
  pub read : all_read first lines ≡ Ok last

-- no lines
pub leads_nowhere : (r : Reading) → Leads r [] r
leads_nowhere r = record { spoken = tt; read = refl }

-- a line, and those after it
pub leads_on : {first next last : Reading} {ws : Words} {lines : List Words} → AreSpoken ws → after_first first ws ≡ Ok next → Leads next lines last → Leads first (ws ∷ lines) last
leads_on {lines = lines} s e l = record { spoken = (s, l.spoken); read = ap (λ r. r >>= λ next. all_read next lines) e ∙ l.read }

-- a line alone
pub leads_line : {first last : Reading} {ws : Words} → AreSpoken ws → after_first first ws ≡ Ok last → Leads first (ws ∷ []) last
leads_line {last = last} s e = leads_on s e (leads_nowhere last)

-- words of some lines and of others
all_spoken : (xs ys : List Words) → AllSpoken xs → AllSpoken ys → AllSpoken (xs ++ ys)
all_spoken [] ys p q = q
all_spoken (ws ∷ xs) ys p q = (p.0, all_spoken xs ys p.1 q)

-- steps one after another, grouped anew
regroup : (r : Result Reading Why) (f g h : Reading → Result Reading Why) → ((x : Reading) → f x ≡ (g x >>= h)) → (r >>= f) ≡ ((r >>= g) >>= h)
regroup (Ok x) f g h e = e x
regroup (Err why) f g h e = refl

-- some lines after others are read in two parts
all_read-append : (r : Reading) (xs ys : List Words) → all_read r (xs ++ ys) ≡ (all_read r xs >>= λ next. all_read next ys)
all_read-append r [] ys = refl
all_read-append r (ws ∷ xs) ys = regroup (after_first r ws) (λ next. all_read next (xs ++ ys)) (λ next. all_read next xs) (λ next. all_read next ys) (λ next. all_read-append next xs ys)

-- some lines after others
pub leads_then : {first mid last : Reading} {xs ys : List Words} → Leads first xs mid → Leads mid ys last → Leads first (xs ++ ys) last
leads_then {first = first} {xs = xs} {ys = ys} a b = record {
  spoken = all_spoken xs ys a.spoken b.spoken;
  read = all_read-append first xs ys ∙ ap (λ r. r >>= λ next. all_read next ys) a.read ∙ b.read;
}

-- a line that isn't refused hands on
gone : (r : Result Reading Why) (n : ℕ) (last : Reading) (s : Script) (f : Reading → Result Reading Why) (g : Reading → Result Script Refusal) → ((next : Reading) → f next ≡ Ok last → g next ≡ Ok s) → (r >>= f) ≡ Ok last → gone_on r n g ≡ Ok s
gone (Ok next) n last s f g h e = h next e
gone (Err why) n last s f g h e = cc

-- by induction over the lines
said_lines : (first last : Reading) (n : ℕ) (lines : List Words) → AllSpoken lines → all_read first lines ≡ Ok last → is_done last.stage ≡ true → said_by first n (lines_of (flat_map line_text lines)) ≡ Ok (script_of last)
said_lines first last n [] s e d =
    let p : first ≡ last = cc in
    ap (λ r. finished r n) p ∙ ap (λ b. cond b (Ok (script_of last)) (Err (record { line = n; why = Cut }))) d
said_lines first last n (ws ∷ lines) s e d =
    said_by_line first n ws (flat_map line_text lines) s.0 ∙ gone (after_first first ws) n last (script_of last) (λ next. all_read next lines) (λ next. said_by next (next_number n) (lines_of (flat_map line_text lines))) (λ next p. said_lines next last (next_number n) lines s.1 p d) e

-- lines that lead to the end are the script
pub said_by-leads : (first last : Reading) (n : ℕ) (lines : List Words) → Leads first lines last → is_done last.stage ≡ true → said_by first n (lines_of (flat_map line_text lines)) ≡ Ok (script_of last)
said_by-leads first last n lines l d = said_lines first last n lines l.spoken l.read d
