-- Programs that are printed are read again.
use Rattle.std.proofs.Common.{◌≡◌, ℕ, ◌+◌, ◌*◌, ◌<◌, ◌≤◌, List, [], ◌∷◌, ◌++◌, length, map, Bool, true, false, cond, ◌&&◌, ◌==◌, nat_lt, slice_set, Ok, Err, refl, sym, ap, subst, ◌∙◌, arith, append_assoc, append-nil}
use Rattle.std.specs.Fmt.{decimal}
use Rattle.std.proofs.lemmas.Bool.Decides.{nat_tests}
use Rattle.std.proofs.lemmas.List.{get_or_at, set_at, length-append}
use Rattle.std.proofs.lemmas.List.Folds.{list_any-append}
use Rattle.vsm_core.specs.declared.operation.Op.{Op}
use Rattle.vsm_core.specs.declared.operation.Program.{Program}
use Rattle.guest_script.specs.Fields.{Words, no_more}
use Rattle.guest_script.specs.Keywords.{spelling, stands}
use Rattle.guest_script.specs.Line.{after_first, program_line, is_begun}
use Rattle.guest_script.specs.Print.{op_words, level_lines, program_lines, programs_lines}
use Rattle.guest_script.specs.Programs.{nothing, nothings, operations, with_operation, program_at, added}
use Rattle.guest_script.specs.declared.keyword.Keyword.TheVariants as words
use Rattle.guest_script.specs.declared.keyword.Stage.{Stage}
use Rattle.guest_script.specs.declared.keyword.Stage.TheVariants as stages
use Rattle.guest_script.specs.declared.reading.Reading.{Reading}
use Rattle.guest_script.specs.declared.script.Why.TheVariants.{TooMany}
use Rattle.guest_script.proofs.Printable.{CanSay, CanSayAll, IsProgram, ArePrograms}
use Rattle.guest_script.proofs.ReadBackLines.{Leads, leads_nowhere, leads_on, leads_then}
use Rattle.guest_script.proofs.SpokenLines.{after_first-keyword}
use Rattle.guest_script.proofs.SpokenNumbers.{decimal_is_word, keyword_is_word, number-decimal}
use Rattle.guest_script.proofs.SpokenOps.{op_is_spoken, after_op}

-- all these operations, one after another, in a level
abbrev with_all : Program → ℕ → List Op → Program
with_all p level [] = p
with_all p level (op ∷ ops) = with_all (with_operation p level op) level ops

-- operations of level 0
zero_with_all : (p : Program) (ops : List Op) → with_all p 0 ops ≡ record { zero = p.zero ++ ops; one = p.one }
zero_with_all p [] = ap (λ (xs : List Op). record { zero = xs; one = p.one }) (sym (append-nil p.zero))
zero_with_all p (op ∷ ops) =
    zero_with_all (with_operation p 0 op) ops ∙ ap (λ (xs : List Op). record { zero = xs; one = p.one }) (append_assoc p.zero (op ∷ []) ops)

-- operations of level 1
one_with_all : (p : Program) (ops : List Op) → with_all p 1 ops ≡ record { zero = p.zero; one = p.one ++ ops }
one_with_all p [] = ap (λ (xs : List Op). record { zero = p.zero; one = xs }) (sym (append-nil p.one))
one_with_all p (op ∷ ops) =
    one_with_all (with_operation p 1 op) ops ∙ ap (λ (xs : List Op). record { zero = p.zero; one = xs }) (append_assoc p.one (op ∷ []) ops)

-- the operations of level 0 or of level 1
abbrev chosen : Bool → Program → List Op
chosen b p = cond b p.zero p.one

-- an operation more makes that level longer by one
longer : (b : Bool) (p : Program) (op : Op) → length (chosen b (cond b (record p { zero = p.zero ++ op ∷ [] }) (record p { one = p.one ++ op ∷ [] }))) ≡ length (chosen b p) + 1
longer true p op = length-append p.zero (op ∷ [])
longer false p op = length-append p.one (op ∷ [])

-- the same by the level's number
one_longer : (p : Program) (level : ℕ) (op : Op) → length (operations (with_operation p level op) level) ≡ length (operations p level) + 1
one_longer p level op = longer (level == 0) p op

-- one more operation in the program at the place after these
added_at : (done rest : List Program) (p : Program) (vp level : ℕ) (op : Op) → length done ≡ vp → added (done ++ p ∷ rest) vp level op ≡ done ++ with_operation p level op ∷ rest
added_at done rest p vp level op l =
    ap (λ q. slice_set (done ++ p ∷ rest) vp (with_operation q level op)) (get_or_at done p rest nothing vp l) ∙ set_at done p rest (with_operation p level op) vp l

-- what has been read, with this stage, with these programs begun, and with these programs
abbrev with_programs : Reading → Stage → List (ℕ × ℕ) → List Program → Reading
with_programs r stage begun programs = record r { stage = stage; begun = begun; programs = programs }

-- an operation
op_read : (r : Reading) (begun : List (ℕ × ℕ)) (done rest : List Program) (p : Program) (vp level : ℕ) (op : Op) → length done ≡ vp → length (operations p level) < 4096 → CanSay op → after_first (with_programs r (stages.Program vp level) begun (done ++ p ∷ rest)) (op_words op) ≡ Ok (with_programs r (stages.Program vp level) begun (done ++ with_operation p level op ∷ rest))
op_read r begun done rest p vp level op l few c =
    let now = with_programs r (stages.Program vp level) begun (done ++ p ∷ rest) in
    let here : program_at (done ++ p ∷ rest) vp ≡ p = get_or_at done p rest nothing vp l in
    let fits : nat_lt (length (operations p level)) 4096 ≡ true = grind (arith, nat_tests) in
    after_op now vp level op refl c ∙ ap (λ q. cond (nat_lt (length (operations q level)) 4096) (Ok (record now { programs = added (done ++ p ∷ rest) vp level op })) (Err TooMany)) here ∙ ap (λ b. cond b (Ok (record now { programs = added (done ++ p ∷ rest) vp level op })) (Err TooMany)) fits ∙ ap (λ ps. Ok (with_programs r (stages.Program vp level) begun ps)) (added_at done rest p vp level op l)

-- the operations of a level
ops_read : (r : Reading) (begun : List (ℕ × ℕ)) (done rest : List Program) (p : Program) (vp level : ℕ) (ops : List Op) → length done ≡ vp → length (operations p level) + length ops ≤ 4096 → CanSayAll ops → Leads (with_programs r (stages.Program vp level) begun (done ++ p ∷ rest)) (map op_words ops) (with_programs r (stages.Program vp level) begun (done ++ with_all p level ops ∷ rest))
ops_read r begun done rest p vp level [] l few c = leads_nowhere (with_programs r (stages.Program vp level) begun (done ++ p ∷ rest))
ops_read r begun done rest p vp level (op ∷ ops) l few c =
    let longer = one_longer p level op in
    leads_on (op_is_spoken op c.0) (op_read r begun done rest p vp level op l (omega arith) c.0) (ops_read r begun done rest (with_operation p level op) vp level ops l (omega arith) c.1)

-- no program from this place on was begun, where the two levels of each processor take two places
abbrev pub IsFresh : ℕ → List (ℕ × ℕ) → Type 0
IsFresh place begun = (vp level : ℕ) → level < 2 → place ≤ 2 * vp + level → is_begun vp level begun ≡ false

-- a later place
fresh_later : (place later : ℕ) (begun : List (ℕ × ℕ)) → place ≤ later → IsFresh place begun → IsFresh later begun
fresh_later place later begun h f vp level l k = f vp level l (omega arith)

-- the program at this place is begun
fresh_more : (vp level : ℕ) (begun : List (ℕ × ℕ)) → IsFresh (2 * vp + level) begun → IsFresh (2 * vp + level + 1) (begun ++ (vp, level) ∷ [])
fresh_more vp level begun f v m l k =
    let here : (vp == v && level == m) ≡ false = grind (arith, nat_tests) in
    list_any-append (λ b. b.0 == v && b.1 == m) begun ((vp, level) ∷ []) ∙ rw (f v m l (omega arith), here) refl

-- a program may be begun at this stage, and the schedule or the end may come
pub record IsOpen (stage : Stage) : Type 0 where
  pub program : stands words.Program stage ≡ true
  pub schedule : stands words.Schedule stage ≡ true
  pub end : stands words.End stage ≡ true

-- a line that begins a program
program_read : (r : Reading) (vp level : ℕ) → stands words.Program r.stage ≡ true → vp < r.limits.vps → r.limits.vps ≤ 8 → level < 2 → is_begun vp level r.begun ≡ false → after_first r (spelling words.Program ∷ decimal vp ∷ decimal level ∷ []) ≡ Ok (record r { stage = stages.Program vp level; begun = r.begun ++ (vp, level) ∷ [] })
unfolding program_line no_more
program_read r vp level s v k m n =
    let x = number-decimal 0 r.limits.vps vp (decimal level ∷ []) (omega arith) (omega arith) v in
    let y = number-decimal 0 2 level [] (omega arith) (omega arith) m in
    after_first-keyword r words.Program (decimal vp ∷ decimal level ∷ []) s ∙ rw (x, y, n) refl

-- lines that lead to these programs, and to some stage at which programs from this place on may still be begun
pub record LeadsTo (r : Reading) (lines : List Words) (place : ℕ) (all : List Program) : Type 0 where
  pub stage : Stage
  pub begun : List (ℕ × ℕ)
  pub open_then : IsOpen stage
  pub fresh : IsFresh place begun
  pub leads : Leads r lines (with_programs r stage begun all)

-- the program of a level
level_read : (r : Reading) (done rest : List Program) (p : Program) (vp level : ℕ) (ops : List Op) → IsOpen r.stage → IsFresh (2 * vp + level) r.begun → vp < r.limits.vps → r.limits.vps ≤ 8 → level < 2 → length done ≡ vp → length (operations p level) + length ops ≤ 4096 → CanSayAll ops → r.programs ≡ done ++ p ∷ rest → LeadsTo r (level_lines vp level ops) (2 * vp + level + 1) (done ++ with_all p level ops ∷ rest)
level_read r done rest p vp level [] o f v k m l few c e = record {
  stage = r.stage;
  begun = r.begun;
  open_then = o;
  fresh = fresh_later (2 * vp + level) (2 * vp + level + 1) r.begun (omega arith) f;
  leads = subst (λ ps. Leads r [] (with_programs r r.stage r.begun ps)) e (leads_nowhere r);
}
level_read r done rest p vp level (op ∷ ops) o f v k m l few c e =
    let begun = r.begun ++ (vp, level) ∷ [] in
    let begins = program_read r vp level o.program v k m (f vp level m (omega arith)) ∙ ap (λ ps. Ok (with_programs r (stages.Program vp level) begun ps)) e in
    record {
      stage = stages.Program vp level;
      begun = begun;
      open_then = record { program = refl; schedule = refl; end = refl };
      fresh = fresh_more vp level r.begun f;
      leads = leads_on (keyword_is_word words.Program, (decimal_is_word vp (omega arith), (decimal_is_word level (omega arith), tt))) begins (ops_read r begun done rest p vp level (op ∷ ops) l few c);
    }

-- some lines after others
leads_to_then : (r : Reading) (xs ys : List Words) (place later : ℕ) (some all : List Program) (a : LeadsTo r xs place some) → LeadsTo (with_programs r a.stage a.begun some) ys later all → LeadsTo r (xs ++ ys) later all
leads_to_then r xs ys place later some all a b = record {
  stage = b.stage;
  begun = b.begun;
  open_then = b.open_then;
  fresh = b.fresh;
  leads = leads_then a.leads b.leads;
}

-- the programs of a processor
processor_read : (r : Reading) (done rest : List Program) (p : Program) (vp : ℕ) → IsOpen r.stage → IsFresh (2 * vp + 0) r.begun → vp < r.limits.vps → r.limits.vps ≤ 8 → length done ≡ vp → IsProgram p → r.programs ≡ done ++ nothing ∷ rest → LeadsTo r (program_lines vp p) (2 * vp + 1 + 1) (done ++ p ∷ rest)
processor_read r done rest p vp o f v k l c e =
    let half = with_all nothing 0 p.zero in
    let is_half : half ≡ record { zero = p.zero; one = [] } = zero_with_all nothing p.zero in
    let few = c.zero_few in
    let also_few = c.one_few in
    let none : length half.one ≡ 0 = ap (λ (q : Program). length q.one) is_half in
    let is_whole : with_all half 1 p.one ≡ p = one_with_all half p.one ∙ ap (λ (q : Program). record { zero = q.zero; one = q.one ++ p.one }) is_half in
    let a = level_read r done rest nothing vp 0 p.zero o f v k (omega arith) l (omega arith) c.zero_said e in
    let mid = with_programs r a.stage a.begun (done ++ half ∷ rest) in
    let b = level_read mid done rest half vp 1 p.one a.open_then (fresh_later (2 * vp + 0 + 1) (2 * vp + 1) a.begun (omega arith) a.fresh) v k (omega arith) l (omega arith) c.one_said refl in
    leads_to_then r (level_lines vp 0 p.zero) (level_lines vp 1 p.one) (2 * vp + 0 + 1) (2 * vp + 1 + 1) (done ++ half ∷ rest) (done ++ p ∷ rest) a (subst (λ q. LeadsTo mid (level_lines vp 1 p.one) (2 * vp + 1 + 1) (done ++ q ∷ rest)) is_whole b)

-- the programs of all processors from this place on
pub programs_read : (r : Reading) (done ps : List Program) (vp : ℕ) → IsOpen r.stage → IsFresh (2 * vp + 0) r.begun → vp + length ps ≤ r.limits.vps → r.limits.vps ≤ 8 → length done ≡ vp → ArePrograms ps → r.programs ≡ done ++ nothings (length ps) → LeadsTo r (programs_lines vp ps) (2 * r.limits.vps) (done ++ ps)
programs_read r done [] vp o f v k l c e = record {
  stage = r.stage;
  begun = r.begun;
  open_then = o;
  fresh = fresh_later (2 * vp + 0) (2 * r.limits.vps) r.begun (omega arith) f;
  leads = subst (λ ps. Leads r [] (with_programs r r.stage r.begun ps)) e (leads_nowhere r);
}
programs_read r done (p ∷ ps) vp o f v k l c e =
    let a = processor_read r done (nothings (length ps)) p vp o f (omega arith) k l c.0 e in
    let some = done ++ p ∷ nothings (length ps) in
    let mid = with_programs r a.stage a.begun some in
    let b = programs_read mid (done ++ p ∷ []) ps (vp + 1) a.open_then (fresh_later (2 * vp + 1 + 1) (2 * (vp + 1) + 0) a.begun (omega arith) a.fresh) (omega arith) k (omega (arith, length-append done (p ∷ []))) c.1 (sym (append_assoc done (p ∷ []) (nothings (length ps)))) in
    leads_to_then r (program_lines vp p) (programs_lines (vp + 1) ps) (2 * vp + 1 + 1) (2 * r.limits.vps) some (done ++ p ∷ ps) a (subst (λ all. LeadsTo mid (programs_lines (vp + 1) ps) (2 * r.limits.vps) all) (append_assoc done (p ∷ []) ps) b)
