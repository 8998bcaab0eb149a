-- A script that is read is one that the language has.
use Rattle.std.proofs.Common.{◌≡◌, ℕ, List, [], ◌∷◌, Bool, true, false, cond, Option, Some, None, Result, Ok, Err, refl, subst, arith}
use Rattle.std.specs.List.{list_all}
use Rattle.guest_script.specs.Fields.{Words}
use Rattle.guest_script.specs.Grammar.{start, is_done, gone_on, next_number, said_by, script}
use Rattle.guest_script.specs.Keywords.{keyword_of, stands}
use Rattle.guest_script.specs.Line.{is_text, is_comment, after_words, after_keyword, after_first, after_line}
use Rattle.guest_script.specs.Lines.{lines_of, words_of}
use Rattle.guest_script.specs.Sound.{script_of}
use Rattle.guest_script.specs.declared.keyword.Keyword.{Keyword}
use Rattle.guest_script.specs.declared.keyword.Keyword.TheVariants as words
use Rattle.guest_script.specs.declared.reading.Reading.{Reading}
use Rattle.guest_script.specs.declared.script.Refusal.{Refusal}
use Rattle.guest_script.specs.declared.script.Script.{Script}
use Rattle.guest_script.specs.declared.script.Why.{Why}
use Rattle.guest_script.specs.declared.script.Why.TheVariants.{NotText, OutOfOrder, Cut}
use Rattle.guest_script.proofs.LinesSaid.{IsKept, next, vsm_kept, vps_kept, pages_kept, budget_kept, started_kept, mask_kept, word_kept, program_kept, schedule_kept, end_kept}
use Rattle.guest_script.proofs.OneMore.{nothings_are}
use Rattle.guest_script.proofs.OpsSaid.{set_kept, get_kept, load_kept, store_kept, exec_kept, spin_kept, jump_kept, jump_ne_kept, hypercall_kept, vtl_call_kept, vtl_return_kept, poll_kept, ack_kept, eoi_kept, eom_kept}
use Rattle.guest_script.proofs.Printable.{IsPrintable}

-- a line of this kind
words_kept : (r r' : Reading) (keyword : Keyword) (ws : Words) → after_words r keyword ws ≡ Ok r' → stands keyword r.stage ≡ true → IsKept r → IsKept r'
words_kept r r' words.Vsm ws e t k = vsm_kept r r' ws e t k
words_kept r r' words.Vps ws e t k = vps_kept r r' ws e t k
words_kept r r' words.Pages ws e t k = pages_kept r r' ws e t k
words_kept r r' words.Budget ws e t k = budget_kept r r' ws e k
words_kept r r' words.Started ws e t k = started_kept r r' ws e k
words_kept r r' words.Mask ws e t k = mask_kept r r' ws e t k
words_kept r r' words.Word ws e t k = word_kept r r' ws e t k
words_kept r r' words.Program ws e t k = program_kept r r' ws e k
words_kept r r' words.Set ws e t k = set_kept r r' ws e k
words_kept r r' words.Get ws e t k = get_kept r r' ws e k
words_kept r r' words.Load ws e t k = load_kept r r' ws e k
words_kept r r' words.Store ws e t k = store_kept r r' ws e k
words_kept r r' words.Exec ws e t k = exec_kept r r' ws e k
words_kept r r' words.Spin ws e t k = spin_kept r r' ws e k
words_kept r r' words.Jump ws e t k = jump_kept r r' ws e k
words_kept r r' words.JumpNe ws e t k = jump_ne_kept r r' ws e k
words_kept r r' words.Hypercall ws e t k = hypercall_kept r r' ws e k
words_kept r r' words.VtlCall ws e t k = vtl_call_kept r r' ws e k
words_kept r r' words.VtlReturn ws e t k = vtl_return_kept r r' ws e k
words_kept r r' words.Poll ws e t k = poll_kept r r' ws e k
words_kept r r' words.Ack ws e t k = ack_kept r r' ws e k
words_kept r r' words.Eoi ws e t k = eoi_kept r r' ws e k
words_kept r r' words.Eom ws e t k = eom_kept r r' ws e k
words_kept r r' words.Schedule ws e t k = schedule_kept r r' ws e k
words_kept r r' words.End ws e t k = end_kept r r' ws e k

-- a step that is taken only where a test holds, and what is known of it
granted : (b : Bool) (m : Result Reading Why) (why : Why) (r : Reading) → cond b m (Err why) ≡ Ok r → (b ≡ true) × (m ≡ Ok r)
granted true m why r e = (refl, e)
granted false m why r e = cc

-- a line of this kind, where it can stand here
keyword_kept : (r r' : Reading) (keyword : Option Keyword) (ws : Words) → after_keyword r keyword ws ≡ Ok r' → IsKept r → IsKept r'
keyword_kept r r' None ws e k = cc
keyword_kept r r' (Some keyword) ws e k =
    let g = granted (stands keyword r.stage) (after_words r keyword ws) OutOfOrder r' e in
    words_kept r r' keyword ws g.1 g.0 k

-- a comment says nothing
comment_kept : (r r' : Reading) (b : Bool) (m : Result Reading Why) → cond b (Ok r) m ≡ Ok r' → (m ≡ Ok r' → IsKept r') → IsKept r → IsKept r'
comment_kept r r' true m e other k = next r r' e k
comment_kept r r' false m e other k = other e

-- a line of these words
first_kept : (r r' : Reading) (ws : Words) → after_first r ws ≡ Ok r' → IsKept r → IsKept r'
first_kept r r' [] e k = next r r' e k
first_kept r r' (word ∷ ws) e k =
    comment_kept r r' (is_comment word) (after_keyword r (keyword_of word) ws) e (λ a. keyword_kept r r' (keyword_of word) ws a k) k

-- a line
line_kept : (r r' : Reading) (line : List ℕ) → after_line r line ≡ Ok r' → IsKept r → IsKept r'
unfolding after_line
line_kept r r' line e k =
    let g = granted (list_all is_text line) (after_first r (words_of line)) NotText r' e in
    first_kept r r' (words_of line) g.1 k

-- a line that wasn't refused, and what came after it
record WentOn (m : Result Reading Why) (rest : Reading → Result Script Refusal) (s : Script) : Type 0 where
  pub value : Reading
  pub came : m ≡ Ok value
  pub then : rest value ≡ Ok s

-- the parts of a line that was not refused
went_on : (m : Result Reading Why) (n : ℕ) (rest : Reading → Result Script Refusal) (s : Script) → gone_on m n rest ≡ Ok s → WentOn m rest s
went_on (Ok r) n rest s e = record { value = r; came = refl; then = e }
went_on (Err why) n rest s e = cc

-- `end` has been read
done : (b : Bool) (s t : Script) (refusal : Refusal) → cond b (Ok s) (Err refusal) ≡ Ok t → s ≡ t
done true s t refusal e = cc
done false s t refusal e = cc

-- all lines from here on
lines_kept : (r : Reading) (n : ℕ) (lines : List (List ℕ)) (s : Script) → said_by r n lines ≡ Ok s → IsKept r → IsPrintable s
lines_kept r n [] s e k =
    subst IsPrintable (done (is_done r.stage) (script_of r) s (record { line = n; why = Cut }) e) k.printable
lines_kept r n (line ∷ lines) s e k =
    let w = went_on (after_line r line) n (λ next. said_by next (next_number n) lines) s e in
    lines_kept w.value (next_number n) lines s w.then (line_kept r w.value line w.came k)

-- what stands before the first line
start_is : IsKept start
start_is = record {
  printable = record {
    within = record {
      vps_some = omega arith;
      vps_few = omega arith;
      pages_some = omega arith;
      pages_few = omega arith;
      budget_some = omega arith;
      budget_few = omega arith;
      started_some = omega arith;
      started_few = omega arith;
      programs = refl;
      turns_few = omega arith;
      entries = refl;
    };
    masks = tt;
    words = tt;
    programs = nothings_are 1;
    schedule = tt;
  };
  early = record { masks = refl; words = refl };
}

-- a script that bytes spell is one that the language has
pub said_is_printable : (bytes : List ℕ) (s : Script) → script bytes ≡ Ok s → IsPrintable s
unfolding script
said_is_printable bytes s e = lines_kept start 1 (lines_of bytes) s e start_is
