-- The text of a report.
use Rattle.std.specs.Prelude.{ℕ, ◌/◌, ◌%◌, List, [], ◌∷◌, ◌++◌, length, Option, Some, None, if◌then◌else◌, ◌==◌, codes, slice_get, slice_index}
use Rattle.std.specs.List.{concat, flat_map, range_with_len}
use Rattle.std.specs.Fmt.{decimal}
use Rattle.vsm_core.specs.declared.mark.Ending.{Ending}
use Rattle.vsm_core.specs.declared.mark.Ending.TheVariants as endings
use Rattle.guest_script.specs.declared.script.Script.{Script}
use Rattle.vsm_report.specs.Journal.{entry_text}
use Rattle.vsm_report.specs.Marks.{mark_text}
use Rattle.vsm_report.specs.Opening.{opening_masks, opening_words}
use Rattle.vsm_report.specs.Pieces.{hex_digits, line}
use Rattle.vsm_report.specs.Words.{fault_word}
use Rattle.vsm_report.specs.declared.report.Line.{Line}
use Rattle.vsm_report.specs.declared.report.Line.TheVariants as made
use Rattle.vsm_report.specs.declared.report.Report.{Report}

-- the text of a report's line; a step has none yet
abbrev pub line_text : Script → Line → List ℕ
line_text s (made.Step vp word) = []
line_text s (made.Entry entry) = entry_text entry
line_text s (made.Mark vp mark) = mark_text s vp mark

-- the processor that ended
unfoldable pub ended_text : ℕ → List ℕ
ended_text vp = concat (codes "end " ∷ decimal vp ∷ codes " " ∷ [])

-- how a processor ended
abbrev pub ending_text : Ending → List ℕ
ending_text endings.Done = line (codes "done" ∷ [])
ending_text endings.Budget = line (codes "budget" ∷ [])
ending_text endings.Spun = line (codes "spun" ∷ [])
ending_text endings.Held = line (codes "held" ∷ [])
ending_text (endings.Fault kind) = line (codes "fault " ∷ fault_word kind ∷ [])
ending_text endings.Unstarted = line (codes "unstarted" ∷ [])
ending_text endings.Cut = line (codes "cut" ∷ [])

-- the line of a processor of this ending, if there is one
abbrev pub end_text : ℕ → Option Ending → List ℕ
end_text vp None = []
end_text vp (Some ending) = ended_text vp ++ ending_text ending

-- the line of a processor's ending
abbrev pub end_text_at : List Ending → ℕ → List ℕ
end_text_at ends vp = end_text vp (slice_get ends vp)

-- the line of a page whose mask differs from its opening mask
abbrev pub changed_mask_text : ℕ → ℕ → ℕ → List ℕ
changed_mask_text page opening mask =
    if opening == mask then [] else line (codes "mask " ∷ decimal page ∷ codes " " ∷ decimal mask ∷ [])

-- the same by the lists of all opening masks and of all masks
abbrev pub mask_text : List ℕ → List ℕ → ℕ → List ℕ
mask_text opening masks page = changed_mask_text page (slice_index opening page) (slice_index masks page)

-- the line of a memory word
abbrev pub changed_line : ℕ → ℕ → List ℕ
changed_line at value =
    line (codes "word " ∷ decimal (at / 512) ∷ codes ":" ∷ decimal (at % 512) ∷ codes " 0x" ∷ hex_digits 16 value ∷ [])

-- the same where it differs from its opening value
abbrev pub changed_text : ℕ → ℕ → ℕ → List ℕ
changed_text at opening value = if opening == value then [] else changed_line at value

-- the same by the lists of all opening values and of all values
abbrev pub word_text : List ℕ → List ℕ → ℕ → List ℕ
word_text opening words at = changed_text at (slice_index opening at) (slice_index words at)

-- the parts of a report's text
unfoldable pub head_text : List ℕ
head_text = line (codes "vsm-report 1 trace" ∷ [])

unfoldable pub lines_text : Script → Report → List ℕ
lines_text s r = flat_map (line_text s) r.lines

unfoldable pub ends_text : Report → List ℕ
ends_text r = flat_map (end_text_at r.ends) (range_with_len 0 (length r.ends))

unfoldable pub masks_text : Script → Report → List ℕ
masks_text s r = flat_map (mask_text (opening_masks s) r.masks) (range_with_len 0 (length r.masks))

unfoldable pub words_text : Script → Report → List ℕ
words_text s r = flat_map (word_text (opening_words s) r.words) (range_with_len 0 (length r.words))

unfoldable pub close_text : List ℕ
close_text = line (codes "close" ∷ [])

-- the text of a script's report
unfoldable pub text : Script → Report → List ℕ
text s r = head_text ++ lines_text s r ++ ends_text r ++ masks_text s r ++ words_text s r ++ close_text
