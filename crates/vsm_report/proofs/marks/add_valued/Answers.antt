use Rattle.std.proofs.Common.{[], ◌∷◌, ◌++◌, codes}
use Rattle.std.specs.Fmt.{decimal}
use Rattle.vsm_report.specs.Pieces.{hex_digits}
use Rattle.vsm_report.specs.Words.{mask_word}
use Rattle.vsm_report.proofs.Gathering.{added_then}
use Rattle.vsm_report.proofs.marks.add_valued.Goals as goal

pub returns : goal.returns
returns c =
    let g = c.args.grant.now in
    let value = hex_digits 16 g.value ++ 10 ∷ [] in
    let valued = codes " value 0x" ++ value in
    let generation = decimal g.generation ++ valued in
    let generated = codes " gen " ++ generation in
    let mask = mask_word g.mask ++ generated in
    let masked = codes " mask " ++ mask in
    let page = decimal g.page.0 ++ masked in
    added_then c.args.buffer.now c.args.head.now page c.add.ensures.text (added_then c.add.new.self (decimal g.page.0) masked c.add_decimal.ensures.text (added_then c.add_decimal.new.self (codes " mask ") mask c.add-2.ensures.text (added_then c.add-2.new.self (mask_word g.mask) generated c.add_mask.ensures.text (added_then c.add_mask.new.buffer (codes " gen ") generation c.add-3.ensures.text (added_then c.add-3.new.self (decimal g.generation) valued c.add_decimal-2.ensures.text (added_then c.add_decimal-2.new.self (codes " value 0x") value c.add-4.ensures.text (added_then c.add-4.new.self (hex_digits 16 g.value) (10 ∷ []) c.add_hex.ensures.text c.add_byte.ensures.text)))))))
