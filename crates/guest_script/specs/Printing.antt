-- The words of a line, as the printer puts them.
use Rattle.std.specs.Prelude.{ℕ, List}
use Rattle.std.specs.Fmt.{decimal}
use Rattle.guest_script.specs.Print.{hex}
use Rattle.guest_script.specs.declared.printer.Word.{Word}
use Rattle.guest_script.specs.declared.printer.Word.TheVariants as pieces

-- how a word is written
abbrev pub spelled : Word → List ℕ
spelled (pieces.Text bytes) = bytes.now
spelled (pieces.Decimal n) = decimal n
spelled (pieces.Hex n) = hex n
