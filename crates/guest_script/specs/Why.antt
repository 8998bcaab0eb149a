-- The words by which a refusal says why.
use Rattle.std.specs.Prelude.{ℕ, List, codes}
use Rattle.guest_script.specs.declared.script.Why.{Why}
use Rattle.guest_script.specs.declared.script.Why.TheVariants as causes

-- the cause of a refusal, as it is written
abbrev pub why_text : Why → List ℕ
why_text causes.NotText = codes "not text"
why_text causes.UnknownWord = codes "unknown word"
why_text causes.OutOfOrder = codes "out of order"
why_text causes.MissingWord = codes "missing word"
why_text causes.BadNumber = codes "bad number"
why_text causes.BadName = codes "bad name"
why_text causes.BadEntry = codes "bad entry"
why_text causes.OutOfRange = codes "out of range"
why_text causes.ExtraWord = codes "extra word"
why_text causes.Twice = codes "twice"
why_text causes.TooMany = codes "too many"
why_text causes.Cut = codes "cut"
