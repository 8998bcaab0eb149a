use Rattle.std.proofs.Common.{◌++◌, ◌∷◌, [], ap, ◌∙◌, append_assoc, arith}
use Rattle.guest_script.specs.Keywords.{spelling}
use Rattle.guest_script.specs.Print.{after_space, entry_word}
use Rattle.guest_script.specs.declared.keyword.Keyword.TheVariants as words
use Rattle.guest_script.proofs.Mapped.{all_mapped}
use Rattle.guest_script.proofs.printer.push_entries.Goals as goal

pub returns : goal.returns
returns c =
    let front = c.args.text.now.items ++ spelling words.Schedule in
    let entries = all_mapped after_space entry_word c.args.turns.now c.loop-entry.entry-index (omega arith) in
    c.in_ok-push-2.ensures.items ∙ ap (λ text. text ++ 10 ∷ []) (c.loop-entry.invariant ∙ ap (λ text. front ++ text) entries) ∙ simp append_assoc
