-- An operation that is printed is read again.
use Rattle.std.proofs.Common.{◌≡◌, ℕ, ◌^◌, ◌<◌, [], ◌∷◌, true, Ok, refl, ◌∙◌, arith}
use Rattle.std.specs.Fmt.{decimal}
use Rattle.vsm_base.specs.Names.{spelling, named_by, is_spelled, all_names}
use Rattle.vsm_base.specs.declared.name.Name.{Name}
use Rattle.vsm_core.specs.declared.operation.Op.{Op}
use Rattle.vsm_core.specs.declared.operation.Op.TheVariants as ops
use Rattle.vsm_core.specs.declared.operation.Operand.{Operand}
use Rattle.vsm_core.specs.declared.operation.Operand.TheVariants as operands
use Rattle.guest_script.proofs.Printable.{CanSay, CanWrite}
use Rattle.guest_script.proofs.Spoken.{IsWord, AreSpoken}
use Rattle.guest_script.proofs.SpokenLines.{after_first-keyword}
use Rattle.guest_script.proofs.SpokenNumbers.{found, hex_is_word, decimal_is_word, name_is_word, keyword_is_word, named_by-spelling, any_number-hex, number-hex, number-decimal}
use Rattle.guest_script.specs.Fields.{Words, any_register, register, named_register, is_target, is_named, begins_with_letter, number, operand, register_operand, number_operand, no_more}
use Rattle.guest_script.specs.Line.{after_first, with_op, set_line, get_line, load_line, store_line, exec_line, spin_line, jump_line, jump_ne_line, hypercall_line, vtl_call_line, vtl_return_line, poll_line, ack_line, eoi_line, eom_line}
use Rattle.guest_script.specs.Print.{hex, operand_word, op_words}
use Rattle.guest_script.specs.declared.keyword.Keyword.TheVariants as words
use Rattle.guest_script.specs.declared.keyword.Stage.TheVariants as stages
use Rattle.guest_script.specs.declared.reading.Reading.{Reading}

-- what a store writes is a word
operand_is_word : (operand : Operand) → CanWrite operand → IsWord (operand_word operand)
operand_is_word (operands.Number n) c = hex_is_word n (omega arith)
operand_is_word (operands.Register name) c = name_is_word name

-- an operation's words stay whole
pub op_is_spoken : (op : Op) → CanSay op → AreSpoken (op_words op)
op_is_spoken (ops.Set name value) c = (keyword_is_word words.Set, (name_is_word name, (hex_is_word value c.1, tt)))
op_is_spoken (ops.Get name) c = (keyword_is_word words.Get, (name_is_word name, tt))
op_is_spoken (ops.Load name address) c = (keyword_is_word words.Load, (name_is_word name, (hex_is_word address.0 (omega (arith, c.1)), tt)))
op_is_spoken (ops.Store address value) c = (keyword_is_word words.Store, (hex_is_word address.0 (omega (arith, c.0)), (operand_is_word value c.1, tt)))
op_is_spoken (ops.Exec address) c = (keyword_is_word words.Exec, (hex_is_word address.0 (omega arith), tt))
op_is_spoken (ops.Spin address value) c = (keyword_is_word words.Spin, (hex_is_word address.0 (omega (arith, c.0)), (hex_is_word value (omega (arith, c.1)), tt)))
op_is_spoken (ops.Jump target) c = (keyword_is_word words.Jump, (decimal_is_word target c, tt))
op_is_spoken (ops.JumpNe name value target) c = (keyword_is_word words.JumpNe, (name_is_word name, (hex_is_word value (omega (arith, c.1.0)), (decimal_is_word target c.1.1, tt))))
op_is_spoken (ops.Invlpg address) c = absurd c
op_is_spoken ops.Hypercall c = (keyword_is_word words.Hypercall, tt)
op_is_spoken ops.VtlCall c = (keyword_is_word words.VtlCall, tt)
op_is_spoken ops.VtlReturn c = (keyword_is_word words.VtlReturn, tt)
op_is_spoken ops.Poll c = (keyword_is_word words.Poll, tt)
op_is_spoken (ops.Ack name) c = (keyword_is_word words.Ack, (name_is_word name, tt))
op_is_spoken ops.Eoi c = (keyword_is_word words.Eoi, tt)
op_is_spoken ops.Eom c = (keyword_is_word words.Eom, tt)

-- any register's name, and the words after it
any_register-spelling : (name : Name) (ws : Words) → any_register (spelling name ∷ ws) ≡ Ok (name, ws)
unfolding any_register
any_register-spelling name ws = rw (named_by-spelling name) refl

-- the name of a register that set and get may name
named_register-spelling : (name : Name) (ws : Words) → is_named name ≡ true → named_register (spelling name ∷ ws) ≡ Ok (name, ws)
unfolding named_register
named_register-spelling name ws e = rw (any_register-spelling name ws, e) refl

-- the name of a register that can be written
register-spelling : (name : Name) (ws : Words) → is_target name ≡ true → register (spelling name ∷ ws) ≡ Ok (name, ws)
unfolding register
register-spelling name ws e = rw (any_register-spelling name ws, e) refl

-- a register's name begins with a letter
letter_first : (name : Name) → begins_with_letter (spelling name) ≡ true
unfolding named_by all_names
letter_first name = found (is_spelled (spelling name)) (λ n. begins_with_letter (spelling n)) all_names name (named_by-spelling name) refl

-- a value or an address of 64 bits, and the words after it
word-hex : (n : ℕ) (ws : Words) → n < 2 ^ 64 → number 0 (2 ^ 64) (hex n ∷ ws) ≡ Ok (n, ws)
word-hex n ws f = number-hex 0 (2 ^ 64) n ws (omega arith) (omega arith) f

-- where a jump leads, and the words after it
target-decimal : (n : ℕ) (ws : Words) → n < 2 ^ 64 → number 0 (2 ^ 64) (decimal n ∷ ws) ≡ Ok (n, ws)
target-decimal n ws f = number-decimal 0 (2 ^ 64) n ws f (omega arith) f

-- what a store writes, and the words after it
operand-word : (o : Operand) (ws : Words) → CanWrite o → operand (operand_word o ∷ ws) ≡ Ok (o, ws)
unfolding operand number_operand register_operand
operand-word (operands.Number n) ws c = rw (word-hex n ws c) refl
operand-word (operands.Register name) ws c = rw (letter_first name, any_register-spelling name ws, c) refl

-- the line of an operation adds the operation
pub after_op : (r : Reading) (vp level : ℕ) (op : Op) → r.stage ≡ stages.Program vp level → CanSay op → after_first r (op_words op) ≡ with_op r op
unfolding set_line get_line load_line store_line exec_line spin_line jump_line jump_ne_line hypercall_line vtl_call_line vtl_return_line poll_line ack_line eoi_line eom_line no_more
after_op r vp level (ops.Set name value) s c =
    after_first-keyword r words.Set (spelling name ∷ hex value ∷ []) (rw s refl) ∙ rw (named_register-spelling name (hex value ∷ []) c.0, any_number-hex value [] c.1) refl
after_op r vp level (ops.Get name) s c =
    after_first-keyword r words.Get (spelling name ∷ []) (rw s refl) ∙ rw (named_register-spelling name [] c) refl
after_op r vp level (ops.Load name address) s c =
    after_first-keyword r words.Load (spelling name ∷ hex address.0 ∷ []) (rw s refl) ∙ rw (register-spelling name (hex address.0 ∷ []) c.0, word-hex address.0 [] c.1) refl
after_op r vp level (ops.Store address value) s c =
    after_first-keyword r words.Store (hex address.0 ∷ operand_word value ∷ []) (rw s refl) ∙ rw (word-hex address.0 (operand_word value ∷ []) c.0, operand-word value [] c.1) refl
after_op r vp level (ops.Exec address) s c =
    after_first-keyword r words.Exec (hex address.0 ∷ []) (rw s refl) ∙ rw (word-hex address.0 [] c) refl
after_op r vp level (ops.Spin address value) s c =
    after_first-keyword r words.Spin (hex address.0 ∷ hex value ∷ []) (rw s refl) ∙ rw (word-hex address.0 (hex value ∷ []) c.0, word-hex value [] c.1) refl
after_op r vp level (ops.Jump target) s c =
    after_first-keyword r words.Jump (decimal target ∷ []) (rw s refl) ∙ rw (target-decimal target [] c) refl
after_op r vp level (ops.JumpNe name value target) s c =
    after_first-keyword r words.JumpNe (spelling name ∷ hex value ∷ decimal target ∷ []) (rw s refl) ∙ rw (register-spelling name (hex value ∷ decimal target ∷ []) c.0, word-hex value (decimal target ∷ []) c.1.0, target-decimal target [] c.1.1) refl
after_op r vp level (ops.Invlpg address) s c = absurd c
after_op r vp level ops.Hypercall s c = after_first-keyword r words.Hypercall [] (rw s refl)
after_op r vp level ops.VtlCall s c = after_first-keyword r words.VtlCall [] (rw s refl)
after_op r vp level ops.VtlReturn s c = after_first-keyword r words.VtlReturn [] (rw s refl)
after_op r vp level ops.Poll s c = after_first-keyword r words.Poll [] (rw s refl)
after_op r vp level (ops.Ack name) s c =
    after_first-keyword r words.Ack (spelling name ∷ []) (rw s refl) ∙ rw (register-spelling name [] c) refl
after_op r vp level ops.Eoi s c = after_first-keyword r words.Eoi [] (rw s refl)
after_op r vp level ops.Eom s c = after_first-keyword r words.Eom [] (rw s refl)
