-- What holds of each script that the language has.
use Rattle.std.proofs.Common.{ℕ, ◌^◌, ◌<◌, ◌≤◌, ◌≡◌, List, [], ◌∷◌, ◌++◌, length, true, false}
use Rattle.vsm_base.specs.Masks.{is_mask}
use Rattle.vsm_base.specs.Names.{is_general}
use Rattle.vsm_base.specs.declared.places.Page.{Page}
use Rattle.vsm_core.specs.declared.operation.Op.{Op}
use Rattle.vsm_core.specs.declared.operation.Op.TheVariants as ops
use Rattle.vsm_core.specs.declared.operation.Operand.{Operand}
use Rattle.vsm_core.specs.declared.operation.Operand.TheVariants as operands
use Rattle.vsm_core.specs.declared.operation.Program.{Program}
use Rattle.guest_script.specs.Fields.{is_named, is_target}
use Rattle.guest_script.specs.Line.{is_masked}
use Rattle.guest_script.specs.Within.{IsWithin}
use Rattle.guest_script.specs.Words.{is_given}
use Rattle.guest_script.specs.declared.script.Script.{Script}
use Rattle.guest_script.specs.declared.script.Turns.{Turns}

-- what a store may write
abbrev pub CanWrite : Operand → Type 0
CanWrite (operands.Number n) = n < 2 ^ 64
CanWrite (operands.Register name) = is_general name ≡ true

-- an operation that the language has
abbrev pub CanSay : Op → Type 0
CanSay (ops.Set name value) = (is_named name ≡ true) × (value < 2 ^ 128)
CanSay (ops.Get name) = is_named name ≡ true
CanSay (ops.Load name address) = (is_target name ≡ true) × (address.0 < 2 ^ 64)
CanSay (ops.Store address value) = (address.0 < 2 ^ 64) × CanWrite value
CanSay (ops.Exec address) = address.0 < 2 ^ 64
CanSay (ops.Spin address value) = (address.0 < 2 ^ 64) × (value < 2 ^ 64)
CanSay (ops.Jump target) = target < 2 ^ 64
CanSay (ops.JumpNe name value target) = (is_target name ≡ true) × ((value < 2 ^ 64) × (target < 2 ^ 64))
CanSay (ops.Invlpg address) = ⊥
CanSay (ops.Ack name) = is_target name ≡ true
CanSay _ = Unit {0}

abbrev pub CanSayAll : List Op → Type 0
CanSayAll [] = Unit {0}
CanSayAll (op ∷ others) = CanSay op × CanSayAll others

-- the programs of a processor
pub record IsProgram (p : Program) : Type 0 where
  pub zero_few : length p.zero ≤ 4096
  pub one_few : length p.one ≤ 4096
  pub zero_said : CanSayAll p.zero
  pub one_said : CanSayAll p.one

abbrev pub ArePrograms : List Program → Type 0
ArePrograms [] = Unit {0}
ArePrograms (p ∷ others) = IsProgram p × ArePrograms others

-- masks that can be given one after another, behind those that were given before
abbrev pub AreMasks : ℕ → List (Page × ℕ) → List (Page × ℕ) → Type 0
AreMasks pages before [] = Unit {0}
AreMasks pages before (m ∷ others) = (m.0.0 < pages) × ((is_mask m.1 ≡ true) × ((is_masked m.0.0 before ≡ false) × AreMasks pages (before ++ m ∷ []) others))

-- memory words that can be given one after another, behind those that were given before
abbrev pub AreWords : ℕ → List (Page × ℕ × ℕ) → List (Page × ℕ × ℕ) → Type 0
AreWords pages before [] = Unit {0}
AreWords pages before (w ∷ others) =
    (w.0.0 < pages) × ((w.1 < 512) × ((w.2 < 2 ^ 64) × ((is_given w.0.0 w.1 before ≡ false) × AreWords pages (before ++ w ∷ []) others)))

-- an entry of the schedule
pub record IsEntry (t : Turns) : Type 0 where
  pub whole : t.single ≡ false
  pub some : 1 ≤ t.count
  pub few : t.count ≤ 100000

abbrev pub AreEntries : List Turns → Type 0
AreEntries [] = Unit {0}
AreEntries (t ∷ others) = IsEntry t × AreEntries others

-- the lines of the schedule
abbrev pub AreLines : List (List Turns) → Type 0
AreLines [] = Unit {0}
AreLines (line ∷ others) = (0 < length line) × (AreEntries line × AreLines others)

-- a script that the language has
pub record IsPrintable (s : Script) : Type 0 where
  pub within : IsWithin s
  pub masks : AreMasks s.limits.pages [] s.masks
  pub words : AreWords s.limits.pages [] s.words
  pub programs : ArePrograms s.programs
  pub schedule : AreLines s.schedule
