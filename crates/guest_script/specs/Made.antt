-- The script that is made from a number.
use Rattle.std.specs.Prelude.{ℕ, zero, suc, ◌+◌, ◌*◌, ◌-◌, ◌/◌, ◌%◌, ◌^◌, List, [], ◌∷◌, ◌++◌, map, false, if◌then◌else◌, ◌==◌}
use Rattle.std.specs.List.{range_with_len}
use Rattle.vsm_base.specs.declared.places.Page.{Page}
use Rattle.vsm_base.specs.declared.name.Name.TheVariants as registers
use Rattle.vsm_core.specs.declared.operation.Op.{Op}
use Rattle.vsm_core.specs.declared.operation.Op.TheVariants as ops
use Rattle.vsm_core.specs.declared.operation.Operand.TheVariants.{Number}
use Rattle.vsm_core.specs.declared.operation.Program.{Program}
use Rattle.guest_script.specs.Words.{page_of}
use Rattle.guest_script.specs.declared.script.Script.{Script}
use Rattle.guest_script.specs.declared.script.Turns.{Turns}

-- the next state of the generator, a linear congruence of 64 bits
unfoldable pub next_state : ℕ → ℕ
next_state x = (x * 6364136223846793005 + 1442695040888963407) % 2 ^ 64

-- the state after so many
abbrev pub state_after : ℕ → ℕ → ℕ
state_after zero x = x
state_after (suc count) x = state_after count (next_state x)

-- the address of a word of one of the eight pages of a processor, by bits 63 to 61 and 60 to 52 of a state
unfoldable pub address_of : ℕ → ℕ → ℕ
address_of vp x = ((8 * vp + x / 2 ^ 61) * 512 + x / 2 ^ 52 % 512) * 8

-- the access of a processor by a state: bit 51 says whether it stores this number or loads
unfoldable pub access_of : ℕ → ℕ → ℕ → Op
access_of vp number x =
    if x / 2 ^ 51 % 2 == 1 then ops.Store (record { 0 = address_of vp x }) (Number number) else ops.Load registers.Rax (record { 0 = address_of vp x })

-- so many accesses of a processor, the first of this number, by the states after this one
abbrev pub accesses : ℕ → ℕ → ℕ → ℕ → List Op
accesses vp number zero x = []
accesses vp number (suc count) x = access_of vp number (next_state x) ∷ accesses vp (number + 1) count (next_state x)

-- level 1 is enabled, for the partition and for the processor, and called
unfoldable pub enabling : List Op
enabling =
    ops.Set registers.Rcx 0x1000d ∷
    ops.Set registers.Rdx (2 ^ 64 - 1) ∷
    ops.Set registers.R8 1 ∷
    ops.Hypercall ∷
    ops.Set registers.Rcx 0xf ∷
    ops.Set registers.Rdx 0x1000 ∷
    ops.Hypercall ∷
    ops.Set registers.Rcx 0 ∷
    ops.VtlCall ∷ []

-- protection is turned on, sixteen pages get a mask in two slices, and level 0 goes on
unfoldable pub protecting : List Op
protecting =
    ops.Set registers.Rcx 0x100000051 ∷
    ops.Set registers.Rdx 0x2000 ∷
    ops.Hypercall ∷
    ops.Set registers.Rcx 0x100000000c ∷
    ops.Set registers.Rdx 0x3000 ∷
    ops.Hypercall ∷
    ops.Set registers.Rcx 0 ∷
    ops.VtlReturn ∷ []

-- a load from a protected page, and a store to it
unfoldable pub trying : List Op
trying = ops.Load registers.Rax (record { 0 = 0x20000 }) ∷ ops.Store (record { 0 = 0x20000 }) (Number 1) ∷ []

-- the inputs of the four hypercalls: pages 1 and 2, the head of page 3, and the pages that get a mask
unfoldable pub inputs : List (Page × ℕ × ℕ)
inputs =
    (page_of 1, 0, 2 ^ 64 - 1) ∷
    (page_of 1, 1, 0x1fffffffe) ∷
    (page_of 2, 0, 2 ^ 64 - 1) ∷
    (page_of 2, 1, 0xfffffffe) ∷
    (page_of 2, 2, 0xd0007) ∷
    (page_of 2, 4, 0x1f) ∷
    (page_of 3, 0, 2 ^ 64 - 1) ∷
    (page_of 3, 1, 0x100000000d) ∷ []

-- a page of the list of those that get a mask
abbrev pub element : ℕ → Page × ℕ × ℕ
element i = (page_of 3, i + 2, i + 32)

-- the programs of a processor, from this state of the generator on
unfoldable pub made_program : ℕ → ℕ → ℕ → Program
made_program n vp x =
    if vp == 0 then record { zero = enabling ++ accesses 0 1 n x ++ trying; one = protecting } else record { zero = accesses vp 1 n x ++ trying; one = [] }

-- the programs of so many processors from this number on
abbrev pub made_programs : ℕ → ℕ → ℕ → ℕ → List Program
made_programs n vp zero x = []
made_programs n vp (suc count) x = made_program n vp x ∷ made_programs n (vp + 1) count (state_after n x)

-- a processor acts until its programs are done
abbrev pub made_turns : ℕ → ℕ → Turns
made_turns n vp = record { vp = record { 0 = vp }; single = false; count = n + 40 }

-- the memory words
unfoldable pub made_words : List (Page × ℕ × ℕ)
made_words = inputs ++ map element (range_with_len 0 16)

-- the one line of the schedule
unfoldable pub made_schedule : ℕ → List (List Turns)
made_schedule n = map (made_turns n) (range_with_len 0 4) ∷ []

-- the script of a number
unfoldable pub made : ℕ → Script
made n = record {
  limits = record { vps = 4; pages = 64; budget = 10000 };
  started = 4;
  masks = [];
  words = made_words;
  programs = made_programs n 0 4 n;
  schedule = made_schedule n;
}
