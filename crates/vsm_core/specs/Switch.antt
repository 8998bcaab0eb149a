-- The switches between the levels of a processor, and the assist page (TLFS, Virtual Secure Mode: VTL Entry, VTL Return, VP Assist Page).
use Rattle.std.specs.Prelude.{ℕ, ◌/◌, ◌%◌, ◌^◌, ◌==◌, ◌&&◌, Bool, true, false, if◌then◌else◌, nat_lt, Option, Some, None}
use Rattle.vsm_base.specs.declared.name.Name.TheVariants as names
use Rattle.vsm_base.specs.declared.places.Vtl.{Vtl}
use Rattle.vsm_base.specs.declared.places.Vtl.TheVariants.{Zero, One}
use Rattle.vsm_core.specs.Registers.{get as get_in}
use Rattle.vsm_core.specs.State.{State, gone_on, put_legal, privilege_of, word_of}

-- the same state with this level active: the level's own registers are the current ones, and all registers of both levels stay
abbrev pub with_active : State → Vtl → State
with_active state level = record state { active = level }

abbrev pub is_zero : Vtl → Bool
is_zero Zero = true
is_zero One = false

-- a call is lawful at privilege level 0 of level 0, where level 1 is enabled and RCX is 0
abbrev pub may_call : State → Bool
may_call state = (privilege_of state == 0) && is_zero state.active && state.enabled && (word_of state names.Rcx == 0)

-- a return is lawful at privilege level 0 of level 1, where RCX has no bit but bit 0
abbrev pub may_return : State → Bool
may_return state = (privilege_of state == 0) && (if is_zero state.active then false else true) && (word_of state names.Rcx / 2 == 0)

-- an interrupt or an intercept enters level 1 from level 0, where level 1 is enabled
abbrev pub may_enter : State → Bool
may_enter state = is_zero state.active && state.enabled

-- the call goes past the operation of level 0 and enters level 1
abbrev pub called : State → State
called state = with_active (gone_on state) One

-- an interrupt or an intercept enters level 1 and leaves where level 0 stands
abbrev pub entered : State → State
entered state = with_active state One

-- a return is a fast one: RAX and RCX are kept
abbrev pub is_fast : State → Bool
is_fast state = word_of state names.Rcx % 2 == 1

-- RAX and RCX become these
abbrev pub with_pair : State → Option (ℕ × ℕ) → State
with_pair state None = state
with_pair state (Some pair) = put_legal (put_legal state names.Rax pair.0) names.Rcx pair.1

-- the return goes past the operation of level 1 and makes level 0 active; RAX and RCX become the pair, where there is one
abbrev pub returned : State → Option (ℕ × ℕ) → State
returned state pair = with_pair (with_active (gone_on state) Zero) pair

-- level 1's assist page among so many pages, where it is on
abbrev pub page_if : Bool → ℕ → Option ℕ
page_if true page = Some page
page_if false page = None

abbrev pub page_named : ℕ → ℕ → Option ℕ
page_named pages word = page_if ((word % 2 == 1) && nat_lt (word / 4096) pages) (word / 4096)

abbrev pub assist_page : ℕ → State → Option ℕ
assist_page pages state = page_named pages (get_in state.registers One names.VpAssistPage % 2 ^ 64)

-- the page from which a return takes RAX and RCX, where it does
abbrev pub restored_from : ℕ → State → Option ℕ
restored_from pages state = if is_fast state then None else assist_page pages state

-- the words of the assist page: why level 1 was entered, and what a return gives to RAX and RCX
abbrev pub reason_index : ℕ
reason_index = 1

abbrev pub rax_index : ℕ
rax_index = 2

abbrev pub rcx_index : ℕ
rcx_index = 3

-- why level 1 was entered
abbrev pub by_call : ℕ
by_call = 1

abbrev pub by_interrupt : ℕ
by_interrupt = 2

-- the word that tells why level 1 was entered: the reason in bits 31 to 0. Bit 32, the notification of an interrupt that waits at level 0, and all others are zero
abbrev pub entry_word : ℕ → ℕ
entry_word reason = reason % 2 ^ 32

-- the reason that such a word tells, and whether that notification is asserted in it
abbrev pub reason_of : ℕ → ℕ
reason_of word = word % 2 ^ 32

abbrev pub vina_of : ℕ → Bool
vina_of word = word / 2 ^ 32 % 2 == 1
