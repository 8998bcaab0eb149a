-- What an attempt begins with, and what it comes to.
use Rattle.std.specs.Prelude.{ℕ, ◌==◌, ◌&&◌, Bool, if◌then◌else◌, List, [], ◌∷◌, Option, Some, None}
use Rattle.vsm_base.specs.declared.name.Name.{Name}
use Rattle.vsm_base.specs.declared.name.Name.TheVariants as names
use Rattle.vsm_base.specs.Names.{number_of}
use Rattle.vsm_base.specs.declared.places.Access.{Access}
use Rattle.vsm_base.specs.declared.places.Limits.{Limits}
use Rattle.vsm_base.specs.declared.places.Vtl.{Vtl}
use Rattle.vsm_core.specs.declared.mark.EomWord.TheVariants as eoms
use Rattle.vsm_core.specs.declared.mark.Grant.{Grant}
use Rattle.vsm_core.specs.declared.mark.GuestFault.{GuestFault}
use Rattle.vsm_core.specs.declared.mark.GuestFault.TheVariants.{Gp}
use Rattle.vsm_core.specs.declared.mark.Posted.{Posted}
use Rattle.vsm_core.specs.declared.mark.Posted.TheVariants.{Held}
use Rattle.vsm_core.specs.declared.mark.What.{What}
use Rattle.vsm_core.specs.declared.mark.What.TheVariants.{Granted, Again, Denied, Fault, Hit, Value, Plain, Eom}
use Rattle.vsm_core.specs.declared.note.Note.{Note}
use Rattle.vsm_core.specs.declared.note.Note.TheVariants.{Memory, Register}
use Rattle.vsm_core.specs.Controllers.{Controllers, vectors_at, with_vectors, noted, posted_by, eom_by, waiting_then}
use Rattle.vsm_core.specs.Fills.{Fill, Cached, Filled, Emptied}
use Rattle.vsm_core.specs.Registers.{is_legal}
use Rattle.vsm_core.specs.State.{State, get, put, put_legal, gone_to, gone_on, rip_of, word_of, may_name}
use Rattle.vsm_core.specs.Switch.{entered, is_zero}
use Rattle.vsm_core.specs.Vectors.{deliverable, acknowledged, ended}

-- what an attempt begins with: how many pages and processors there are, the number of its processor, the processor's state, and what its interrupt controllers hold
pub record Origin : Type 0 where
  pub pages : ℕ
  pub vps : ℕ
  pub number : ℕ
  pub state : State
  pub controllers : Controllers

-- the origin of an attempt of the processor of this number, under these limits
abbrev pub origin_in : Limits → ℕ → State → Controllers → Origin
origin_in limits number state controllers = record { pages = limits.pages; vps = limits.vps; number = number; state = state; controllers = controllers }

-- what an attempt came to, the state and the controllers after it, and what it did to the cached translations
pub record Outcome : Type 0 where
  pub what : What
  pub state : State
  pub controllers : Controllers
  pub does : List Cached

-- the controllers stay
abbrev pub outcome_at : Origin → What → State → List Cached → Outcome
outcome_at from what state does = record { what = what; state = state; controllers = from.controllers; does = does }

-- a guest fault changes nothing
abbrev pub faulted : Origin → GuestFault → Outcome
faulted from fault = outcome_at from (Fault fault) from.state []

-- the program goes on in this state
abbrev pub plain : Origin → State → Outcome
plain from state = outcome_at from Plain state []

abbrev pub fills : Vtl → Option Fill → List Cached
fills level None = []
fills level (Some fill) = Filled level fill ∷ []

-- a load keeps the word that it read
abbrev pub loaded : State → Name → Grant → What × State
loaded state name grant = (Granted grant, gone_on (put_legal state name grant.value))

abbrev pub passed : State → Grant → What × State
passed state grant = (Granted grant, gone_on state)

-- a spin that found another value stays where it is
abbrev pub spun : State → ℕ → Grant → What × State
spun state value grant = if grant.value == value then passed state grant else (Again grant, state)

-- a write of a control register that paging reads empties the level's translations
abbrev pub empties : Vtl → Name → List Cached
empties level names.Cr0 = Emptied level ∷ []
empties level names.Cr3 = Emptied level ∷ []
empties level names.Cr4 = Emptied level ∷ []
empties level _ = []

-- a register is written, if it may be named here and takes this value
abbrev pub set_outcome : Origin → Name → ℕ → Outcome
set_outcome from name value =
    if may_name from.state name && is_legal name value then outcome_at from Plain (gone_on (put from.state name value)) (empties from.state.active name) else faulted from Gp

-- a register is read, if it may be named here
abbrev pub get_outcome : Origin → Name → Outcome
get_outcome from name = if may_name from.state name then outcome_at from (Value (get from.state name)) (gone_on from.state) [] else faulted from Gp

abbrev pub jumped : State → Name → ℕ → ℕ → State
jumped state name value rip = if word_of state name == value then gone_on state else gone_to state rip

-- a denied access: its page, mask, generation and kind, and the address that was denied
pub record Refusal : Type 0 where
  pub page : ℕ
  pub mask : ℕ
  pub generation : ℕ
  pub access : Access
  pub gpa : ℕ

abbrev pub denied : Refusal → Posted → What
denied r posted = Denied (record { page = record { 0 = r.page }; mask = r.mask; generation = r.generation; access = r.access; posted = posted })

-- what level 1 is told of it, and of the address of the operation, where there is one
abbrev pub note_of : Origin → Option ℕ → Refusal → Note
note_of from gva r = Memory (record {
  vp = record { 0 = from.number };
  access = r.access;
  cs = get from.state names.Cs;
  rip = rip_of from.state;
  rflags = word_of from.state names.Rflags;
  gva = gva;
  gpa = r.gpa;
})

-- an access is denied on a processor without level 1: nothing changes
abbrev pub held_outcome : Origin → Refusal → List Cached → Outcome
held_outcome from r does = outcome_at from (denied r Held) from.state does

-- an access is denied, its note goes to the slot or waits, and level 1 is entered
abbrev pub denied_to : Origin → Refusal → Note → Posted → List Cached → Outcome
denied_to from r note posted does =
    record { what = denied r posted; state = entered from.state; controllers = noted from.controllers posted note; does = does }

-- the same where the message slot has this first word
abbrev pub denied_outcome : Origin → Refusal → Note → Option ℕ → List Cached → Outcome
denied_outcome from r note slot does = denied_to from r note (posted_by slot from.controllers.waiting) does

-- what level 1 is told of a register that it intercepts: whether it was to be written, and with which value
abbrev pub register_note : Origin → Bool → Name → ℕ → Note
register_note from write name value = Register (record {
  vp = record { 0 = from.number };
  write = write;
  cs = get from.state names.Cs;
  rip = rip_of from.state;
  rflags = word_of from.state names.Rflags;
  name = number_of name;
  value = value;
})

-- level 1 intercepts a register: nothing changes, the note goes to the slot or waits, and level 1 is entered
abbrev pub hit_to : Origin → Note → Posted → Outcome
hit_to from note posted = record { what = Hit posted; state = entered from.state; controllers = noted from.controllers posted note; does = [] }

-- the same where the message slot has this first word
abbrev pub hit_outcome : Origin → Note → Option ℕ → Outcome
hit_outcome from note slot = hit_to from note (posted_by slot from.controllers.waiting)

-- the active level's vector that is delivered next
abbrev pub next_vector : Origin → Option ℕ
next_vector from = deliverable (vectors_at from.controllers from.state.active) (word_of from.state names.Cr8)

abbrev pub vector_or_zero : Option ℕ → ℕ
vector_or_zero None = 0
vector_or_zero (Some vector) = vector

-- the vector that is delivered next goes into service and into a register; 0 goes there where there is none
abbrev pub ack_outcome : Origin → Name → Outcome
ack_outcome from name = record {
  what = Value (vector_or_zero (next_vector from));
  state = gone_on (put_legal from.state name (vector_or_zero (next_vector from)));
  controllers = with_vectors from.controllers from.state.active (acknowledged (vectors_at from.controllers from.state.active) (next_vector from));
  does = [];
}

-- the active level's highest vector in service is served
abbrev pub eoi_outcome : Origin → Outcome
eoi_outcome from = record {
  what = Plain;
  state = gone_on from.state;
  controllers = with_vectors from.controllers from.state.active (ended (vectors_at from.controllers from.state.active));
  does = [];
}

-- level 0's controller never holds a message
abbrev pub eom_outcome : Origin → Option ℕ → Outcome
eom_outcome from slot =
    if is_zero from.state.active then outcome_at from (Eom eoms.Nothing) (gone_on from.state) []
    else record {
      what = Eom (eom_by slot from.controllers.waiting);
      state = gone_on from.state;
      controllers = record from.controllers { waiting = waiting_then slot from.controllers.waiting };
      does = [];
    }
