-- What a slice after which elements are left leaves of its processor's state.
use Rattle.std.proofs.Common.{◌≡◌, ◌∙◌, ◌<◌, ◌^◌, ◌&&◌, ℕ, Bool, true, false, cond, Option, Some, None, List, [], ◌∷◌}
use Rattle.std.proofs.Common.{length, map, take, slice_set, refl, subst, arith, lit<}
use Rattle.std.proofs.lemmas.Bool.Decides.{nat_tests}
use Rattle.std.proofs.lemmas.List.{get_or-set_same, length-set}
use Rattle.vsm_base.specs.declared.name.Name.{Name}
use Rattle.vsm_base.specs.declared.name.Name.TheVariants as names
use Rattle.vsm_base.specs.Names.{all_names, is_shared}
use Rattle.vsm_base.specs.declared.places.Vtl.{Vtl}
use Rattle.vsm_base.specs.declared.places.Vtl.TheVariants.{Zero, One}
use Rattle.vsm_base.specs.declared.status.HvStatus.{HvStatus}
use Rattle.vsm_core.specs.declared.register.CallRegister.{CallRegister}
use Rattle.vsm_core.specs.declared.register.CallRegister.TheVariants.{Kept}
use Rattle.vsm_core.specs.Fills.{Cached}
use Rattle.vsm_core.specs.Hypercalls.{input_value}
use Rattle.vsm_core.specs.Outcomes.{Origin}
use Rattle.vsm_core.specs.RegisterCalls.{Setting, all_set, count_of, is_own_rip, names_one, part_outcome, register_of}
use Rattle.vsm_core.specs.RegisterCalls.{set_named, set_one, set_refusal, set_refusals, setting_checks}
use Rattle.vsm_core.specs.Registers.{Registers, IsWhole, bits_of, has_bits, get, is_legal, private_of, private_place}
use Rattle.vsm_core.specs.Registers.{put, shared_names, shared_place, with_private}
use Rattle.vsm_core.specs.Reps.{acting, with_start}
use Rattle.vsm_core.specs.State.{State, put as put_in, word_of}
use Rattle.vsm_core.proofs.Checks.{none-fails}
use Rattle.vsm_core.proofs.KeptLevels.{Q-cond}
use Rattle.vsm_core.specs.Targets.{is_level}
use Rattle.vsm_laws.specs.Changes.{is_common, is_same}
use Rattle.vsm_laws.proofs.Changing.{put-keeps}

-- all registers have their places, and the program stands where it stood
pub record StandsStill (old new : State) : Type 0 where
  pub whole : IsWhole new.registers
  pub active : new.active ≡ old.active
  pub rip : get new.registers old.active names.Rip ≡ get old.registers old.active names.Rip

pub same-still : (s : State) → IsWhole s.registers → StandsStill s s
same-still s whole = record { whole = whole; active = refl; rip = refl }

-- a register is written
private-whole : (registers : Registers) (level : Vtl) (values : List ℕ) → IsWhole registers → length values ≡ 32
    → IsWhole (with_private registers level values)
private-whole registers Zero values whole long = record { shared = whole.shared; zero = long; one = whole.one }
private-whole registers One values whole long = record { shared = whole.shared; zero = whole.zero; one = long }

private-long : (registers : Registers) (level : Vtl) → IsWhole registers → length (private_of registers level) ≡ 32
private-long registers Zero whole = whole.zero
private-long registers One whole = whole.one

put-whole : (registers : Registers) (level : Vtl) (name : Name) (value : ℕ) → IsWhole registers
    → IsWhole (put registers level name value)
put-whole registers level name value whole =
    let long : length (slice_set registers.shared (shared_place name) value) ≡ 24 =
    length-set registers.shared (shared_place name) value ∙ whole.shared in
    let own : List ℕ = private_of registers level in
    Q-cond IsWhole (is_shared name) (record registers
    { shared = slice_set registers.shared (shared_place name) value })
    (with_private registers level (slice_set own (private_place name) value))
    (record { shared = long; zero = whole.zero; one = whole.one })
    (private-whole registers level (slice_set own (private_place name) value) whole
    (length-set own (private_place name) value ∙ private-long registers level whole))

-- one state after the other
still-then : (a b c : State) → StandsStill a b → StandsStill b c → StandsStill a c
still-then a b c h g = record {
  whole = g.whole;
  active = g.active ∙ h.active;
  rip = subst (λ level. get c.registers level names.Rip ≡ get b.registers level names.Rip) h.active g.rip ∙ h.rip;
}

-- a register that isn't the caller's own Rip
own-apart : (caller target : Vtl) (name : Name) → is_own_rip caller target (Kept name) ≡ false
    → (is_common target caller names.Rip && is_same name names.Rip) ≡ false
own-apart Zero One name e = refl
own-apart One Zero name e = refl
own-apart Zero Zero names.Rip e = cc
own-apart Zero Zero _ e = refl
own-apart One One names.Rip e = cc
own-apart One One _ e = refl

named-still : (target : Vtl) (s : State) (register : Option CallRegister) (value : ℕ) → IsWhole s.registers
    → names_one (is_own_rip s.active target) register ≡ false
    → StandsStill s (set_named s target register value)
named-still target s (Some (Kept name)) value whole other = record {
  whole = put-whole s.registers target name value whole;
  active = refl;
  rip = put-keeps s.registers target s.active name names.Rip value (own-apart s.active target name other);
}
named-still target s _ value whole other = same-still s whole

-- none of these elements names it
abbrev Spares : Vtl → Vtl → List Setting → Type 0
Spares caller target [] = Unit {0}
Spares caller target (x ∷ elements) = (names_one (is_own_rip caller target) (register_of x.number) ≡ false)
    × Spares caller target elements

all-still : (caller target : Vtl) (s : State) (elements : List Setting) → s.active ≡ caller → IsWhole s.registers
    → Spares caller target elements → StandsStill s (all_set target s elements)
all-still caller target s [] own whole spares = same-still s whole
all-still caller target s (x ∷ elements) own whole spares =
    let one : StandsStill s (set_one target s x) = named-still target s (register_of x.number) x.value whole
    (rw own spares.0) in
    still-then s (set_one target s x) (all_set target (set_one target s x) elements) one
    (all-still caller target (set_one target s x) elements (one.active ∙ own) one.whole spares.1)

unrefused-spares : (caller target : Vtl) (count : ℕ) (x : Setting) → set_refusal caller target count x ≡ None
    → names_one (is_own_rip caller target) (register_of x.number) ≡ false
unrefused-spares caller target count x none = (none-fails (setting_checks caller target count x) none).1.1.1.1.1.1.1.0

spares-by : (caller target : Vtl) (count : ℕ) (x : Setting) (elements : List Setting) (refusal : Option HvStatus)
    → set_refusal caller target count x ≡ refusal
    → Spares caller target (take (acting (map (set_refusal caller target count) elements)) elements)
    → Spares caller target (take (acting (refusal ∷ map (set_refusal caller target count) elements))
    (x ∷ elements))
spares-by caller target count x elements None e more = (unrefused-spares caller target count x e, more)
spares-by caller target count x elements (Some status) e more = tt

taken-spares : (caller target : Vtl) (count : ℕ) (elements : List Setting)
    → Spares caller target (take (acting (map (set_refusal caller target count) elements)) elements)
taken-spares caller target count [] = tt
taken-spares caller target count (x ∷ elements) = spares-by caller target count x elements
    (set_refusal caller target count x) refl (taken-spares caller target count elements)

-- the elements of a slice are set, up to the first that is refused
pub set-still : (from : Origin) (target : Vtl) (elements : List Setting) → IsWhole from.state.registers
    → StandsStill from.state (all_set target from.state (take (acting (set_refusals from target elements)) elements))
set-still from target elements whole =
    all-still from.state.active target from.state
    (take (acting (set_refusals from target elements)) elements) refl whole
    (taken-spares from.state.active target (count_of from) elements)

-- RCX takes the input value of the next part
legal-rcx : (value : ℕ) → value < 2 ^ 64 → is_legal names.Rcx value ≡ true
unfolding bits_of has_bits
legal-rcx value small = grind (arith, nat_tests)

rcx-place : shared_place names.Rcx < 24
unfolding shared_place shared_names all_names
rcx-place = lit< tt

word-put : (state : State) (value : ℕ) → length state.registers.shared ≡ 24 → value < 2 ^ 64
    → word_of (put_in state names.Rcx value) names.Rcx ≡ value
word-put state value whole small =
    rw (get_or-set_same state.registers.shared (shared_place names.Rcx) value 0 (rw whole rcx-place))
    (grind (arith, small))

start-small : (value next : ℕ) → next < 4096 → with_start value next < 2 ^ 64
start-small value next small = grind (arith, small)

-- a slice goes on at this element
pub record GoesOnAt (from : Origin) (next : ℕ) (new : State) : Type 0 where
  pub still : StandsStill from.state new
  pub value : input_value new ≡ with_start (input_value from.state) next

none-and : (b : Bool) → (b && false) ≡ false
none-and true = refl
none-and false = refl

goes-by : (legal : Bool) (from : Origin) (state : State) (next : ℕ) → legal ≡ true → StandsStill from.state state
    → next < 4096 → GoesOnAt from next (cond legal
    (put_in state names.Rcx (with_start (input_value from.state) next)) state)
goes-by true from state next legal still small =
    let value = with_start (input_value from.state) next in
    let put : State = put_in state names.Rcx value in
    let one : StandsStill state put = record {
      whole = put-whole state.registers state.active names.Rcx value still.whole;
      active = refl;
      rip = put-keeps state.registers state.active state.active names.Rcx names.Rip value
          (none-and (is_level state.active state.active));
    } in
    record {
      still = still-then from.state state put still one;
      value = word-put state value still.whole.shared
          (start-small (input_value from.state) next small);
    }
goes-by false from state next legal still small = cc

pub part-goes : (from : Origin) (state : State) (does : List Cached) (next : ℕ) → StandsStill from.state state
    → next < 4096 → GoesOnAt from next (part_outcome from state does next).state
part-goes from state does next still small =
    let value = with_start (input_value from.state) next in
    goes-by (is_legal names.Rcx value) from state next
    (legal-rcx value (start-small (input_value from.state) next small)) still small
