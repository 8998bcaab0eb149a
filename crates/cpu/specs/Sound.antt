-- What contracts see of a processor, and what is always so.
use Rattle.std.specs.Prelude.{◌≡◌, ℕ, ◌+◌, ◌<◌, ◌≤◌, true, false, None, length}
use Rattle.vsm_base.specs.declared.places.Vtl.{Vtl}
use Rattle.vsm_base.specs.declared.places.Vtl.TheVariants.{Zero, One}
use Rattle.vsm_core.specs.Processor.{Vp, rest_of}
use Rattle.vsm_core.specs.State.{rip_of}
use Rattle.attempt.specs.Views.{VpView}
use Rattle.cpu.specs.declared.processor.Cpu.TheInside.{Inside}
use Rattle.cpu.specs.declared.lengths.Lengths.{Lengths}
use Rattle.cpu.specs.declared.log.Log.{Log}
use Rattle.cpu.specs.Logs.{HasRoom, standing_of}
use Rattle.cpu.specs.Turns.{IsWaiting}
use Rattle.cpu.specs.UnderWay.{Means, IsWanting, op_of}

abbrev pub view_of : Inside → Vp
view_of c = record {
  number = c.state.number;
  limits = c.state.limits;
  zero_length = c.lengths.zero;
  one_length = c.lengths.one;
  started = c.started;
  state = c.state.state;
  controllers = c.state.controllers;
  op = op_of c.acting c.under;
  marks = c.log.marks.0;
  seen = c.log.seen.0;
  part = c.log.part;
  first = c.log.first;
  again = c.log.again;
  spins = c.log.spins;
  owes = c.owes;
  heard = c.heard;
  ended = c.log.ended;
}

-- the length of a level's program
abbrev pub length_at : Lengths → Vtl → ℕ
length_at lengths Zero = lengths.zero
length_at lengths One = lengths.one

-- a processor that waits for the reply to its request
pub record IsOwing (c : Inside) : Type 0 where
  pub going : c.log.ended ≡ None
  pub stood : c.log.again ≡ false
  pub unheard : c.heard ≡ None
  pub acting : c.started ≡ true → c.acting ≡ true
  pub wants : c.started ≡ true → IsWanting (rest_of (view_of c) (view_of c).op)
  pub looked : c.started ≡ false → length c.log.seen.0 ≡ 1

-- what it was made with, and the room for marks that it has for that
pub record IsMade (v : VpView) (room : ℕ) : Type 0 where
  pub vp : v.number < v.limits.vps
  pub vps : v.limits.vps ≤ 8
  pub budget : room ≡ v.limits.budget

-- there is room for a note of each mark that the budget still allows
abbrev pub HasNotes : VpView → Log → Type 0
HasNotes v l = v.limits.budget ≤ v.room + length (standing_of l.again l.marks.0)

abbrev pub IsRunning : Lengths → VpView → Log → Type 0
IsRunning lengths v l = l.ended ≡ None → rip_of v.state < length_at lengths v.state.active

-- once it has started, what is under way is where the events so far, and the reply, have led
pub record IsSound (c : Inside) : Type 0 where
  pub made : IsMade c.state c.log.marks.1
  pub has : HasRoom c.log
  pub notes : HasNotes c.state c.log
  pub running : c.started ≡ true → IsRunning c.lengths c.state c.log
  pub owing : c.owes ≡ true → IsOwing c
  pub waits : c.started ≡ false → c.acting ≡ false
  pub waiting : c.started ≡ false → IsWaiting (view_of c)
  pub means : c.started ≡ true → Means c.acting c.state c.under c.heard c.log
