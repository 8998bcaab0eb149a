-- A processor before its first turn.
use Rattle.std.proofs.Common.{◌≡◌, ◌<◌, ◌≤◌, ℕ, zero, suc, false, None, arith, refl, lit<}
use Rattle.vsm_base.specs.Names.{all_names}
use Rattle.vsm_base.specs.declared.places.Vtl.TheVariants.{Zero}
use Rattle.vsm_core.specs.Processor.{ran_out, spin_limit}
use Rattle.vsm_core.specs.Registers.{opening, opening_private, private_names, private_place, opening_value}
use Rattle.vsm_core.specs.State.{rip_of}
use Rattle.vtl_state.specs.States.{state_of}

-- a program begins at its first operation
pub rip-opening : rip_of (state_of opening (record { active = Zero; enabled = false })) ≡ 0
unfolding opening_private private_names private_place opening_value all_names
rip-opening = refl

pub ran_out-none : (length_of_program budget : ℕ) → 1 ≤ budget → ran_out length_of_program budget 0 0 ≡ None
    → 0 < length_of_program
ran_out-none zero budget some e = cc
ran_out-none (suc n) budget some e = omega arith

-- a spin may find another value
pub spins-open : 0 < spin_limit
unfolding spin_limit
spins-open = lit< tt
