-- The shared words in plain memory: what contracts see of them, what is always so, and how they begin.
use Rattle.std.specs.Prelude.{◌≡◌, ℕ, ◌+◌, ◌*◌, ◌<◌, ◌≤◌, IsTrue, Some, None, List, get_or, length, slice_index, ◌++◌, replicate}
use Rattle.vsm_base.specs.Masks.{is_mask}
use Rattle.vsm_base.specs.declared.places.Limits.{Limits}
use Rattle.vsm_core.specs.declared.event.Phase.{Phase}
use Rattle.vsm_core.specs.declared.event.Phase.TheVariants.{Idle}
use Rattle.vsm_core.specs.declared.event.Event.{Event}
use Rattle.vsm_core.specs.Seat.{Fabric, Seat}
use Rattle.vsm_core.specs.Stand.{Stand, fabric_with}
use Rattle.vsm_core.specs.Words.{generation_at, word_count}

-- a fabric of these limits
pub record Plain : Type 0 where
  pub limits : Limits
  pub fabric : Fabric

-- the fabric of these parts: the turns are the generation
abbrev pub plain_of : Limits → List ℕ → List Phase → ℕ → Plain
plain_of limits words phases cleared = record {
  limits = limits;
  fabric = record { words = words; phases = phases; turns = slice_index words (generation_at limits); cleared = cleared };
}

-- the mask words hold masks
abbrev pub HasMasks : ℕ → List ℕ → Type 0
HasMasks pages words = (k : ℕ) → k < pages → IsTrue (is_mask (slice_index words k))

-- the limits are in range, all words and phases are there, each mask is valid, the turns are the generation, and no
-- more processors are cleared than there are
pub record IsWhole (plain : Plain) : Type 0 where
  pub pages : plain.limits.pages ≤ 256
  pub vps : plain.limits.vps ≤ 8
  pub sized : length plain.fabric.words ≡ word_count plain.limits
  pub phased : length plain.fabric.phases ≡ plain.limits.vps
  pub masked : HasMasks plain.limits.pages plain.fabric.words
  pub turned : plain.fabric.turns ≡ slice_index plain.fabric.words (generation_at plain.limits)
  pub cleared : plain.fabric.cleared ≤ plain.limits.vps

-- all words before the first step: those that are neither masks nor memory are 0
abbrev pub opening_words : Limits → List ℕ → List ℕ → List ℕ
opening_words limits masks words = masks ++ (replicate (1 + 10 * limits.vps) 0 ++ words)

-- the fabric before the first step: no processor is in an access, and a turn may be made at once
abbrev pub opening_plain : Limits → List ℕ → List ℕ → Plain
opening_plain limits masks words = record {
  limits = limits;
  fabric = record { words = opening_words limits masks words; phases = replicate limits.vps Idle; turns = 0; cleared = limits.vps };
}

abbrev pub with_words : Plain → List ℕ → Plain
with_words plain words = record { limits = plain.limits; fabric = record plain.fabric { words = words } }

abbrev pub with_phases : Plain → List Phase → Plain
with_phases plain phases = record { limits = plain.limits; fabric = record plain.fabric { phases = phases } }

-- a way of this processor to the fabric, before its first step
abbrev pub first_seat : ℕ → ℕ → Plain → Seat
first_seat name vp plain = record {
  name = name;
  vp = vp;
  limits = plain.limits;
  phase = get_or plain.fabric.phases vp Idle;
  last = None;
  steps = 0;
  told = Some plain.fabric;
  known = None;
}

-- a way of the partition to the fabric, before its first step
abbrev pub first_stand : ℕ → Plain → Stand
first_stand name plain = record {
  name = name;
  limits = plain.limits;
  turns = plain.fabric.turns;
  cleared = plain.fabric.cleared;
  last = None;
  steps = 0;
  told = Some plain.fabric;
  known = None;
}

-- the fabric after one of the partition's steps
abbrev pub with_event : Plain → Event → Plain
with_event plain e = record { limits = plain.limits; fabric = fabric_with plain.limits plain.fabric e }
