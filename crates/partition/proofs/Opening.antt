-- A partition before its first request is sound.
use Rattle.std.proofs.Common.{◌≡◌, ℕ, ◌+◌, ◌*◌, ◌-◌, ◌<◌, ◌≤◌, ◌^◌, None, List, length, map, refl, sym, ◌∙◌, arith}
use Rattle.std.proofs.Math.Nat.{mul-le-mul_left, mul-le-mul_right}
use Rattle.std.proofs.lemmas.List.FromFn.{length-map-range_with_len}
use Rattle.std.specs.List.{range_with_len}
use Rattle.vsm_base.specs.declared.places.Limits.{Limits}
use Rattle.vsm_core.specs.Partition.{opening_partition, opening_standing}
use Rattle.protection_map.specs.JournalView.{empty_journal}
use Rattle.partition.specs.PartView.{not_ended}
use Rattle.partition.specs.Sound.{IsSound}

room-small : (vps budget pages : ℕ) → vps ≤ 8 → budget ≤ 10000 → pages ≤ 256 → vps * budget * (vps + 11) + pages < 2 ^ 64 - 1
room-small vps budget pages a b c =
    let p : vps * budget ≤ 8 * budget = mul-le-mul_right budget a in
    let q : vps * budget * (vps + 11) ≤ 8 * budget * (vps + 11) = mul-le-mul_right (vps + 11) p in
    let r : 8 * budget * (vps + 11) ≤ 8 * budget * 19 = mul-le-mul_left (8 * budget) (omega arith) in
    omega (arith, q, r)

pub sound-opening : (limits : Limits) (started : ℕ) (masks : List ℕ) → limits.vps ≤ 8 → limits.pages ≤ 256 → limits.budget ≤ 10000 → length masks ≡ limits.pages
    → IsSound (opening_partition limits started) (empty_journal limits masks) None (map not_ended (range_with_len 0 limits.vps))
sound-opening limits started masks a b c e =
    let n = length-map-range_with_len (opening_standing started) 0 limits.vps in
    record {
      few = rw n a;
      pages = e;
      fits = (refl, refl);
      rounds = omega arith;
      room = omega arith;
      small = room-small limits.vps limits.budget limits.pages a c b;
      told = length-map-range_with_len not_ended 0 limits.vps ∙ sym n;
    }
