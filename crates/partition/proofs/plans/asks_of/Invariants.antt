use Rattle.std.proofs.Common.{◌≡◌, ◌+◌, length, take, drop}
use Rattle.vsm_core.specs.Protection.{asks_for, page_refusals}
use Rattle.vsm_core.specs.Reps.{acting, refusing}
use Rattle.flush_round.specs.Steps.{AreWithin}
use Rattle.partition.proofs.plans.asks_of.Given as goal

abbrev pub invariant-loop-page : goal.invariant-loop-page
invariant-loop-page l = record {
  asks : l.asks.items ≡ asks_for l.mask (take l.page-index l.pages);
  count : length l.asks.items ≡ l.page-index;
  within : AreWithin l.count l.asks.items;
  acted : l.page-index + acting (page_refusals l.count (drop l.page-index l.pages)) ≡ acting (page_refusals l.count l.pages);
  refusal : refusing (page_refusals l.count (drop l.page-index l.pages)) ≡ refusing (page_refusals l.count l.pages);
}
