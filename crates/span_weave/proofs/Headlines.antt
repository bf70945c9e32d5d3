-- The headline holds of the run that threads are woven into.
-- For the contract of `woven_headline`.
use Rattle.std.proofs.Common.{List, flat_map, subst}
use Rattle.std.specs.Prelude.{AllPairs}
use Rattle.otlp_types.specs.declared.arrival.Arrival.{Arrival}
use Rattle.world_theory.specs.Headline.{ComesFirst, HoldsOf}
use Rattle.world_theory.proofs.Parts
use Rattle.span_weave.specs.Woven.{Woven, WovenHeadline}
use Rattle.span_weave.proofs.Weaves.{weaves}

pub woven_headline : WovenHeadline
woven_headline c lanes shards t end room some meets = record {
  woven = woven;
  headline = holds;
  order = subst (λ (z : List (List Arrival)). AllPairs ComesFirst (flat_map (λ batch. batch) z)) woven.handed holds.order;
}
  where
    woven : Woven c lanes shards t end
    woven = weaves c lanes shards t end some meets

    holds : HoldsOf c woven.after
    holds = Parts.headline c lanes shards woven.steps woven.after room woven.runs
