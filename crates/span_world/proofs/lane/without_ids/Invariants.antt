use Rattle.std.proofs.Common.{◌≡◌, not, filter, take}
use Rattle.journal_theory.specs.Fate.{counts}
use Rattle.span_ids.specs.declared.outcome.Reason.TheVariants.{InvalidId}
use Rattle.world_theory.specs.Step.{has_ids}
use Rattle.span_world.proofs.lane.without_ids.Given as goal

abbrev pub invariant-loop-arrival : goal.invariant-loop-arrival
invariant-loop-arrival l = l.keys.items ≡ counts InvalidId (filter (λ a. not (has_ids a)) (take l.arrival-index l.new))
