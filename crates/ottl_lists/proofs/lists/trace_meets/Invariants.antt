use Rattle.std.proofs.Common.{◌≡◌, drop}
use Rattle.ottl_lists.specs.Lists.{trace_meets}
use Rattle.ottl_lists.proofs.lists.trace_meets.Given as goal

abbrev pub invariant-loop-arrival : goal.invariant-loop-arrival
invariant-loop-arrival l =
    (l.conditions ≡ l.fn.conditions)
    × (trace_meets l.mode l.on_span l.on_event (drop l.arrival-index l.spans) ≡ trace_meets l.mode l.on_span l.on_event l.spans)
