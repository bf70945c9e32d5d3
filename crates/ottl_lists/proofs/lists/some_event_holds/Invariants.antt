use Rattle.std.proofs.Common.{◌≡◌, drop}
use Rattle.ottl_lists.specs.Lists.{some_event_holds}
use Rattle.ottl_lists.proofs.lists.some_event_holds.Given as goal

abbrev pub invariant-loop-event : goal.invariant-loop-event
invariant-loop-event l =
    (l.conditions ≡ l.fn.conditions)
    × (some_event_holds l.mode l.texts l.sent (drop l.event-index l.event-items) ≡ some_event_holds l.mode l.texts l.sent l.event-items)
