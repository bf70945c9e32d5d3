use Rattle.std.proofs.Common.{◌≡◌, map, take, drop}
use Rattle.otlp_flatten.proofs.grouping.scope_group.Given as goal

abbrev pub invariant-loop-item : goal.invariant-loop-item
invariant-loop-item g l = (l.spans ≡ map (λ x. (g.T.HasRecord.record_in x).span) (take l.item-index l.fn.items))
    × (drop l.item-index l.items ≡ drop l.item-index l.fn.items)
