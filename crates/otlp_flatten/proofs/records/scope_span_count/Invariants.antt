use Rattle.std.proofs.Common.{◌≡◌}
use Rattle.std.specs.Prelude.{◌-◌, ◌^◌, length, min, take}
use Rattle.std.specs.List.{sum_by}
use Rattle.otlp_flatten.proofs.records.scope_span_count.Given as goal

abbrev pub invariant-loop-group : goal.invariant-loop-group
invariant-loop-group l = l.count ≡ min (sum_by (λ group. length group.spans) (take l.group-index l.groups)) (2 ^ 64 - 1)
