use Rattle.std.proofs.Common.{◌≡◌, Some, map, length, option_map}
use Rattle.std.specs.List.{AllByRecursion, slice_get}
use Rattle.otlp_flatten.specs.Flat.{scope_records}
use Rattle.otlp_flatten.specs.Grouped.{HasSpan, scope_key, resource_key}
use Rattle.otlp_flatten.specs.Runs.{resource_of}
use Rattle.otlp_flatten.proofs.Groups.{Continues}
use Rattle.otlp_flatten.proofs.grouping.resource_group.Given as goal

abbrev pub invariant-loop-rest : goal.invariant-loop-rest
invariant-loop-rest g l = AllByRecursion (λ x. resource_of (g.T.HasRecord.record_in x) ≡ resource_key l.group) l.rest
    × Continues scope_key (scope_records l.group.resource l.group.schema_url) HasSpan l.group.scope_spans (map g.T.HasRecord.record_in l.rest) (map g.T.HasRecord.record_in l.fn.spans)
    × (Some (resource_key l.group) ≡ option_map (λ x. resource_of (g.T.HasRecord.record_in x)) (slice_get l.fn.spans 0))

abbrev pub decreases-loop-rest : goal.decreases-loop-rest
decreases-loop-rest g l = length l.rest
