use Rattle.std.proofs.Common.{map, length}
use Rattle.otlp_flatten.specs.Flat.{resource_records}
use Rattle.otlp_flatten.specs.Grouped.{IsResourceGroup, resource_key}
use Rattle.otlp_flatten.proofs.Groups.{Continues}
use Rattle.otlp_flatten.proofs.grouping.group.Given as goal

abbrev pub invariant-loop-rest : goal.invariant-loop-rest
invariant-loop-rest g l = Continues resource_key resource_records IsResourceGroup l.groups (map g.T.HasRecord.record_in l.rest) (map g.T.HasRecord.record_in l.fn.spans)

abbrev pub decreases-loop-rest : goal.decreases-loop-rest
decreases-loop-rest g l = length l.rest
