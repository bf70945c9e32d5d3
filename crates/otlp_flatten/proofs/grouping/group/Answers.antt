use Rattle.std.proofs.Common.{List, map, subst}
use Rattle.otlp_flatten.specs.Flat.{resource_records}
use Rattle.otlp_flatten.specs.Grouped.{IsResourceGroup, resource_key}
use Rattle.otlp_flatten.proofs.Groups.{Continues, Continues-end}
use Rattle.otlp_flatten.proofs.Steps.{resource_step, nothing_left}
use Rattle.otlp_flatten.proofs.grouping.group.Goals as goal

pub loop-rest-preserved : goal.loop-rest-preserved
loop-rest-preserved g c =
    let more = resource_step g.T.HasRecord.record_in c.loop-rest.rest.now c.split_at_mut-front.result.0.now c.split_at_mut-front.result.1.now c.run-count.result (map g.T.HasRecord.record_in c.args.spans.now)
    c.split_at_mut-front.ensures.front c.split_at_mut-front.ensures.back c.loop-rest.groups c.in_ok-resource_group.field-0 c.run-count.ensures
    c.in_ok-resource_group.ensures.grouped c.in_ok-resource_group.ensures.flat c.in_ok-resource_group.ensures.key c.loop-rest.invariant in
    rw c.in_ok-push.ensures.ok more

pub returns-clause-flat : goal.returns-clause-flat
returns-clause-flat g c =
    let rec = g.T.HasRecord.record_in in
    (Continues-end resource_key resource_records IsResourceGroup c.loop-rest.groups (map rec c.args.spans.now)
    (subst (λ (xs : List g.row.T.Denot). Continues resource_key resource_records IsResourceGroup c.loop-rest.groups (map rec xs) (map rec c.args.spans.now))
    (nothing_left c.loop-rest.rest.now c.loop-rest-test.ensures) c.loop-rest.invariant)).1

pub returns-clause-grouped : goal.returns-clause-grouped
returns-clause-grouped g c =
    let rec = g.T.HasRecord.record_in in
    let are = (Continues-end resource_key resource_records IsResourceGroup c.loop-rest.groups (map rec c.args.spans.now)
    (subst (λ (xs : List g.row.T.Denot). Continues resource_key resource_records IsResourceGroup c.loop-rest.groups (map rec xs) (map rec c.args.spans.now))
    (nothing_left c.loop-rest.rest.now c.loop-rest-test.ensures) c.loop-rest.invariant)).0 in
    record { groups = are.whole; resources_differ = are.differ }
