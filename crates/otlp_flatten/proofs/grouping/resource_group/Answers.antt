use Rattle.std.proofs.Common.{map}
use Rattle.otlp_flatten.proofs.Steps.{scope_step, scope_end, nothing_left}
use Rattle.otlp_flatten.proofs.grouping.resource_group.Goals as goal

pub loop-rest-preserved : goal.loop-rest-preserved
loop-rest-preserved g c =
    let l = c.loop-rest in
    let more = scope_step g.T.HasRecord.record_in l.rest.now c.split_at_mut-front.result.0.now c.split_at_mut-front.result.1.now c.run-count.result (map g.T.HasRecord.record_in c.args.spans.now)
    c.split_at_mut-front.ensures.front c.split_at_mut-front.ensures.back l.group.resource l.group.schema_url l.group.scope_spans c.in_ok-scope_group.field-0 c.run-count.ensures
    c.in_ok-scope_group.ensures.spans c.in_ok-scope_group.ensures.key l.invariant.0 l.invariant.1 in
    rw c.in_ok-push.ensures.ok (more.0, more.1, l.invariant.2)

pub returns-clause-grouped : goal.returns-clause-grouped
returns-clause-grouped g c =
    let l = c.loop-rest in
    (scope_end g.T.HasRecord.record_in l.group.resource l.group.schema_url l.group.scope_spans l.rest.now c.args.spans.now (nothing_left l.rest.now c.loop-rest-test.ensures) c.requires.some l.invariant.1).0

pub returns-clause-flat : goal.returns-clause-flat
returns-clause-flat g c =
    let l = c.loop-rest in
    (scope_end g.T.HasRecord.record_in l.group.resource l.group.schema_url l.group.scope_spans l.rest.now c.args.spans.now (nothing_left l.rest.now c.loop-rest-test.ensures) c.requires.some l.invariant.1).1
