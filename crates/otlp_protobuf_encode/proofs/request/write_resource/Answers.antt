use Rattle.std.proofs.Common.{sym, ◌∙◌}
use Rattle.otlp_protobuf_encode.proofs.Empty.{no_length, no-resource, no-resource-back}
use Rattle.otlp_protobuf_encode.proofs.request.write_resource.Goals as goal

pub returns-then-resource-eq0-clause-bytes : goal.returns-then-resource-eq0-clause-bytes
returns-then-resource-eq0-clause-bytes c =
    no-resource c.args.out.now.items c.args.resource.now (sym c.as_slice.ensures ∙ no_length c.is_empty.result c.as_slice.result.now c.is_empty.ensures c.if-is_empty.true) c.if-resource-eq0.true

pub returns-then-resource-eq0-clause-back : goal.returns-then-resource-eq0-clause-back
returns-then-resource-eq0-clause-back c =
    no-resource-back c.args.resource.now (sym c.as_slice.ensures ∙ no_length c.is_empty.result c.as_slice.result.now c.is_empty.ensures c.if-is_empty.true) c.if-resource-eq0.true
