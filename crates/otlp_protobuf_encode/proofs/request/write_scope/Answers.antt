use Rattle.std.proofs.Common.{sym, ◌∙◌}
use Rattle.otlp_protobuf_encode.proofs.Empty.{no_length, no-scope, no-scope-back}
use Rattle.otlp_protobuf_encode.proofs.request.write_scope.Goals as goal

pub returns-then-scope-eq0-clause-bytes : goal.returns-then-scope-eq0-clause-bytes
returns-then-scope-eq0-clause-bytes c =
    no-scope c.args.out.now.items c.args.scope.now
    (sym c.as_str.ensures ∙ no_length c.is_empty.result c.as_str.result.now c.is_empty.ensures c.if-is_empty.true)
    (sym c.as_str-then-is_empty.ensures ∙ no_length c.is_empty-then-is_empty.result c.as_str-then-is_empty.result.now c.is_empty-then-is_empty.ensures c.if-is_empty-2.true)
    (sym c.as_slice.ensures ∙ no_length c.is_empty-then-is_empty-2.result c.as_slice.result.now c.is_empty-then-is_empty-2.ensures c.if-is_empty-3.true)
    c.if-scope-eq0.true

pub returns-then-scope-eq0-clause-back : goal.returns-then-scope-eq0-clause-back
returns-then-scope-eq0-clause-back c =
    no-scope-back c.args.scope.now
    (sym c.as_str.ensures ∙ no_length c.is_empty.result c.as_str.result.now c.is_empty.ensures c.if-is_empty.true)
    (sym c.as_str-then-is_empty.ensures ∙ no_length c.is_empty-then-is_empty.result c.as_str-then-is_empty.result.now c.is_empty-then-is_empty.ensures c.if-is_empty-2.true)
    (sym c.as_slice.ensures ∙ no_length c.is_empty-then-is_empty-2.result c.as_slice.result.now c.is_empty-then-is_empty-2.ensures c.if-is_empty-3.true)
    c.if-scope-eq0.true
