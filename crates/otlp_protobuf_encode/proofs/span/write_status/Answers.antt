use Rattle.std.proofs.Common.{◌≡◌, pos, sym, ◌∙◌, rules}
use Rattle.otlp_protobuf_encode.proofs.Empty.{no_length, no-status, no-status-back}
use Rattle.otlp_protobuf_encode.proofs.span.write_status.Goals as goal

pub returns-then-is_empty-clause-bytes : goal.returns-then-is_empty-clause-bytes
returns-then-is_empty-clause-bytes c =
    let zero : c.args.status.now.code ≡ pos 0 = search (rules, c.if-status-eq0.true) in
    no-status c.args.out.now.items c.args.status.now zero (sym c.as_str.ensures ∙ no_length c.is_empty.result c.as_str.result.now c.is_empty.ensures c.if-is_empty.true)

pub returns-then-is_empty-clause-back : goal.returns-then-is_empty-clause-back
returns-then-is_empty-clause-back c =
    let zero : c.args.status.now.code ≡ pos 0 = search (rules, c.if-status-eq0.true) in
    no-status-back c.args.status.now zero (sym c.as_str.ensures ∙ no_length c.is_empty.result c.as_str.result.now c.is_empty.ensures c.if-is_empty.true)
