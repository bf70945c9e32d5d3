use Rattle.std.proofs.Common.{◌≡◌, pos, sym, ◌∙◌, rules}
use Rattle.otlp_protobuf_encode.proofs.Empty.{no_length, no-status}
use Rattle.span_block.proofs.Spans.{no_status_holds}
use Rattle.span_block.proofs.span.pack_status.Goals as goal

pub returns-then-is_empty-clause-bytes : goal.returns-then-is_empty-clause-bytes
returns-then-is_empty-clause-bytes c =
    let zero : c.args.status.now.code ≡ pos 0 = search (rules, c.if-status-eq0.true) in
    no-status c.args.out.now.items c.args.status.now zero (sym c.as_str.ensures ∙ no_length c.is_empty.result c.as_str.result.now c.is_empty.ensures c.if-is_empty.true)

pub returns-then-is_empty-clause-holds : goal.returns-then-is_empty-clause-holds
returns-then-is_empty-clause-holds c =
    let zero : c.args.status.now.code ≡ pos 0 = search (rules, c.if-status-eq0.true) in
    no_status_holds c.args.status.now zero (sym c.as_str.ensures ∙ no_length c.is_empty.result c.as_str.result.now c.is_empty.ensures c.if-is_empty.true)
