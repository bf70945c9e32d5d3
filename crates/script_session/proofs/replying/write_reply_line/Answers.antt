use Rattle.std.proofs.Common.{◌≡◌, length, ap, ◌∙◌, arith}
use Rattle.std.specs.Prelude.{decimal}
use Rattle.otlp_reply.specs.Bodies.{status_of}
use Rattle.script_session.proofs.Replies.{status-short, when_err, when_ok}
use Rattle.script_session.proofs.replying.write_reply_line.Goals as goal

pub unreachable-requires : goal.unreachable-requires
unreachable-requires c =
    let digits : length c.as_bytes-code.result.now ≡ length (decimal (status_of c.args.reply.now)) =
    ap length (c.as_bytes-code.ensures.value ∙ c.format.ensures.text) ∙ ap (λ n. length (decimal n)) c.status.ensures in
    let short = status-short c.args.reply.now in
    let full = when_err c.put_json_body.result _ c.if-is_err.ensures.value c.put_json_body.ensures.refused in
    let body = c.put_json_body.ensures.short in
    absurd (omega (arith, digits, short, full, body, c.clear.ensures.len, c.clear.ensures.capacity, c.put.ensures.len, c.put.ensures.capacity, c.put-2.ensures.len, c.put-2.ensures.capacity, c.put-3.ensures.len, c.put-3.ensures.capacity, c.requires))

pub put-requires-4 : goal.put-requires-4
put-requires-4 c =
    let digits : length c.as_bytes-code.result.now ≡ length (decimal (status_of c.args.reply.now)) =
    ap length (c.as_bytes-code.ensures.value ∙ c.format.ensures.text) ∙ ap (λ n. length (decimal n)) c.status.ensures in
    let short = status-short c.args.reply.now in
    let longer = when_ok c.put_json_body.result _ c.if-is_err.ensures.value c.put_json_body.ensures.len in
    let body = c.put_json_body.ensures.short in
    omega (arith, digits, short, longer, body, c.clear.ensures.len, c.clear.ensures.capacity, c.put.ensures.len, c.put.ensures.capacity, c.put-2.ensures.len, c.put-2.ensures.capacity, c.put-3.ensures.len, c.put-3.ensures.capacity, c.put_json_body.ensures.capacity, c.requires)
