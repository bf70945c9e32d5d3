use Rattle.std.proofs.Common.{refl, ap, ◌∙◌}
use Rattle.json.specs.Token.{key}
use Rattle.span_size.specs.Counting.{capped}
use Rattle.span_size.proofs.Escapes.{escaped, key-size}
use Rattle.block_json.proofs.byte_sink.ByteSinkTokenSink.key.Goals as goal

pub returns : goal.returns
returns c =
    let text = c.escaped_len.ensures ∙ ap (λ s. capped (escaped s)) c.as_bytes.ensures.value in
    c.token.ensures (key c.args.name.now) (record { size = key-size c.args.name.now _ _ text c.saturating_add.ensures; begin = refl; end = refl })
