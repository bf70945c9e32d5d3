use Rattle.std.proofs.Common.{refl, ap, ◌∙◌}
use Rattle.json.specs.Token.{string}
use Rattle.span_size.specs.Counting.{capped}
use Rattle.span_size.proofs.Escapes.{escaped, string-size}
use Rattle.span_size.proofs.counter.ByteCounter.string.Goals as goal

pub returns : goal.returns
returns c =
    let text = c.escaped_len.ensures ∙ ap (λ s. capped (escaped s)) c.as_bytes.ensures.value in
    c.token.ensures (string c.args.text.now) (record { size = string-size c.args.text.now _ _ text c.saturating_add.ensures; begin = refl; end = refl })
