use Rattle.std.proofs.Common.{◌≡◌, refl, arith}
use Rattle.json.specs.Token.{string}
use Rattle.span_ids.specs.Id.{id_text}
use Rattle.span_size.specs.Counting.{capped}
use Rattle.span_size.proofs.Counts.{then}
use Rattle.span_size.proofs.Escapes.{escaped, string-size, escaped-hex}
use Rattle.span_size.proofs.counter.ByteCounter.id_member.Goals as goal

pub returns : goal.returns
returns c =
    let plain = escaped-hex c.args.bytes.now (λ i. (c.type_inv.bytes i).fits) in
    let text : c.saturating_mul-digits.result ≡ capped (escaped (id_text c.args.bytes.now)) = omega (arith, plain) in
    then c.key.ensures (c.token.ensures (string (id_text c.args.bytes.now)) (record { size = string-size (id_text c.args.bytes.now) _ _ text c.saturating_add.ensures; begin = refl; end = refl }))
