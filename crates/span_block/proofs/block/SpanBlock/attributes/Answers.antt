use Rattle.std.proofs.Common.{◌<◌, ◌^◌, ℕ, List, length, ◌∙◌, ap, subst}
use Rattle.protobuf_wire.specs.Wire.{fields_of}
use Rattle.span_block.proofs.PairsLeft.{start_pairs, start_view}
use Rattle.span_block.proofs.block.SpanBlock.attributes.Goals as goal

pub invariant_of-result : goal.invariant_of-result
invariant_of-result c =
    let P : List ℕ → Type 0 = λ b. length b < 2 ^ 64 in
    start_pairs c.args.self.now c.of.result c.message.ensures.fits c.message.ensures.holds (ap fields_of c.of.ensures ∙ c.message.ensures.fields) (subst P c.message.ensures.bytes c.message.ensures.room)

pub returns : goal.returns
returns c =
    let P : List ℕ → Type 0 = λ b. length b < 2 ^ 64 in
    start_view c.args.self.now c.of.result c.message.ensures.fits c.message.ensures.holds (ap fields_of c.of.ensures ∙ c.message.ensures.fields) (subst P c.message.ensures.bytes c.message.ensures.room)
