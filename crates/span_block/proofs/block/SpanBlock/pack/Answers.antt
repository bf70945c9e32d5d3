use Rattle.std.proofs.Common.{◌∙◌, arith}
use Rattle.span_block.proofs.Blocks.{is_block, held_of, of_nothing}
use Rattle.span_block.proofs.block.SpanBlock.pack.Goals as goal

pub invariant_of-result : goal.invariant_of-result
invariant_of-result c =
    let v = c.shrink_to_fit.new.self in
    is_block c.args.span.now v.items c.in_ok-pack_span.ensures.fits c.in_ok-pack_span.ensures.holds c.in_ok-pack_span.ensures.typed (c.shrink_to_fit.ensures.items ∙ of_nothing c.in_ok-bytes.bytes.items c.pack_span.new.out.items c.args.span.now c.in_ok-bytes.ensures.items c.in_ok-pack_span.ensures.bytes) (omega (arith, v.ok.0, v.small))

pub returns-clause-span : goal.returns-clause-span
returns-clause-span c =
    let v = c.shrink_to_fit.new.self in
    held_of c.args.span.now v.items c.in_ok-pack_span.ensures.fits c.in_ok-pack_span.ensures.holds (c.shrink_to_fit.ensures.items ∙ of_nothing c.in_ok-bytes.bytes.items c.pack_span.new.out.items c.args.span.now c.in_ok-bytes.ensures.items c.in_ok-pack_span.ensures.bytes) (omega (arith, v.ok.0, v.small))
