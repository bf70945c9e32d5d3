use Rattle.std.proofs.Common.{refl, arith}
use Rattle.block_json.specs.Parts.{IsSpan}
use Rattle.block_json.proofs.block_size.Goals as goal

pub returns : goal.returns
returns c =
    let s = c.args.block.now in
    let is : IsSpan c.as_bytes.result.now s = record { read = c.as_bytes.ensures.fields; ids = c.as_bytes.ensures.fits.ids; holds = c.as_bytes.ensures.holds; typed = c.as_bytes.ensures.typed } in
    let counted = (c.span.ensures s is).bytes 0 refl in
    omega (arith, counted)
