-- What holds of the bytes of a block.
use Rattle.std.specs.Prelude.{◌≡◌, ℕ, List}
use Rattle.span_block.specs.Block.{block_of, held}
use Rattle.span_block.specs.Fits.{HasBlock}
use Rattle.span_block.specs.Holds.{SpanHolds}
use Rattle.span_block.specs.Typed.{PartsAreTyped}

-- they are the canonical bytes of a span that has a block, and that is read from them
pub record IsBlock (bytes : List ℕ) : Type 0 where
  pub fits : HasBlock (held bytes)
  pub holds : SpanHolds (held bytes)
  pub typed : PartsAreTyped (held bytes)
  pub written : bytes ≡ block_of (held bytes)
