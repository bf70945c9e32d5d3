-- What an error is told as.
use Rattle.std.specs.Prelude.{ℕ, List, codes}
use Rattle.span_block.specs.declared.pack_error.PackError.{PackError}
use Rattle.span_block.specs.declared.pack_error.PackError.TheVariants.{NoBlock, NoMemory}

abbrev pub error_text : PackError → List ℕ
error_text NoBlock = codes "the span has no block"
error_text NoMemory = codes "no memory"
