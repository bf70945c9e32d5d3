use Rattle.std.proofs.Common.{◌≡◌, take}
use Rattle.span_size.specs.Counting.{capped}
use Rattle.span_size.proofs.Escapes.{escaped}
use Rattle.block_json.proofs.escaped.few_len.Given as goal

abbrev pub invariant-loop-byte : goal.invariant-loop-byte
invariant-loop-byte l = l.len ≡ capped (escaped (take l.byte-index l.text))
