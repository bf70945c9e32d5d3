use Rattle.std.proofs.Common.{◌≡◌, ◌++◌, drop}
use Rattle.std.specs.Prelude.{map}
use Rattle.std.specs.List.{concat}
use Rattle.metrics_text.specs.Deciders.{escaped, escaped_byte}
use Rattle.metrics_text.proofs.deciders.escaped.Given as goal

-- the bytes that are there, with those that are left, are the whole
abbrev pub invariant-loop-byte : goal.invariant-loop-byte
invariant-loop-byte l = l.bytes.items ++ concat (map escaped_byte (drop l.byte-index l.text)) ≡ escaped l.text
