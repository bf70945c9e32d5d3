use Rattle.std.proofs.Common.{◌≡◌, drop, false, []}
use Rattle.ottl_text.specs.Literals.{unescape}
use Rattle.ottl_text.proofs.literals.unescaped.Given as goal

abbrev pub invariant-loop-byte : goal.invariant-loop-byte
invariant-loop-byte l = unescape (l.escaped, l.bytes.items) (drop l.byte-index l.written) ≡ unescape (false, []) l.written
