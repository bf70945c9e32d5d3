use Rattle.std.proofs.Common.{◌≡◌, ◌++◌, drop, string_bytes}
use Rattle.ottl_print.proofs.texts.put_ascii.Given as goal

abbrev pub invariant-loop-byte : goal.invariant-loop-byte
invariant-loop-byte l = string_bytes l.text ++ drop l.byte-index l.letters ≡ string_bytes l.initial.text ++ l.letters
