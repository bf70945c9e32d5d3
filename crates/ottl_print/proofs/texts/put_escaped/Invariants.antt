use Rattle.std.proofs.Common.{◌≡◌, ◌++◌, IsUtf8, string_bytes}
use Rattle.std.specs.Str.Iter.{chars_rest}
use Rattle.ottl_print.specs.Texts.{escaped}
use Rattle.ottl_print.proofs.texts.put_escaped.Given as goal

abbrev pub invariant-loop-letter : goal.invariant-loop-letter
invariant-loop-letter l =
    IsUtf8 (chars_rest l.letter-iterator) × (string_bytes l.text ++ escaped (chars_rest l.letter-iterator) ≡ string_bytes l.initial.text ++ escaped l.said)
