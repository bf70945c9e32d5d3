use Rattle.std.proofs.Common.{◌≡◌, ◌≤◌, ◌++◌, length, IsUtf8}
use Rattle.std.specs.Str.Iter.{chars_rest}
use Rattle.ottl_made_texts.specs.MadeTexts.{most_bytes, letters_in}
use Rattle.ottl_made_texts.proofs.made_texts.put_in_case.Given as goal

abbrev pub invariant-loop-letter : goal.invariant-loop-letter
invariant-loop-letter l =
    IsUtf8 (chars_rest l.letter-iterator)
    × (l.room.bytes ++ letters_in l.case (chars_rest l.letter-iterator) ≡ letters_in l.case l.text)
    × (length l.room.bytes ≤ most_bytes)
