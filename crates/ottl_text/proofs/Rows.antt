-- Worked rows of conditions by their texts, by computation.
-- No contract rests on it: it shows the definitions on worked cases.
use Rattle.std.specs.Prelude.{◌≡◌, [], ◌∷◌, map, codes, Ok, Err, refl, ⊤}
use Rattle.ottl_lengths.specs.Lengths.{digits_len, bytes_len, int_len, exponent_len, float_len, word_len, quote_at}
use Rattle.ottl_text.specs.Tokens.{end, bytes, float, int, text, word, operator, sign, marked, quoted, unnumbered, piece_at, next_piece}
use Rattle.ottl_text.specs.declared.expression.Binary.TheVariants as two
use Rattle.ottl_text.specs.declared.fault.FaultKind.TheVariants as faults

-- what a row unfolds to compute the pieces of a text that is written out
unfoldable pub pieces_on_literals : ⊤
unfolding digits_len bytes_len int_len exponent_len float_len word_len quote_at marked quoted unnumbered piece_at next_piece
pieces_on_literals = tt

-- a name with its dots; what is left
pub a_name : next_piece (codes "  status.code==2") ≡ Ok (word (codes "status.code"), codes "==2")
unfolding pieces_on_literals
a_name = refl

-- a sign belongs to the number, also behind another
pub numbers : map next_piece (codes "-12)" ∷ codes "+2" ∷ codes "1.5e3 " ∷ codes ".5" ∷ codes "7." ∷ codes "0xA0" ∷ []) ≡
    Ok (int (codes "-12"), codes ")") ∷ Ok (int (codes "+2"), []) ∷ Ok (float (codes "1.5e3"), codes " ") ∷ Ok (float (codes ".5"), []) ∷ Ok (int (codes "7"), codes ".") ∷ Ok (bytes (codes "A0"), []) ∷ []
unfolding pieces_on_literals
numbers = refl

-- a text ends at the first quote that no backslash stands before
pub texts : map next_piece (codes "\"a\\\"b\"c" ∷ codes "\"\"" ∷ codes "\"a" ∷ []) ≡
    Ok (text (codes "a\\\"b"), codes "c") ∷ Ok (text [], []) ∷ Err faults.OpenText ∷ []
unfolding pieces_on_literals
texts = refl

-- operators of two bytes before those of one
pub operators : map next_piece (codes ">=1" ∷ codes ">1" ∷ codes "!=" ∷ codes "! =" ∷ codes "(" ∷ codes "" ∷ []) ≡
    Ok (operator two.AtLeast, codes "1") ∷ Ok (operator two.Greater, codes "1") ∷ Ok (operator two.NotEqual, []) ∷ Err faults.UnknownCharacter ∷ Ok (sign 40, []) ∷ Ok (end, []) ∷ []
unfolding pieces_on_literals
operators = refl
