-- Rows of the definition, by computation: the examples of the guide "Encoding".
use Rattle.std.specs.Prelude.{◌≡◌, [], ◌∷◌, refl}
use Rattle.protobuf_wire.specs.Wire.{fixed64, fixed32}
use Rattle.protobuf_writer.specs.Writing.{written, number_bytes, message_bytes}
use Rattle.protobuf_writer.specs.Defaults.{field, text_field, number_field, message_in, repeated}

two_bytes : number_bytes 150 ≡ 150 ∷ 1 ∷ []
unfolding written
two_bytes = refl

one_byte : number_bytes 127 ≡ 127 ∷ []
unfolding written
one_byte = refl

greatest : number_bytes 18446744073709551615 ≡ 255 ∷ 255 ∷ 255 ∷ 255 ∷ 255 ∷ 255 ∷ 255 ∷ 255 ∷ 255 ∷ 1 ∷ []
unfolding written
greatest = refl

-- `Test1 { a: 150 }`
one_number : message_bytes (number_field 1 150) ≡ 8 ∷ 150 ∷ 1 ∷ []
unfolding written message_bytes
one_number = refl

-- `Test2 { b: "testing" }`
a_text : message_bytes (text_field 2 (116 ∷ 101 ∷ 115 ∷ 116 ∷ 105 ∷ 110 ∷ 103 ∷ [])) ≡ 18 ∷ 7 ∷ 116 ∷ 101 ∷ 115 ∷ 116 ∷ 105 ∷ 110 ∷ 103 ∷ []
unfolding written message_bytes
a_text = refl

-- `Test3 { c { a: 150 } }`
a_message : message_bytes (message_in 3 (number_field 1 150) ∷ []) ≡ 26 ∷ 3 ∷ 8 ∷ 150 ∷ 1 ∷ []
unfolding written message_bytes
a_message = refl

-- -2 as an `int64`: ten bytes
minus_two : message_bytes (number_field 1 18446744073709551614) ≡ 8 ∷ 254 ∷ 255 ∷ 255 ∷ 255 ∷ 255 ∷ 255 ∷ 255 ∷ 255 ∷ 255 ∷ 1 ∷ []
unfolding written message_bytes
minus_two = refl

-- 1.0 as a `double`, and 258 as a `fixed32` in field 16
fixed : message_bytes (field 4 (fixed64 4607182418800017408) ∷ field 16 (fixed32 258) ∷ []) ≡ 33 ∷ 0 ∷ 0 ∷ 0 ∷ 0 ∷ 0 ∷ 0 ∷ 240 ∷ 63 ∷ 133 ∷ 1 ∷ 2 ∷ 1 ∷ 0 ∷ 0 ∷ []
unfolding written message_bytes
fixed = refl

-- defaults are left out; an empty message of a list is not
defaults : message_bytes (number_field 1 0) ≡ []
unfolding written message_bytes
defaults = refl

empty_messages : message_bytes (repeated 1 ([] ∷ [] ∷ [])) ≡ 10 ∷ 0 ∷ 10 ∷ 0 ∷ []
unfolding written message_bytes
empty_messages = refl
