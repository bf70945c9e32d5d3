-- Rows of the definitions, by computation: a message of four fields, none of which holds what another does.
use Rattle.std.specs.Prelude.{◌≡◌, List, [], ◌∷◌, Some, None, refl}
use Rattle.protobuf_wire.specs.Wire.{Field, varint, fixed64, bytes}
use Rattle.message_cursor.specs.Walk.{first_field, after, messages}
use Rattle.message_cursor.specs.Front.{field}

abbrev sample : List Field
sample = field 1 (varint 7) ∷ field 3 (bytes (8 ∷ [])) ∷ field 3 (bytes (9 ∷ [])) ∷ field 5 (fixed64 10) ∷ []

first_of_two : first_field 3 sample ≡ Some (bytes (8 ∷ []))
first_of_two = refl

none_between : first_field 2 sample ≡ None
none_between = refl

behind_the_first : after 3 sample ≡ field 3 (bytes (9 ∷ [])) ∷ field 5 (fixed64 10) ∷ []
behind_the_first = refl

from_the_greater : after 4 sample ≡ field 5 (fixed64 10) ∷ []
from_the_greater = refl

nothing_behind : after 6 sample ≡ []
nothing_behind = refl

both_messages : messages 3 sample ≡ (8 ∷ []) ∷ (9 ∷ []) ∷ []
both_messages = refl

no_message : messages 4 sample ≡ []
no_message = refl
