-- Rows of the definition, by computation.
use Rattle.std.specs.Prelude.{◌≡◌, [], ◌∷◌, refl}
use Rattle.protobuf_writer.specs.Writing.{written, message_bytes}
use Rattle.otlp_responses.specs.Writing.{number_and_text, partial_success}

-- two spans, "no"
a_partial_success : partial_success 2 (110 ∷ 111 ∷ []) ≡ 10 ∷ 6 ∷ 8 ∷ 2 ∷ 18 ∷ 2 ∷ 110 ∷ 111 ∷ []
unfolding written message_bytes
a_partial_success = refl

-- INVALID_ARGUMENT, "no"
a_status : number_and_text 3 (110 ∷ 111 ∷ []) ≡ 8 ∷ 3 ∷ 18 ∷ 2 ∷ 110 ∷ 111 ∷ []
unfolding written message_bytes
a_status = refl
