-- What is written is read as that.
-- For the laws.
use Rattle.std.proofs.Common.{◌≡◌, ℕ, ◌<◌, ◌^◌, List, [], ◌∷◌, length, Ok, lit<}
use Rattle.protobuf_wire.specs.Wire.{varint, bytes, fields_of}
use Rattle.protobuf_writer.specs.Defaults.{field}
use Rattle.protobuf_writer.proofs.Reading.{fields_are_read}
use Rattle.otlp_responses.specs.Writing.{number_and_text, partial_success}

pub pair_is_read : (k : ℕ) (t : List ℕ) → k < 2 ^ 64 → length t < 2 ^ 64 → fields_of (number_and_text k t) ≡ Ok (field 1 (varint k) ∷ field 2 (bytes t) ∷ [])
pair_is_read k t h g = fields_are_read (field 1 (varint k) ∷ field 2 (bytes t) ∷ []) ((lit< tt, lit< tt, h), ((lit< tt, lit< tt, g), tt))

pub partial_is_read : (k : ℕ) (t : List ℕ) → length (number_and_text k t) < 2 ^ 64 → fields_of (partial_success k t) ≡ Ok (field 1 (bytes (number_and_text k t)) ∷ [])
partial_is_read k t h = fields_are_read (field 1 (bytes (number_and_text k t)) ∷ []) ((lit< tt, lit< tt, h), tt)
