-- Answers to requests over OTLP/HTTP, in protobuf.
use Rattle.std.specs.Prelude.{◌≡◌, ℕ, ◌<◌, ◌^◌, List, [], ◌∷◌, length, Ok}
use Rattle.protobuf_wire.specs.Wire.{varint, bytes, fields_of}
use Rattle.protobuf_writer.specs.Writing.{message_bytes}
use Rattle.protobuf_writer.specs.Defaults.{field}

-- a number and a text: `ExportTracePartialSuccess` (`rejected_spans`, `error_message`), and `google.rpc.Status` (`code`, `message`)
abbrev pub number_and_text : ℕ → List ℕ → List ℕ
number_and_text k t = message_bytes (field 1 (varint k) ∷ field 2 (bytes t) ∷ [])

-- `ExportTraceServiceResponse` with a partial success; of a whole success it is empty
abbrev pub partial_success : ℕ → List ℕ → List ℕ
partial_success rejected message = message_bytes (field 1 (bytes (number_and_text rejected message)) ∷ [])

-- what is written is read as that
abbrev pub PairIsRead : Type 0
PairIsRead = (k : ℕ) (t : List ℕ) → k < 2 ^ 64 → length t < 2 ^ 64
    → fields_of (number_and_text k t) ≡ Ok (field 1 (varint k) ∷ field 2 (bytes t) ∷ [])

abbrev pub PartialSuccessIsRead : Type 0
PartialSuccessIsRead = (k : ℕ) (t : List ℕ) → length (number_and_text k t) < 2 ^ 64
    → fields_of (partial_success k t) ≡ Ok (field 1 (bytes (number_and_text k t)) ∷ [])
