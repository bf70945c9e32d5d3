-- A body is one request or none, and none for one cause.
-- For the laws of this crate, and for those of replies above it.
use Rattle.std.proofs.Common.{◌≡◌, ℕ, Bool, List, Some, None, Ok, Err, refl, ap, sym, ◌∙◌}
use Rattle.std.specs.Prelude.{Result}
use Rattle.serde_json.specs.Data.{Data}
use Rattle.otlp_protobuf.specs.declared.protobuf_fault.ProtobufFault.{ProtobufFault}
use Rattle.otlp_types.specs.declared.request.Request.{Request}
use Rattle.otlp_reading.specs.Decoding.{IsJson}
use Rattle.otlp_reading.specs.Reading.{request_of}
use Rattle.otlp_encoding.specs.declared.encoding.Encoding.{Encoding}
use Rattle.otlp_encoding.specs.declared.encoding.Encoding.TheVariants.{Json, Protobuf}
use Rattle.otlp_request.specs.declared.bad_data.BadData.{BadData}
use Rattle.otlp_request.specs.declared.bad_data.BadData.TheVariants as bad
use Rattle.otlp_request.specs.Reads.{Reads, IsRefusedFor}

value_same : (body : List ℕ) (d e : Data) → IsJson body d → IsJson body e → d ≡ e
value_same body d e h g = let both : Some d ≡ Some e = sym h.1 ∙ g.1 in cc

pub one_request : (encoding : Encoding) (keeps : Bool) (body : List ℕ) (r q : Request) → Reads encoding keeps body r → Reads encoding keeps body q → r ≡ q
one_request Json keeps body r q h g = let both : Some r ≡ Some q = sym h.2 ∙ (ap (request_of keeps) (value_same body h.0 g.0 h.1 g.1) ∙ g.2) in cc
one_request Protobuf keeps body r q h g = let both : ◌≡◌ {A = Result Request ProtobufFault} (Ok r) (Ok q) = sym h ∙ g in cc

pub not_both : (encoding : Encoding) (keeps : Bool) (body : List ℕ) (r : Request) (cause : BadData) → Reads encoding keeps body r → IsRefusedFor encoding keeps body cause → ⊥
not_both Json keeps body r bad.Json h g = g h.0 h.1
not_both Json keeps body r bad.Shape h g = let both : Some r ≡ None = sym h.2 ∙ (ap (request_of keeps) (value_same body h.0 g.0 h.1 g.1) ∙ g.2) in absurd (cc both)
not_both Json keeps body r (bad.Protobuf fault) h g = g
not_both Protobuf keeps body r bad.Json h g = g
not_both Protobuf keeps body r bad.Shape h g = g
not_both Protobuf keeps body r (bad.Protobuf fault) h g = let both : ◌≡◌ {A = Result Request ProtobufFault} (Ok r) (Err fault) = sym h ∙ g in absurd (cc both)

pub one_cause : (encoding : Encoding) (keeps : Bool) (body : List ℕ) (a b : BadData) → IsRefusedFor encoding keeps body a → IsRefusedFor encoding keeps body b → a ≡ b
one_cause Json keeps body bad.Json bad.Json h g = refl
one_cause Json keeps body bad.Json bad.Shape h g = absurd (h g.0 g.1)
one_cause Json keeps body bad.Json (bad.Protobuf fault) h g = absurd g
one_cause Json keeps body bad.Shape bad.Json h g = absurd (g h.0 h.1)
one_cause Json keeps body bad.Shape bad.Shape h g = refl
one_cause Json keeps body bad.Shape (bad.Protobuf fault) h g = absurd g
one_cause Json keeps body (bad.Protobuf fault) b h g = absurd h
one_cause Protobuf keeps body bad.Json b h g = absurd h
one_cause Protobuf keeps body bad.Shape b h g = absurd h
one_cause Protobuf keeps body (bad.Protobuf fault) bad.Json h g = absurd g
one_cause Protobuf keeps body (bad.Protobuf fault) bad.Shape h g = absurd g
one_cause Protobuf keeps body (bad.Protobuf fault) (bad.Protobuf other) h g = let both : ◌≡◌ {A = Result Request ProtobufFault} (Err fault) (Err other) = sym h ∙ g in let same : fault ≡ other = cc in ap bad.Protobuf same
