-- Worked cases of the size of spans, computed.
-- No contract rests on it: it shows the definitions on worked cases.
use Rattle.std.specs.Prelude.{◌≡◌, ℕ, List, [], ◌∷◌, codes, map, Some, None, pos, negsuc, refl}
use Rattle.std.specs.Fmt.{digits}
use Rattle.hex.proofs.OnLiterals.{hex_on_literals}
use Rattle.serde_json.proofs.OnLiterals.{serde_json_on_literals}
use Rattle.otlp_types.specs.declared.value.AnyValue.{Int}
use Rattle.otlp_types.specs.declared.value.KeyValue.{KeyValue}
use Rattle.otlp_types.specs.declared.span.Span.{Span}
use Rattle.otlp_types.specs.declared.arrival.Arrival.{Arrival}
use Rattle.otlp_types.specs.Empty.{no_resource, no_scope, plain_span}
use Rattle.serde_json.specs.Data.{string, object, no_members, member}
use Rattle.otlp_json.specs.Writing.{pair_fields}
use Rattle.otlp_json.proofs.ValuesBack.{fields-pair, fields-Int}
use Rattle.span_size.specs.Size.{span_text, size_of}

-- a span of which nothing is told
abbrev empty_span : Span
empty_span = plain_span None 0 0 0

-- an attribute that is -7
abbrev attribute : KeyValue
attribute = record { key = codes "k"; value = Int (negsuc 6) }

attribute_fields : pair_fields attribute ≡ member (codes "key") (string (codes "k")) (member (codes "value") (object (member (codes "intValue") (string (codes "-7")) no_members)) no_members)
unfolding digits
attribute_fields = rw (fields-pair, fields-Int) refl

-- a server's span with that attribute, the status error, and each kind of escape in its name
abbrev told_span : Span
told_span = record (plain_span (Some (record { trace = trace_a; span = span_0; parent = None })) 2 0 12) {
  name = 97 ∷ 34 ∷ 10 ∷ 1 ∷ [];
  kind = pos 3;
  attributes = attribute ∷ [];
}
  where
    trace_a : List ℕ
    trace_a = 0x5b ∷ 0x8e ∷ 0xff ∷ 0xf7 ∷ 0x98 ∷ 0x03 ∷ 0x81 ∷ 0x03 ∷ 0xd2 ∷ 0x69 ∷ 0xb6 ∷ 0x33 ∷ 0x81 ∷ 0x3f ∷ 0xc6 ∷ 0x0c ∷ []

    span_0 : List ℕ
    span_0 = 0xee ∷ 0xe1 ∷ 0x9b ∷ 0x7e ∷ 0xc3 ∷ 0xc1 ∷ 0xb1 ∷ 0x74 ∷ []

abbrev arrival_of : Span → Arrival
arrival_of s = record {
  key = record { conn = record { lane = 0; ordinal = 0 }; number = 0 };
  moment = 0;
  rec = record { resource = no_resource; resource_schema_url = []; scope = no_scope; scope_schema_url = []; span = s };
}

empty_text : span_text empty_span ≡ codes "{}"
unfolding serde_json_on_literals
empty_text = refl

told_text : span_text told_span
    ≡ codes "{\"attributes\":[{\"key\":\"k\",\"value\":{\"intValue\":\"-7\"}}],\"endTimeUnixNano\":\"12\",\"kind\":3,\"name\":\"a\\\"\\n\\u0001\",\"spanId\":\"eee19b7ec3c1b174\",\"status\":{\"code\":2},\"traceId\":\"5b8efff798038103d269b633813fc60c\"}"
unfolding serde_json_on_literals hex_on_literals digits
told_text = rw attribute_fields refl

-- no spans, each alone, and both: the sum of the texts' bytes
some_sizes : map size_of ([] ∷ (arrival_of empty_span ∷ []) ∷ (arrival_of told_span ∷ []) ∷ (arrival_of empty_span ∷ arrival_of told_span ∷ []) ∷ []) ≡ 0 ∷ 2 ∷ 200 ∷ 202 ∷ []
unfolding size_of serde_json_on_literals hex_on_literals digits
some_sizes = rw attribute_fields refl
