-- Worked rows: where the first fault of a body is met. No clause needs them: they show what `Messages` and `FirstFault`
-- say, which code and contracts follow.
use Rattle.std.specs.Prelude.{◌≡◌, true, false, [], ◌∷◌, map, Some, None, refl}
use Rattle.std.specs.Str.{is_utf8, chars}
use lib.Utf8.{encode}
use Rattle.protobuf_wire.specs.declared.fault.WireFault.TheVariants as wire_faults
use Rattle.protobuf_wire.specs.Wire.{base128, number, value_of, field_of, next_field}
use Rattle.otlp_protobuf.specs.declared.protobuf_fault.ProtobufFault.TheVariants as faults
use Rattle.request_show.specs.FirstFault.{first_fault, fault_in}
use Rattle.request_show.specs.Messages.{inside, is_text}
use Rattle.request_show.specs.declared.messages.MessageKind.TheVariants.{Resource, Scope, Span, Event, Link, Status, KeyValue}

no_fields : fault_in [] ≡ None
unfolding first_fault
no_fields = refl

-- a group behind a resource of which nothing is told
group_behind : fault_in (10 ∷ 0 ∷ 12 ∷ []) ≡ Some (record { at = 2; fault = faults.Wire wire_faults.Group })
unfolding first_fault base128 number value_of field_of next_field
group_behind = refl

-- in a resource's spans a schema URL of five bytes, of which two are there; the body goes on
beyond_the_message : fault_in (10 ∷ 4 ∷ 26 ∷ 5 ∷ 97 ∷ 98 ∷ 10 ∷ 0 ∷ []) ≡ Some (record { at = 2; fault = faults.Wire wire_faults.Truncated })
unfolding first_fault base128 number value_of field_of next_field
beyond_the_message = refl

-- a length of three bytes, and then a tag of 0; and behind such a length a schema URL that is no text
no_tag : fault_in (10 ∷ 129 ∷ 128 ∷ 0 ∷ 0 ∷ 10 ∷ 3 ∷ 26 ∷ 1 ∷ 255 ∷ []) ≡ Some (record { at = 4; fault = faults.Wire wire_faults.FieldNumber })
unfolding first_fault base128 number value_of field_of next_field is_utf8 chars encode
no_tag = refl

no_text_behind : fault_in (10 ∷ 128 ∷ 128 ∷ 0 ∷ 10 ∷ 3 ∷ 26 ∷ 1 ∷ 255 ∷ []) ≡ Some (record { at = 6; fault = faults.Utf8 })
unfolding first_fault base128 number value_of field_of next_field is_utf8 chars encode
no_text_behind = refl

-- the fields of a span, of which some hold a message, and some a text
of_a_span : map (inside Span) (1 ∷ 5 ∷ 9 ∷ 11 ∷ 13 ∷ 15 ∷ []) ≡ None ∷ None ∷ Some KeyValue ∷ Some Event ∷ Some Link ∷ Some Status ∷ []
of_a_span = refl

texts_of_a_span : map (is_text Span) (1 ∷ 2 ∷ 3 ∷ 4 ∷ 5 ∷ 9 ∷ []) ≡ false ∷ false ∷ true ∷ false ∷ true ∷ false ∷ []
texts_of_a_span = refl

-- attributes stand in a resource at 1, in a scope at 3, in an event at 3, in a link at 4
of_attributes : inside Resource 1 ∷ inside Scope 3 ∷ inside Event 3 ∷ inside Link 4 ∷ [] ≡ Some KeyValue ∷ Some KeyValue ∷ Some KeyValue ∷ Some KeyValue ∷ []
of_attributes = refl
