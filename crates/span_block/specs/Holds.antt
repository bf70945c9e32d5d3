-- What the writers learn of what they write, for private clauses: that it is read again, and that its texts and numbers are
-- such as their types hold.
use Rattle.std.specs.Prelude.{◌≡◌, ◌<◌, ◌^◌, [], unwrap_or, FitsSigned, to_bits}
use Rattle.std.specs.Int.{w32, w64}
use Rattle.std.specs.Float.{binary64}
use Rattle.std.specs.Float.Ieee.{of_bits}
use Rattle.std.specs.Str.{IsUtf8}
use Rattle.std.specs.List.{AllByRecursion}
use Rattle.base64.specs.Engines.{standard}
use Rattle.base64.specs.GeneralPurpose.{encode_of}
use Rattle.otlp_types.specs.declared.value.AnyValue.{AnyValue, out-AnyValue}
use Rattle.otlp_types.specs.declared.value.AnyValue.TheOpen.{AnyValue-F}
use Rattle.otlp_types.specs.declared.value.KeyValue.{KeyValue}
use Rattle.otlp_types.specs.declared.span.Status.{Status}
use Rattle.otlp_types.specs.declared.span.Span.{Span}
use Rattle.otlp_protobuf_encode.specs.Writing.{base64_of}
use Rattle.otlp_protobuf_encode.specs.ReadsBack.{ValueReadsBack, PairReadsBack, StatusReadsBack, EventReadsBack, LinkReadsBack, HeadHolds, TimesHold}

abbrev pub ScalarHolds : AnyValue-F AnyValue KeyValue → Type 0
ScalarHolds (AnyValue-F.Str s) = IsUtf8 s
ScalarHolds (AnyValue-F.Int z) = FitsSigned w64 z
ScalarHolds (AnyValue-F.Double x) = (to_bits binary64 x < 2 ^ 64) × (of_bits binary64 (to_bits binary64 x) ≡ x)
ScalarHolds (AnyValue-F.Bytes s) = encode_of standard (unwrap_or (base64_of s) []) ≡ s
ScalarHolds _ = Unit {0}

pub record ValueHolds (v : AnyValue) : Type 0 where
  pub back : ValueReadsBack v
  pub scalar : ScalarHolds (out-AnyValue v)

pub record PairHolds (p : KeyValue) : Type 0 where
  pub back : PairReadsBack p
  pub key : IsUtf8 p.key
  pub scalar : ScalarHolds (out-AnyValue p.value)

pub record StatusHolds (s : Status) : Type 0 where
  pub back : StatusReadsBack s
  pub message : IsUtf8 s.message
  pub code : FitsSigned w32 s.code

pub record PartsHold (s : Span) : Type 0 where
  pub attributes : AllByRecursion PairHolds s.attributes
  pub dropped_attributes : s.dropped_attributes_count < 2 ^ 32
  pub events : AllByRecursion EventReadsBack s.events
  pub dropped_events : s.dropped_events_count < 2 ^ 32
  pub links : AllByRecursion LinkReadsBack s.links
  pub dropped_links : s.dropped_links_count < 2 ^ 32
  pub status : StatusHolds s.status
  pub flags : s.flags < 2 ^ 32

pub record SpanHolds (s : Span) : Type 0 where
  pub head : HeadHolds s
  pub times : TimesHold s
  pub parts : PartsHold s
