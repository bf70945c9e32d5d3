-- What a walk over a span's message finds, for private clauses.
use Rattle.std.specs.Prelude.{◌≡◌, ℕ, List, [], Ok, option_map, option_and_then, unwrap_or}
use Rattle.protobuf_wire.specs.Wire.{fields_of}
use Rattle.protobuf_writer.specs.Writing.{message_bytes}
use Rattle.otlp_types.specs.declared.span.Ids.{Ids}
use Rattle.otlp_types.specs.declared.span.Span.{Span}
use Rattle.otlp_protobuf_encode.specs.Writing.{span_fields, pair_fields, event_fields, link_fields, status_fields}
use Rattle.otlp_protobuf_encode.specs.ReadsBack.{AreIds}
use Rattle.span_block.specs.Holds.{SpanHolds}
use Rattle.span_block.specs.Typed.{PairIsTyped, EventIsTyped, LinkIsTyped, PartsAreTyped}
use Rattle.block_json.specs.Messages.{AreIn}
use Rattle.otlp_protobuf.specs.Values.{most_levels}
use Rattle.block_json.specs.declared.parts.SpanParts.{SpanParts}

-- the bytes are the fields of this span
pub record IsSpan (message : List ℕ) (s : Span) : Type 0 where
  pub read : fields_of message ≡ Ok (span_fields s)
  pub ids : AreIds s.ids
  pub holds : SpanHolds s
  pub typed : PartsAreTyped s

-- what it holds was found
pub record HasParts (s : Span) (p : SpanParts) : Type 0 where
  pub ids : AreIds s.ids
  pub holds : SpanHolds s
  pub trace_id : p.trace_id.now ≡ unwrap_or (option_map (λ (ids : Ids). ids.trace) s.ids) []
  pub span_id : p.span_id.now ≡ unwrap_or (option_map (λ (ids : Ids). ids.span) s.ids) []
  pub trace_state : p.trace_state.now ≡ s.trace_state
  pub parent_id : p.parent_id.now ≡ unwrap_or (option_and_then (λ (ids : Ids). ids.parent) s.ids) []
  pub name : p.name.now ≡ s.name
  pub kind : p.kind ≡ s.kind
  pub start : p.start ≡ s.start_time_unix_nano
  pub end : p.end ≡ s.end_time_unix_nano
  pub attributes : AreIn pair_fields (PairIsTyped most_levels) 9 p.attributes.now s.attributes
  pub dropped_attributes : p.dropped_attributes ≡ s.dropped_attributes_count
  pub events : AreIn event_fields (EventIsTyped most_levels) 11 p.events.now s.events
  pub dropped_events : p.dropped_events ≡ s.dropped_events_count
  pub links : AreIn link_fields (LinkIsTyped most_levels) 13 p.links.now s.links
  pub dropped_links : p.dropped_links ≡ s.dropped_links_count
  pub status : p.status.now ≡ message_bytes (status_fields s.status)
  pub flags : p.flags ≡ s.flags
