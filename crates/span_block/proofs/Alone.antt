-- A request that holds one span is read as that.
-- For unpack.rt.
use Rattle.std.proofs.Common.{◌≡◌, ℕ, ◌+◌, ◌<◌, ◌^◌, true, List, [], ◌∷◌, ◌++◌, length, Ok, refl, sym, ◌∙◌, ap, subst, arith, length-append}
use Rattle.std.proofs.lemmas.List.Elements.{All-nil}
use Rattle.protobuf_wire.specs.Wire.{Field, bytes}
use Rattle.protobuf_writer.specs.Writing.{message_bytes, Adds}
use Rattle.protobuf_writer.specs.Defaults.{field, message_in}
use Rattle.otlp_types.specs.Empty.{no_resource, no_scope}
use Rattle.otlp_types.specs.declared.span.Span.{Span}
use Rattle.otlp_types.specs.declared.request.Request.{Request}
use Rattle.otlp_protobuf.specs.Values.{most_levels}
use Rattle.otlp_protobuf.specs.Nesting.{AttributeNests, SpanNests, ScopeSpansNest, ResourceSpansNest, RequestNests}
use Rattle.otlp_protobuf.specs.Reading.{request_of}
use Rattle.otlp_protobuf_encode.specs.Writing.{request_fields}
use Rattle.otlp_protobuf_encode.specs.ReadsBack.{SpanReads}
use Rattle.otlp_protobuf_encode.proofs.Empty.{no-resource-back, no-scope-back}
use Rattle.otlp_protobuf_encode.proofs.RequestsBack.{scope_spans-back, resource_spans-back, request-back}
use Rattle.span_block.specs.Block.{block_of}
use Rattle.span_block.specs.Alone.{alone_in_scope, alone_in_resource, alone}
use Rattle.span_block.specs.Fits.{HasBlock}
use Rattle.span_block.specs.Holds.{SpanHolds}
use Rattle.span_block.proofs.Nests.{all_of, span_reads}
use Rattle.span_block.proofs.Spans.{empty_utf8}
use Rattle.span_block.proofs.Blocks.{span_back}

scope_nests : (s : Span) → SpanNests most_levels s → ScopeSpansNest most_levels (alone_in_scope s)
scope_nests s h = record {
  attributes = All-nil (AttributeNests most_levels);
  spans = all_of (SpanNests most_levels) (SpanNests most_levels) (λ t g. g) (s ∷ []) (h, tt);
}

resource_nests : (s : Span) → SpanNests most_levels s → ResourceSpansNest most_levels (alone_in_resource s)
resource_nests s h = record {
  attributes = All-nil (AttributeNests most_levels);
  scope_spans = all_of (ScopeSpansNest most_levels) (ScopeSpansNest most_levels) (λ t g. g) (alone_in_scope s ∷ []) (scope_nests s h, tt);
}

request_nests : (s : Span) → SpanNests most_levels s → RequestNests most_levels (alone s)
request_nests s h = all_of (ResourceSpansNest most_levels) (ResourceSpansNest most_levels) (λ t g. g) (alone_in_resource s ∷ []) (resource_nests s h, tt)

alone_is_read : (s : Span) → HasBlock s → SpanHolds s → length (message_bytes (request_fields (alone s))) < 2 ^ 64 → request_of true (message_bytes (request_fields (alone s))) ≡ Ok (alone s)
alone_is_read s fits holds room =
    let reads : SpanReads s = span_reads s fits in
    let of_scope = scope_spans-back (alone_in_scope s) (no-scope-back no_scope refl refl refl refl) (span_back s holds, tt) empty_utf8 in
    let of_resource = resource_spans-back (alone_in_resource s) (no-resource-back no_resource refl refl) (of_scope, tt) empty_utf8 in
    (request-back (alone s) (of_resource, tt)).again (request_nests s reads.0, (((reads.1, tt), tt), tt)) room

-- a request that was read of such bytes
pub read_alone : (s : Span) (sent : List ℕ) (r : Request) → HasBlock s → SpanHolds s → sent ≡ message_bytes (request_fields (alone s)) → length sent < 2 ^ 64 → request_of true sent ≡ Ok r → r ≡ alone s
read_alone s sent r fits holds e room read =
    let P : List ℕ → Type 0 = λ b. length b < 2 ^ 64 in
    let k : Ok r ≡ Ok (alone s) = sym read ∙ ap (request_of true) e ∙ alone_is_read s fits holds (subst P e room) in
    cc

-- ---- its bytes

-- what was begun stands in what was added to
pub still_within : (at : ℕ) (a b : List ℕ) (fs : List Field) → at < length a → Adds a b fs → at < length b
still_within at a b fs h adds = let e : length b ≡ length a + length (message_bytes fs) = ap length adds ∙ length-append a (message_bytes fs) in omega (arith, h, e)

abbrev framed : List ℕ → List Field
framed block = message_in 1 (message_in 2 (field 2 (bytes block) ∷ []) ∷ []) ∷ []

pub whole_request : (a b block : List ℕ) (s : Span) → a ≡ [] → Adds a b (framed block) → block ≡ block_of s → b ≡ message_bytes (request_fields (alone s))
whole_request a b block s start adds is = adds ∙ ap (λ t. t ++ message_bytes (framed block)) start ∙ ap (λ t. message_bytes (framed t)) is
