-- How deep the values of attributes nest: the JSON text of a request whose values nest at most 29 levels deep nests at most
-- 127 deep, 11 of them above a value (in an event) and at most four for each of its levels.
use Rattle.std.specs.Prelude.{◌≡◌, ℕ, zero, suc, ◌⊎◌, List}
use Rattle.std.specs.List.{All}
use Rattle.otlp_types.specs.declared.value.AnyValue.{AnyValue, out-AnyValue, Empty}
use Rattle.otlp_types.specs.declared.value.KeyValue.{KeyValue}
use Rattle.otlp_types.specs.declared.span.Event.{Event}
use Rattle.otlp_types.specs.declared.span.Link.{Link}
use Rattle.otlp_types.specs.declared.span.Span.{Span}
use Rattle.otlp_types.specs.declared.request.ScopeSpans.{ScopeSpans}
use Rattle.otlp_types.specs.declared.request.ResourceSpans.{ResourceSpans}
use Rattle.otlp_types.specs.declared.request.Request.{Request}
use Rattle.otlp_protobuf.specs.Values.{items_in, pairs_in}

-- A value takes a level, and what is in it those below: each item of a list, and the value of each pair, unless it has none.
unfoldable pub NestsAtMost : ℕ → AnyValue → Type 0
NestsAtMost zero v = ⊥
NestsAtMost (suc levels) v = All (NestsAtMost levels) (items_in (out-AnyValue v)) × All (λ p. (p.value ≡ Empty) ⊎ NestsAtMost levels p.value) (pairs_in (out-AnyValue v))

-- the value of an attribute, unless it has none
abbrev pub AttributeNests : ℕ → KeyValue → Type 0
AttributeNests levels p = (p.value ≡ Empty) ⊎ NestsAtMost levels p.value

abbrev pub AttributesNest : ℕ → List KeyValue → Type 0
AttributesNest levels = All (AttributeNests levels)

abbrev pub EventNests : ℕ → Event → Type 0
EventNests levels e = AttributesNest levels e.attributes

abbrev pub LinkNests : ℕ → Link → Type 0
LinkNests levels l = AttributesNest levels l.attributes

pub record SpanNests (levels : ℕ) (s : Span) : Type 0 where
  pub attributes : AttributesNest levels s.attributes
  pub events : All (EventNests levels) s.events
  pub links : All (LinkNests levels) s.links

pub record ScopeSpansNest (levels : ℕ) (x : ScopeSpans) : Type 0 where
  pub attributes : AttributesNest levels x.scope.attributes
  pub spans : All (SpanNests levels) x.spans

pub record ResourceSpansNest (levels : ℕ) (x : ResourceSpans) : Type 0 where
  pub attributes : AttributesNest levels x.resource.attributes
  pub scope_spans : All (ScopeSpansNest levels) x.scope_spans

-- all values of a request nest at most so many levels deep
abbrev pub RequestNests : ℕ → Request → Type 0
RequestNests levels r = All (ResourceSpansNest levels) r.resource_spans
