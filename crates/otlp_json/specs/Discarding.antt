-- What is left of a request where doubles are discarded: each attribute that holds one, at any depth, is left out and
-- counted.
use Rattle.std.specs.Prelude.{◌≡◌, ℕ, ◌+◌, ◌-◌, ◌^◌, ◌==◌, min, not, Bool, true, false, List, map, count_by, if◌then◌else◌, Some}
use Rattle.std.specs.List.{filter, AllByRecursion}
use Rattle.serde_json.specs.Data.{Data}
use Rattle.otlp_types.specs.HoldsDouble.{is_of_double}
use Rattle.otlp_types.specs.declared.value.KeyValue.{KeyValue}
use Rattle.otlp_types.specs.declared.span.Event.{Event}
use Rattle.otlp_types.specs.declared.span.Link.{Link}
use Rattle.otlp_types.specs.declared.span.Span.{Span}
use Rattle.otlp_types.specs.declared.request.Resource.{Resource}
use Rattle.otlp_types.specs.declared.request.Scope.{Scope}
use Rattle.otlp_types.specs.declared.request.ScopeSpans.{ScopeSpans}
use Rattle.otlp_types.specs.declared.request.ResourceSpans.{ResourceSpans}
use Rattle.otlp_types.specs.declared.request.Request.{Request}
use Rattle.otlp_reading.specs.Reading.{request_of}

-- ---- messages

-- the attributes that are left
abbrev pub left : List KeyValue → List KeyValue
left = filter (λ p. not (is_of_double p))

-- n that were dropped, and k more, as far as 32 bits hold them
abbrev pub dropped : ℕ → ℕ → ℕ
dropped n k = if k == 0 then n else min (n + k) (2 ^ 32 - 1)

-- how many attributes were dropped
abbrev pub dropped_of : List KeyValue → ℕ → ℕ
dropped_of ps n = dropped n (count_by is_of_double ps)

abbrev pub event_left : Event → Event
event_left e = record e { attributes = left e.attributes; dropped_attributes_count = dropped_of e.attributes e.dropped_attributes_count }

abbrev pub link_left : Link → Link
link_left l = record l { attributes = left l.attributes; dropped_attributes_count = dropped_of l.attributes l.dropped_attributes_count }

abbrev pub span_left : Span → Span
span_left s = record s {
  attributes = left s.attributes;
  dropped_attributes_count = dropped_of s.attributes s.dropped_attributes_count;
  events = map event_left s.events;
  links = map link_left s.links;
}

abbrev pub resource_left : Resource → Resource
resource_left r = record r { attributes = left r.attributes; dropped_attributes_count = dropped_of r.attributes r.dropped_attributes_count }

abbrev pub scope_left : Scope → Scope
scope_left s = record s { attributes = left s.attributes; dropped_attributes_count = dropped_of s.attributes s.dropped_attributes_count }

abbrev pub scope_spans_left : ScopeSpans → ScopeSpans
scope_spans_left g = record g { scope = scope_left g.scope; spans = map span_left g.spans }

abbrev pub resource_spans_left : ResourceSpans → ResourceSpans
resource_spans_left g = record g { resource = resource_left g.resource; scope_spans = map scope_spans_left g.scope_spans }

-- the request without its doubles
abbrev pub without_doubles : Request → Request
without_doubles r = record { resource_spans = map resource_spans_left r.resource_spans }

-- A request that is read where doubles are kept is read where they are discarded, too, and is then the same but for its
-- doubles.
abbrev pub DoublesAreLeftOut : Type 0
DoublesAreLeftOut = (d : Data) (r : Request) → request_of true d ≡ Some r → request_of false d ≡ Some (without_doubles r)

-- ---- requests without doubles

-- no attribute holds one
abbrev pub NoneOf : List KeyValue → Type 0
NoneOf ps = count_by is_of_double ps ≡ 0

abbrev pub NoneOfSpan : Span → Type 0
NoneOfSpan s = NoneOf s.attributes × AllByRecursion (λ (e : Event). NoneOf e.attributes) s.events × AllByRecursion (λ (l : Link). NoneOf l.attributes) s.links

abbrev pub NoneOfScope : ScopeSpans → Type 0
NoneOfScope g = NoneOf g.scope.attributes × AllByRecursion NoneOfSpan g.spans

abbrev pub NoneOfResource : ResourceSpans → Type 0
NoneOfResource g = NoneOf g.resource.attributes × AllByRecursion NoneOfScope g.scope_spans

-- no attribute of the request holds a double
abbrev pub HasNoDoubles : Request → Type 0
HasNoDoubles r = AllByRecursion NoneOfResource r.resource_spans
