-- The records of a request, in document order: resource, scope, span.
use Rattle.std.specs.Prelude.{ℕ, List, map, flat_map}
use Rattle.otlp_types.specs.declared.span.Span.{Span}
use Rattle.otlp_types.specs.declared.request.Resource.{Resource}
use Rattle.otlp_types.specs.declared.request.Scope.{Scope}
use Rattle.otlp_types.specs.declared.request.ScopeSpans.{ScopeSpans}
use Rattle.otlp_types.specs.declared.request.ResourceSpans.{ResourceSpans}
use Rattle.otlp_types.specs.declared.request.Request.{Request}
use Rattle.otlp_types.specs.declared.arrival.Record.{Record}

-- a span with its resource, its scope and their schema URLs
abbrev pub record_with : Resource → List ℕ → Scope → List ℕ → Span → Record
record_with resource resource_url scope scope_url span = record {
  resource = resource;
  resource_schema_url = resource_url;
  scope = scope;
  scope_schema_url = scope_url;
  span = span;
}

-- the records of one scope
abbrev pub scope_records : Resource → List ℕ → ScopeSpans → List Record
scope_records resource url group = map (record_with resource url group.scope group.schema_url) group.spans

-- the records of one resource
abbrev pub resource_records : ResourceSpans → List Record
resource_records group = flat_map (scope_records group.resource group.schema_url) group.scope_spans

-- the records of a request
abbrev pub records_of : Request → List Record
records_of request = flat_map resource_records request.resource_spans
