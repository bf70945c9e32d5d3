-- A request that holds one span, of which nothing but the span is told, for private clauses.
use Rattle.std.specs.Prelude.{[], ◌∷◌}
use Rattle.otlp_types.specs.Empty.{no_resource, no_scope}
use Rattle.otlp_types.specs.declared.span.Span.{Span}
use Rattle.otlp_types.specs.declared.request.ScopeSpans.{ScopeSpans}
use Rattle.otlp_types.specs.declared.request.ResourceSpans.{ResourceSpans}
use Rattle.otlp_types.specs.declared.request.Request.{Request}

abbrev pub alone_in_scope : Span → ScopeSpans
alone_in_scope s = record { scope = no_scope; spans = s ∷ []; schema_url = [] }

abbrev pub alone_in_resource : Span → ResourceSpans
alone_in_resource s = record { resource = no_resource; scope_spans = alone_in_scope s ∷ []; schema_url = [] }

abbrev pub alone : Span → Request
alone s = record { resource_spans = alone_in_resource s ∷ [] }
