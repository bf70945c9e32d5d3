-- The messages of a request, and what stands in their fields (OTLP 1.x, `trace_service.proto`, `trace.proto`,
-- `resource.proto` and `common.proto` v1).
use Rattle.std.specs.Prelude.{ℕ, Bool, false, ◌||◌, ◌==◌, Option, Some, None, if◌then◌else◌}
use Rattle.request_show.specs.declared.messages.MessageKind.{MessageKind}
use Rattle.request_show.specs.declared.messages.MessageKind.TheVariants.{Request, ResourceSpans, Resource, ScopeSpans, Scope, Span, Event, Link, Status, KeyValue, AnyValue, ArrayValue, KeyValueList}

abbrev pub inside_resource_spans : ℕ → Option MessageKind
inside_resource_spans n = if n == 1 then Some Resource else if n == 2 then Some ScopeSpans else None

abbrev pub inside_scope_spans : ℕ → Option MessageKind
inside_scope_spans n = if n == 1 then Some Scope else if n == 2 then Some Span else None

abbrev pub inside_span : ℕ → Option MessageKind
inside_span n = if n == 9 then Some KeyValue else if n == 11 then Some Event else if n == 13 then Some Link else if n == 15 then Some Status else None

abbrev pub inside_any_value : ℕ → Option MessageKind
inside_any_value n = if n == 5 then Some ArrayValue else if n == 6 then Some KeyValueList else None

-- the message in a field of this number
abbrev pub inside : MessageKind → (number : ℕ) → Option MessageKind
inside Request n = if n == 1 then Some ResourceSpans else None
inside ResourceSpans n = inside_resource_spans n
inside Resource n = if n == 1 then Some KeyValue else None
inside ScopeSpans n = inside_scope_spans n
inside Scope n = if n == 3 then Some KeyValue else None
inside Span n = inside_span n
inside Event n = if n == 3 then Some KeyValue else None
inside Link n = if n == 4 then Some KeyValue else None
inside Status n = None
inside KeyValue n = if n == 2 then Some AnyValue else None
inside AnyValue n = inside_any_value n
inside ArrayValue n = if n == 1 then Some AnyValue else None
inside KeyValueList n = if n == 1 then Some KeyValue else None

-- a text stands in a field of this number
abbrev pub is_text : MessageKind → (number : ℕ) → Bool
is_text ResourceSpans n = n == 3
is_text ScopeSpans n = n == 3
is_text Scope n = (n == 1) || (n == 2)
is_text Span n = (n == 3) || (n == 5)
is_text Event n = n == 2
is_text Link n = n == 3
is_text Status n = n == 2
is_text KeyValue n = n == 1
is_text AnyValue n = n == 1
is_text _ n = false
