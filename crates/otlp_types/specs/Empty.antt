-- Resources, scopes and spans of which nothing is told, or nothing but ids, status code and times: the rest has its
-- default.
use Rattle.std.specs.Prelude.{ℕ, pos, [], Option}
use Rattle.otlp_types.specs.declared.request.Resource.{Resource}
use Rattle.otlp_types.specs.declared.request.Scope.{Scope}
use Rattle.otlp_types.specs.declared.span.Ids.{Ids}
use Rattle.otlp_types.specs.declared.span.Span.{Span}

abbrev pub no_resource : Resource
no_resource = record { attributes = []; dropped_attributes_count = 0 }

abbrev pub no_scope : Scope
no_scope = record { name = []; version = []; attributes = []; dropped_attributes_count = 0 }

-- a span with these ids, status code, start and end
abbrev pub plain_span : Option Ids → (code start end : ℕ) → Span
plain_span ids code start end = record {
  ids = ids;
  trace_state = [];
  flags = 0;
  name = [];
  kind = pos 0;
  start_time_unix_nano = start;
  end_time_unix_nano = end;
  attributes = [];
  dropped_attributes_count = 0;
  events = [];
  dropped_events_count = 0;
  links = [];
  dropped_links_count = 0;
  status = record { message = []; code = pos code };
}
