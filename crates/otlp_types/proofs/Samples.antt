-- Spans and records that worked rows share: all is empty but what a row speaks of.
-- For the rows of the crates above, which are computed.
use Rattle.std.specs.Prelude.{ℕ, [], Option}
use Rattle.otlp_types.specs.declared.arrival.Record.{Record}
use Rattle.otlp_types.specs.declared.span.Ids.{Ids}
pub use Rattle.otlp_types.specs.Empty.{no_resource, no_scope, plain_span}

-- the record of a plain span
abbrev pub plain_record : Option Ids → (code start end : ℕ) → Record
plain_record ids code start end = record {
  resource = no_resource;
  resource_schema_url = [];
  scope = no_scope;
  scope_schema_url = [];
  span = plain_span ids code start end;
}
