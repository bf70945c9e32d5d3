-- The readings that keep doubles. For private clauses.
use Rattle.std.specs.Prelude.{ℕ, true, List, Option}
use Rattle.serde_json.specs.Data.{Data, Members}
use Rattle.otlp_types.specs.declared.value.AnyValue.{AnyValue}
use Rattle.otlp_types.specs.declared.value.KeyValue.{KeyValue}
use Rattle.otlp_reading.specs.Reading.{OrDiscarded}
use Rattle.otlp_reading.specs.Reading as reading

abbrev pub value_to : ℕ → Data → Option (OrDiscarded AnyValue)
value_to = reading.value_to true

abbrev pub any_value : Data → Option (OrDiscarded AnyValue)
any_value = reading.any_value true

abbrev pub attributes : Members → Option (List KeyValue × ℕ)
attributes = reading.attributes true
