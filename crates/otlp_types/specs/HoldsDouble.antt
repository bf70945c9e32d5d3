-- Attributes that hold a double, at any depth: those that are discarded where doubles aren't kept.
use Rattle.std.specs.Prelude.{Bool, true, false}
use Rattle.std.specs.List.{list_any}
use Rattle.otlp_types.specs.declared.value.AnyValue.{AnyValue}
use Rattle.otlp_types.specs.declared.value.AnyValue.TheOpen.{AnyValue-F}
use Rattle.otlp_types.specs.declared.value.AnyValue.TheFolds.{fold-AnyValue}
use Rattle.otlp_types.specs.declared.value.KeyValue.{KeyValue, KeyValue-F, fold-KeyValue}

-- one level, with whether each value inside holds a double
abbrev pub value_layer : AnyValue-F Bool Bool → Bool
value_layer AnyValue-F.Empty = false
value_layer (AnyValue-F.Str s) = false
value_layer (AnyValue-F.Bool b) = false
value_layer (AnyValue-F.Int n) = false
value_layer (AnyValue-F.Double x) = true
value_layer (AnyValue-F.Array vs) = list_any (λ b. b) vs
value_layer (AnyValue-F.KvList ps) = list_any (λ b. b) ps
value_layer (AnyValue-F.Bytes s) = false

abbrev pub pair_layer : KeyValue-F Bool Bool → Bool
pair_layer p = p.value

-- whether a value holds a double
abbrev pub holds_double : AnyValue → Bool
holds_double = fold-AnyValue Bool Bool value_layer pair_layer

-- whether an attribute does
abbrev pub is_of_double : KeyValue → Bool
is_of_double = fold-KeyValue Bool Bool value_layer pair_layer
