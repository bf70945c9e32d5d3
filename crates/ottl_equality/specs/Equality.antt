-- When two attributes' values are equal (OTLP's `pcommon`: `Value.Equal`, `Slice.Equal`, `Map.Equal`): they are of one type, and
-- equal in it. Two lists are as long, and equal at each place; two maps have as many pairs, and each key of the first has an
-- equal value in the second.
use Rattle.std.specs.Prelude.{ℕ, Bool, true, false, ◌&&◌, ◌==◌, List, length, bytes_eq, Option, Some, None}
use Rattle.std.specs.Bool.{beq}
use Rattle.std.specs.List.{find, list_all}
use Rattle.std.specs.Ordering.{int_eq, is_eq, nat_cmp}
use Rattle.std.specs.Cmp.Lexicographic.{pointwise, slice_cmp}
use Rattle.std.specs.Float.Ieee.{eq}
use Rattle.otlp_types.specs.declared.value.AnyValue.{AnyValue, out-AnyValue}
use Rattle.otlp_types.specs.declared.value.AnyValue.TheOpen.{AnyValue-F}
use Rattle.otlp_types.specs.declared.value.AnyValue.TheFolds.{fold-AnyValue}
use Rattle.otlp_types.specs.declared.value.KeyValue.{KeyValue, KeyValue-F, fold-KeyValue}
use Rattle.ottl_equality.specs.Encoded.{decoded}

-- the first pair of a key
abbrev pub pair_of : (key : List ℕ) → List KeyValue → Option KeyValue
pair_of key ps = find (λ p. bytes_eq p.key key) ps

-- whether a test holds of the value of a pair, which has to be there
abbrev pub passes : Option KeyValue → (AnyValue → Bool) → Bool
passes None test = false
passes (Some p) test = test p.value

-- whether two texts in base64 stand for the same bytes
abbrev pub same_bytes : (left right : List ℕ) → Bool
same_bytes s t = is_eq (slice_cmp nat_cmp (decoded s) (decoded t))

-- one level, with a test for each value inside, and for each pair a test of the other pairs
abbrev pub equals_level : AnyValue-F (AnyValue → Bool) (List KeyValue → Bool) → AnyValue-F AnyValue KeyValue → Bool
equals_level AnyValue-F.Empty AnyValue-F.Empty = true
equals_level (AnyValue-F.Str s) (AnyValue-F.Str t) = bytes_eq s t
equals_level (AnyValue-F.Bool b) (AnyValue-F.Bool c) = beq b c
equals_level (AnyValue-F.Int y) (AnyValue-F.Int z) = int_eq y z
equals_level (AnyValue-F.Double x) (AnyValue-F.Double y) = eq x y
equals_level (AnyValue-F.Array tests) (AnyValue-F.Array ws) = pointwise (λ test w. test w) tests ws
equals_level (AnyValue-F.KvList tests) (AnyValue-F.KvList qs) = (length tests == length qs) && list_all (λ test. test qs) tests
equals_level (AnyValue-F.Bytes s) (AnyValue-F.Bytes t) = same_bytes s t
equals_level _ _ = false

abbrev pub value_layer : AnyValue-F (AnyValue → Bool) (List KeyValue → Bool) → AnyValue → Bool
value_layer level w = equals_level level (out-AnyValue w)

abbrev pub pair_layer : KeyValue-F (AnyValue → Bool) (List KeyValue → Bool) → List KeyValue → Bool
pair_layer p qs = passes (pair_of p.key qs) p.value

-- whether two values are equal
abbrev pub equal : AnyValue → AnyValue → Bool
equal = fold-AnyValue (AnyValue → Bool) (List KeyValue → Bool) value_layer pair_layer

-- whether a pair's key has an equal value among others
abbrev pub is_among : KeyValue → List KeyValue → Bool
is_among = fold-KeyValue (AnyValue → Bool) (List KeyValue → Bool) value_layer pair_layer

abbrev pub lists_equal : (left right : List AnyValue) → Bool
lists_equal vs ws = pointwise equal vs ws

abbrev pub maps_equal : (left right : List KeyValue) → Bool
maps_equal ps qs = (length ps == length qs) && list_all (λ p. is_among p qs) ps
