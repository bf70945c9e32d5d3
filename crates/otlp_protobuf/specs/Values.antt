-- Values of attributes (`common.proto` v1: `AnyValue`, `ArrayValue`, `KeyValueList`, `KeyValue`).
use Rattle.std.specs.Prelude.{ℕ, zero, suc, List, [], ◌∷◌, ◌++◌, Ok, Err, ◌==◌, if◌then◌else◌}
use Rattle.base64.specs.Engines.{standard}
use Rattle.base64.specs.GeneralPurpose.{encode_of}
use Rattle.protobuf_wire.specs.Wire.{Field, Value, varint, fixed64, bytes}
use Rattle.otlp_types.specs.declared.value.AnyValue.{AnyValue, out-AnyValue, Empty, Str, Bool as Truth, Int, Double, Array, KvList, Bytes}
use Rattle.otlp_types.specs.declared.value.AnyValue.TheOpen.{AnyValue-F}
use Rattle.otlp_types.specs.declared.value.KeyValue.{KeyValue}
use Rattle.otlp_protobuf.specs.declared.protobuf_fault.ProtobufFault.TheVariants as faults
use Rattle.otlp_protobuf.specs.Kinds.{Read, map_read, text, int64, truth, double, merged}

-- the items of a list of values, and of a list of pairs; any other value has none
abbrev pub items_in : AnyValue-F AnyValue KeyValue → List AnyValue
items_in (AnyValue-F.Array vs) = vs
items_in _ = []

abbrev pub pairs_in : AnyValue-F AnyValue KeyValue → List KeyValue
pairs_in (AnyValue-F.KvList ps) = ps
pairs_in _ = []

-- a pair of which nothing is told
abbrev pub no_pair : KeyValue
no_pair = record { key = []; value = Empty }

-- `value` adds the fields of some bytes to a value inside
module _ (value : AnyValue → List ℕ → Read AnyValue) where
  -- an `ArrayValue` with a field more
  abbrev pub array_by : List AnyValue → ℕ → Value → Read (List AnyValue)
  array_by vs n (bytes s) = if n == 1 then map_read (λ v. vs ++ v ∷ []) (value Empty s) else Ok vs
  array_by vs n _ = Ok vs

  abbrev pub array_step : List AnyValue → Field → Read (List AnyValue)
  array_step vs f = array_by vs f.number f.value

  -- a `KeyValue` with a field more
  abbrev pub pair_by : KeyValue → ℕ → Value → Read KeyValue
  pair_by p n (bytes s) =
      if n == 1 then map_read (λ k. record { key = k; value = p.value }) (text s)
      else if n == 2 then map_read (λ v. record { key = p.key; value = v }) (value p.value s)
      else Ok p
  pair_by p n _ = Ok p

  abbrev pub pair_step : KeyValue → Field → Read KeyValue
  pair_step p f = pair_by p f.number f.value

  -- a `KeyValue`
  abbrev pub pair_of : List ℕ → Read KeyValue
  pair_of = merged pair_step no_pair

  -- a `KeyValueList` with a field more
  abbrev pub list_by : List KeyValue → ℕ → Value → Read (List KeyValue)
  list_by ps n (bytes s) = if n == 1 then map_read (λ p. ps ++ p ∷ []) (pair_of s) else Ok ps
  list_by ps n _ = Ok ps

  abbrev pub list_step : List KeyValue → Field → Read (List KeyValue)
  list_step ps f = list_by ps f.number f.value

  -- an `AnyValue` with a field more: of its kinds the last stands, and a list that comes again goes on
  abbrev pub value_by : AnyValue → ℕ → Value → Read AnyValue
  value_by v n (bytes s) =
      if n == 1 then map_read Str (text s)
      else if n == 5 then map_read Array (merged array_step (items_in (out-AnyValue v)) s)
      else if n == 6 then map_read KvList (merged list_step (pairs_in (out-AnyValue v)) s)
      else if n == 7 then Ok (Bytes (encode_of standard s))
      else Ok v
  value_by v n (varint k) = if n == 2 then Ok (Truth (truth k)) else if n == 3 then Ok (Int (int64 k)) else Ok v
  value_by v n (fixed64 k) = if n == 4 then Ok (Double (double k)) else Ok v
  value_by v n _ = Ok v

  abbrev pub value_step : AnyValue → Field → Read AnyValue
  value_step v f = value_by v f.number f.value

-- a value with the fields of some bytes, which nests at most so many levels deep
unfoldable pub value_to : ℕ → AnyValue → List ℕ → Read AnyValue
value_to zero v s = Err faults.TooDeep
value_to (suc levels) v s = merged (value_step (value_to levels)) v s

-- A value that nests at most 29 levels deep can be written as JSON that nests at most 127 deep wherever it stands: the
-- deepest place, the attributes of an event, takes 11 levels, and each list of pairs four.
abbrev pub most_levels : ℕ
most_levels = 29
