-- Attributes as they are found in fields, for private clauses, and what is shown of each.
use Rattle.std.specs.Prelude.{◌≡◌, ℕ, List, [], ◌∷◌, map, Option, Some, None, Ok, unwrap_or}
use Rattle.std.specs.Result.{result_ok}
use Rattle.std.specs.List.{AllByRecursion}
use Rattle.protobuf_wire.specs.Wire.{Value, Field, varint, fixed64, bytes, fixed32, fields_of}
use Rattle.protobuf_writer.specs.Writing.{message_bytes}
use Rattle.otlp_types.specs.declared.value.AnyValue.{AnyValue, out-AnyValue}
use Rattle.otlp_types.specs.declared.value.AnyValue.TheOpen.{AnyValue-F}
use Rattle.otlp_types.specs.declared.value.KeyValue.{KeyValue}
use Rattle.otlp_protobuf.specs.Kinds.{int64, truth, double}
use Rattle.otlp_protobuf.specs.Values.{no_pair, pair_of, value_to, most_levels}
use Rattle.otlp_protobuf_encode.specs.Writing.{pair_fields}
use Rattle.span_block.specs.declared.attribute.Attribute.{Attribute}
use Rattle.span_block.specs.declared.attribute.Scalar.{Scalar}
use Rattle.span_block.specs.declared.attribute.Scalar.TheVariants as scalars
use Rattle.span_block.specs.Holds.{PairHolds}
use Rattle.span_block.specs.Walk.{messages}

-- ---- what is shown

-- a text, a truth value, a number; of other values only that they are such
abbrev pub IsShown : AnyValue-F AnyValue KeyValue → Scalar → Type 0
IsShown (AnyValue-F.Str t) (scalars.Str s) = s.now ≡ t
IsShown (AnyValue-F.Bool b) (scalars.Bool c) = c ≡ b
IsShown (AnyValue-F.Int n) (scalars.Int m) = m ≡ n
IsShown (AnyValue-F.Double x) (scalars.Double y) = y ≡ x
IsShown AnyValue-F.Empty scalars.Other = Unit {0}
IsShown (AnyValue-F.Array vs) scalars.Other = Unit {0}
IsShown (AnyValue-F.KvList ps) scalars.Other = Unit {0}
IsShown (AnyValue-F.Bytes t) scalars.Other = Unit {0}
IsShown _ _ = ⊥

pub record ShowsPair (p : KeyValue) (a : Attribute) : Type 0 where
  pub key : a.key.now ≡ p.key
  pub value : IsShown (out-AnyValue p.value) a.value

-- the next pair is shown, or there is none
abbrev pub ShowsNext : (old new : List KeyValue) → Option Attribute → Type 0
ShowsNext [] new None = new ≡ []
ShowsNext (p ∷ ps) new (Some a) = ShowsPair p a × (new ≡ ps)
ShowsNext _ new _ = ⊥

-- the same, by the number and the value of the field that a value is
abbrev pub ShownBy : ℕ → Value → Scalar → Type 0
ShownBy n (bytes s) (scalars.Str t) = (n ≡ 1) × (t.now ≡ s)
ShownBy n (varint k) (scalars.Bool b) = (n ≡ 2) × (b ≡ truth k)
ShownBy n (varint k) (scalars.Int z) = (n ≡ 3) × (z ≡ int64 k)
ShownBy n (fixed64 k) (scalars.Double x) = (n ≡ 4) × (x ≡ double k)
ShownBy n (bytes s) scalars.Other = ¬ (n ≡ 1)
ShownBy n (varint k) scalars.Other = ¬ (n ≡ 2) × ¬ (n ≡ 3)
ShownBy n (fixed64 k) scalars.Other = ¬ (n ≡ 4)
ShownBy n (fixed32 k) scalars.Other = Unit {0}
ShownBy n _ _ = ⊥

abbrev pub ShownFirst : List Field → Scalar → Type 0
ShownFirst (f ∷ fs) s = ShownBy f.number f.value s
ShownFirst [] scalars.Other = Unit {0}
ShownFirst [] _ = ⊥

-- ---- what is left

unfoldable pub fields_read : List ℕ → List Field
fields_read sent = unwrap_or (result_ok (fields_of sent)) []

unfoldable pub pair_read : List ℕ → KeyValue
pair_read message = unwrap_or (result_ok (pair_of (value_to most_levels) message)) no_pair

-- the attributes in these bytes
unfoldable pub pairs_left : List ℕ → List KeyValue
pairs_left sent = map pair_read (messages 9 (fields_read sent))

pub record IsPair (message : List ℕ) : Type 0 where
  pub holds : PairHolds (pair_read message)
  pub written : message ≡ message_bytes (pair_fields (pair_read message))

-- these bytes are fields, and of those of number 9 each is a pair
pub record ArePairs (sent : List ℕ) : Type 0 where
  pub read : fields_of sent ≡ Ok (fields_read sent)
  pub pairs : AllByRecursion IsPair (messages 9 (fields_read sent))
