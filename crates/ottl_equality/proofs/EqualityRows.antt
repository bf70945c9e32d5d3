-- Worked rows of equal values, by computation.
-- No contract rests on it: it shows the definitions on worked cases.
use Rattle.std.specs.Prelude.{◌≡◌, ℕ, pos, true, false, List, [], ◌∷◌, map as each_of, codes, refl}
use Rattle.std.proofs.Common.{rules}
use Rattle.otlp_types.specs.declared.value.AnyValue.{AnyValue, Empty, Str, Int, Array, Bytes, the_lemmas}
use Rattle.otlp_types.specs.declared.value.KeyValue.{KeyValue}
use Rattle.ottl_equality.specs.Encoded.{decoded}
use Rattle.ottl_equality.specs.Equality.{lists_equal, maps_equal}

abbrev pair : List ℕ → AnyValue → KeyValue
pair k v = record { key = k; value = v }

-- bytes in base64: each way to end; letters at the ends of the alphabet; what stands behind an end; none
pub encoded_bytes : each_of decoded (codes "YWJj" ∷ codes "YWI=" ∷ codes "YQ==" ∷ codes "YQ" ∷ codes "+/Az09==" ∷ codes "YW=Jj" ∷ codes "Y" ∷ codes "" ∷ []) ≡
    codes "abc" ∷ codes "ab" ∷ codes "a" ∷ codes "a" ∷ (251 ∷ 240 ∷ 51 ∷ 211 ∷ []) ∷ codes "a" ∷ [] ∷ [] ∷ []
encoded_bytes = refl

-- lists place by place, maps by their keys in either order, types apart; of two pairs of a key the first counts; `nil` in a list
abbrev a_pair : ℕ → KeyValue
a_pair n = pair (codes "a") (Int (pos n))

abbrev b_pair : KeyValue
b_pair = pair (codes "b") (Str (codes "x"))

pub equal_lists : lists_equal (Int (pos 1) ∷ Empty ∷ []) (Int (pos 1) ∷ Empty ∷ []) ∷ lists_equal (Int (pos 1) ∷ []) (Int (pos 1) ∷ Empty ∷ []) ∷ lists_equal (Int (pos 1) ∷ Empty ∷ []) (Int (pos 1) ∷ []) ∷ lists_equal (Int (pos 1) ∷ []) (Str (codes "1") ∷ []) ∷ lists_equal (Bytes (codes "YQ==") ∷ []) (Bytes (codes "YQ") ∷ []) ∷ lists_equal (Array (Int (pos 2) ∷ []) ∷ []) (Array (Int (pos 3) ∷ []) ∷ []) ∷ [] ≡
    true ∷ false ∷ false ∷ false ∷ true ∷ false ∷ []
equal_lists = search (rules, the_lemmas)

pub equal_maps : maps_equal (a_pair 1 ∷ b_pair ∷ []) (b_pair ∷ a_pair 1 ∷ []) ∷ maps_equal (a_pair 1 ∷ []) (a_pair 2 ∷ []) ∷ maps_equal (a_pair 1 ∷ []) (b_pair ∷ []) ∷ maps_equal (a_pair 1 ∷ []) (a_pair 1 ∷ b_pair ∷ []) ∷ maps_equal (a_pair 1 ∷ a_pair 2 ∷ []) (a_pair 1 ∷ a_pair 1 ∷ []) ∷ maps_equal (a_pair 1 ∷ a_pair 1 ∷ []) (a_pair 1 ∷ a_pair 2 ∷ []) ∷ [] ≡
    true ∷ false ∷ false ∷ false ∷ false ∷ true ∷ []
equal_maps = search (rules, the_lemmas)
