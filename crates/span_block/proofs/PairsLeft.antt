-- What is shown of an attribute, and which attributes are left.
-- For shown.rt and attributes.rt.
use Rattle.std.proofs.Common.{◌≡◌, ℕ, ◌+◌, ◌<◌, ◌≤◌, ◌^◌, List, [], ◌∷◌, ◌++◌, length, map, Bool, true, false, cond, Some, None, Ok, unwrap_or, to_bits, refl, sym, ◌∙◌, ap, subst, arith, lit<, length-append}
use Rattle.std.specs.Prelude.{◌==◌, nat_lt}
use Rattle.std.specs.Result.{result_ok}
use Rattle.std.specs.Float.{binary64}
use Rattle.std.specs.List.{AllByRecursion}
use Rattle.std.proofs.lemmas.Bool.Decides.{nat_tests}
use Rattle.protobuf_wire.specs.Wire.{Field, varint, fixed64, bytes, fields, fields_of}
use Rattle.protobuf_writer.specs.Writing.{number_bytes, tag_bytes, field_bytes, message_bytes}
use Rattle.protobuf_writer.specs.Defaults.{field, text_field, message_in, message_field, repeated}
use Rattle.protobuf_writer.proofs.Adding.{append-fields}
use Rattle.otlp_types.specs.declared.value.AnyValue.{AnyValue, out-AnyValue}
use Rattle.otlp_types.specs.declared.value.AnyValue.TheOpen.{AnyValue-F}
use Rattle.otlp_types.specs.declared.value.AnyValue.TheViews.{roll-AnyValue, roll-out-AnyValue}
use Rattle.otlp_types.specs.declared.value.AnyValue.TheVariants.{rolls-Empty, rolls-Str, rolls-Bool, rolls-Int, rolls-Double, rolls-Array, rolls-KvList, rolls-Bytes}
use Rattle.otlp_types.specs.declared.value.KeyValue.{KeyValue}
use Rattle.otlp_types.specs.declared.span.Span.{Span}
use Rattle.otlp_protobuf.specs.Values.{no_pair, most_levels}
use Rattle.otlp_protobuf_encode.specs.Writing.{base64_of, int_bits, truth_bits, value_fields, pair_fields, attributes, span_fields}
use Rattle.otlp_protobuf_encode.specs.ReadsBack.{HasRoom}
use Rattle.otlp_protobuf_encode.proofs.NumbersBack.{int64-back, bits64, truth-back, truth_small}
use Rattle.otlp_protobuf_encode.proofs.Values.{fields-Empty, fields-Str, fields-Truth, fields-Int, fields-Double, fields-Array, fields-KvList, fields-Bytes, fields-pair}
use Rattle.span_block.specs.declared.attribute.Attribute.{Attribute}
use Rattle.span_block.specs.declared.attribute.Scalar.{Scalar}
use Rattle.span_block.specs.declared.attribute.Scalar.TheVariants as scalars
use Rattle.span_block.specs.Fits.{PairFits, HasBlock}
use Rattle.span_block.specs.Holds.{ScalarHolds, PairHolds, SpanHolds}
use Rattle.span_block.specs.Walk.{first_field, bytes_in, messages}
use Rattle.span_block.specs.Pairs.{IsShown, ShowsPair, ShowsNext, ShownFirst, fields_read, pair_read, pairs_left, IsPair, ArePairs}
use Rattle.span_block.proofs.Nests.{pair_nests}
use Rattle.span_block.proofs.Fields.{IsPlain, ArePlain, plain_read, text-all, message-all, both-all, text-found, message-found, Group, joined, group, OfNumber, Rise, found, span_groups, span_joined, span_rise}

-- ---- what a value is

-- the fields of one level
abbrev pub layer : AnyValue-F AnyValue KeyValue → List Field
layer AnyValue-F.Empty = []
layer (AnyValue-F.Str s) = field 1 (bytes s) ∷ []
layer (AnyValue-F.Bool b) = field 2 (varint (truth_bits b)) ∷ []
layer (AnyValue-F.Int z) = field 3 (varint (int_bits z)) ∷ []
layer (AnyValue-F.Double x) = field 4 (fixed64 (to_bits binary64 x)) ∷ []
layer (AnyValue-F.Array vs) = message_in 5 (repeated 1 (map value_fields vs)) ∷ []
layer (AnyValue-F.KvList ps) = message_in 6 (repeated 1 (map pair_fields ps)) ∷ []
layer (AnyValue-F.Bytes s) = field 7 (bytes (unwrap_or (base64_of s) [])) ∷ []

layer_of : (o : AnyValue-F AnyValue KeyValue) → value_fields (roll-AnyValue o) ≡ layer o
layer_of AnyValue-F.Empty = ap value_fields rolls-Empty ∙ fields-Empty
layer_of (AnyValue-F.Str s) = ap value_fields (rolls-Str s) ∙ fields-Str s
layer_of (AnyValue-F.Bool b) = ap value_fields (rolls-Bool b) ∙ fields-Truth b
layer_of (AnyValue-F.Int z) = ap value_fields (rolls-Int z) ∙ fields-Int z
layer_of (AnyValue-F.Double x) = ap value_fields (rolls-Double x) ∙ fields-Double x
layer_of (AnyValue-F.Array vs) = ap value_fields (rolls-Array vs) ∙ fields-Array vs
layer_of (AnyValue-F.KvList ps) = ap value_fields (rolls-KvList ps) ∙ fields-KvList ps
layer_of (AnyValue-F.Bytes s) = ap value_fields (rolls-Bytes s) ∙ fields-Bytes s

pub value_layer : (v : AnyValue) → value_fields v ≡ layer (out-AnyValue v)
value_layer v = ap value_fields (sym (roll-out-AnyValue v)) ∙ layer_of (out-AnyValue v)

layer_plain : (o : AnyValue-F AnyValue KeyValue) → ScalarHolds o → ArePlain (layer o)
layer_plain AnyValue-F.Empty h = tt
layer_plain (AnyValue-F.Str s) h = ((lit< tt, lit< tt, tt), tt)
layer_plain (AnyValue-F.Bool b) h = ((lit< tt, lit< tt, truth_small b), tt)
layer_plain (AnyValue-F.Int z) h = ((lit< tt, lit< tt, bits64 z h), tt)
layer_plain (AnyValue-F.Double x) h = ((lit< tt, lit< tt, h.0), tt)
layer_plain (AnyValue-F.Array vs) h = ((lit< tt, lit< tt, tt), tt)
layer_plain (AnyValue-F.KvList ps) h = ((lit< tt, lit< tt, tt), tt)
layer_plain (AnyValue-F.Bytes s) h = ((lit< tt, lit< tt, tt), tt)

-- what the field says is what the value is
shows : (o : AnyValue-F AnyValue KeyValue) (r : Scalar) → ScalarHolds o → ShownFirst (layer o) r → IsShown o r
shows AnyValue-F.Empty scalars.Other h g = tt
shows AnyValue-F.Empty _ h g = absurd g
shows (AnyValue-F.Str s) (scalars.Str t) h g = g.1
shows (AnyValue-F.Str s) scalars.Other h g = absurd (g refl)
shows (AnyValue-F.Str s) _ h g = absurd g
shows (AnyValue-F.Bool b) (scalars.Bool c) h g = g.1 ∙ truth-back b
shows (AnyValue-F.Bool b) (scalars.Int z) h g = let e : 2 ≡ 3 = g.0 in absurd (omega (arith, e))
shows (AnyValue-F.Bool b) scalars.Other h g = absurd (g.0 refl)
shows (AnyValue-F.Bool b) _ h g = absurd g
shows (AnyValue-F.Int z) (scalars.Int y) h g = g.1 ∙ int64-back z h
shows (AnyValue-F.Int z) (scalars.Bool c) h g = let e : 3 ≡ 2 = g.0 in absurd (omega (arith, e))
shows (AnyValue-F.Int z) scalars.Other h g = absurd (g.1 refl)
shows (AnyValue-F.Int z) _ h g = absurd g
shows (AnyValue-F.Double x) (scalars.Double y) h g = g.1 ∙ h.1
shows (AnyValue-F.Double x) scalars.Other h g = absurd (g refl)
shows (AnyValue-F.Double x) _ h g = absurd g
shows (AnyValue-F.Array vs) scalars.Other h g = tt
shows (AnyValue-F.Array vs) (scalars.Str t) h g = let e : 5 ≡ 1 = g.0 in absurd (omega (arith, e))
shows (AnyValue-F.Array vs) _ h g = absurd g
shows (AnyValue-F.KvList ps) scalars.Other h g = tt
shows (AnyValue-F.KvList ps) (scalars.Str t) h g = let e : 6 ≡ 1 = g.0 in absurd (omega (arith, e))
shows (AnyValue-F.KvList ps) _ h g = absurd g
shows (AnyValue-F.Bytes s) scalars.Other h g = tt
shows (AnyValue-F.Bytes s) (scalars.Str t) h g = let e : 7 ≡ 1 = g.0 in absurd (omega (arith, e))
shows (AnyValue-F.Bytes s) _ h g = absurd g

-- ---- a pair

abbrev pair_groups : KeyValue → List Group
pair_groups p = (1, text_field 1 p.key) ∷ (2, message_field 2 (value_fields p.value)) ∷ []

abbrev Is : ℕ → Field → Type 0
Is n f = f.number ≡ n

nil_right : (fs : List Field) → fs ≡ fs ++ []
nil_right [] = refl
nil_right (f ∷ fs) = ap (λ gs. f ∷ gs) (nil_right fs)

pair_joined : (p : KeyValue) → pair_fields p ≡ joined (pair_groups p)
pair_joined p = fields-pair p ∙ ap (λ fs. text_field 1 p.key ++ fs) (nil_right (message_field 2 (value_fields p.value)))

pair_rise : (p : KeyValue) → Rise 0 (pair_groups p)
pair_rise p = (lit< tt, text-all (Is 1) 1 p.key (λ t. refl), (lit< tt, message-all (Is 2) 2 (value_fields p.value) (λ t. refl), tt))

pub pair_found : (n : ℕ) (p : KeyValue) → first_field n (pair_fields p) ≡ first_field n (group n (pair_groups p))
pair_found n p = ap (first_field n) (pair_joined p) ∙ found n 0 (pair_groups p) (pair_rise p)

pub pair_plain : (p : KeyValue) → ArePlain (pair_fields p)
pair_plain p =
    subst ArePlain (sym (fields-pair p))
    (both-all IsPlain (text_field 1 p.key) (message_field 2 (value_fields p.value)) (text-all IsPlain 1 p.key (λ t. (lit< tt, lit< tt, tt))) (message-all IsPlain 2 (value_fields p.value) (λ t. (lit< tt, lit< tt, tt))))

pub key_found : (p : KeyValue) → bytes_in (first_field 1 (pair_fields p)) ≡ p.key
key_found p = ap bytes_in (pair_found 1 p) ∙ text-found 1 p.key

-- the value of a pair is shown, by the bytes that its field has
pub value_shown : (p : KeyValue) (message : List ℕ) (r : Scalar) → PairHolds p → message ≡ bytes_in (first_field 2 (pair_fields p)) → length message < 2 ^ 64 → ((fs : List Field) → fields_of message ≡ Ok fs → ShownFirst fs r)
    → IsShown (out-AnyValue p.value) r
value_shown p message r holds e room h =
    let written : message ≡ message_bytes (layer (out-AnyValue p.value)) = e ∙ ap bytes_in (pair_found 2 p) ∙ message-found 2 (value_fields p.value) ∙ ap message_bytes (value_layer p.value) in
    let read : fields_of message ≡ Ok (layer (out-AnyValue p.value)) = plain_read (layer (out-AnyValue p.value)) message (layer_plain (out-AnyValue p.value) holds.scalar) written room in
    shows (out-AnyValue p.value) r holds.scalar (h (layer (out-AnyValue p.value)) read)

-- ---- messages in fields

messages_by : (n k : ℕ) (s : List ℕ) (r : List (List ℕ)) (a b : Bool) → a ≡ (k == n) → b ≡ nat_lt n k → n < k → cond a (s ∷ r) (cond b [] r) ≡ []
messages_by n k s r true b e f h = absurd (grind (arith, nat_tests))
messages_by n k s r false true e f h = refl
messages_by n k s r false false e f h = absurd (grind (arith, nat_tests))

no-more : (n k : ℕ) (fs gs : List Field) → n < k → OfNumber k fs → messages n gs ≡ [] → messages n (fs ++ gs) ≡ []
no-more n k [] gs h of rest = rest
no-more n k (f ∷ fs) gs h of rest =
    let e : f.number ≡ k = of.0 in
    messages_by n f.number (bytes_in (Some f.value)) (messages n (fs ++ gs)) (f.number == n) (nat_lt n f.number) refl refl (omega (arith, h, e))

none_above : (n low : ℕ) (gs : List Group) → n ≤ low → Rise low gs → messages n (joined gs) ≡ []
none_above n low [] h rise = refl
none_above n low (g ∷ gs) h rise = no-more n g.0 g.1 (joined gs) (omega (arith, h, rise.0)) rise.1 (none_above n g.0 gs (omega (arith, h, rise.0)) rise.2)

passed_by : (n k : ℕ) (s : List ℕ) (r : List (List ℕ)) (a b : Bool) → a ≡ (k == n) → b ≡ nat_lt n k → k < n → cond a (s ∷ r) (cond b [] r) ≡ r
passed_by n k s r true b e f h = absurd (grind (arith, nat_tests))
passed_by n k s r false true e f h = absurd (grind (arith, nat_tests))
passed_by n k s r false false e f h = refl

passed : (n k : ℕ) (fs gs : List Field) → k < n → OfNumber k fs → messages n (fs ++ gs) ≡ messages n gs
passed n k [] gs h of = refl
passed n k (f ∷ fs) gs h of =
    let e : f.number ≡ k = of.0 in
    passed_by n f.number (bytes_in (Some f.value)) (messages n (fs ++ gs)) (f.number == n) (nat_lt n f.number) refl refl (omega (arith, h, e))
    ∙ passed n k fs gs h of.1

taken_by : (n : ℕ) (s : List ℕ) (r q : List (List ℕ)) (a : Bool) → a ≡ (n == n) → cond a (s ∷ r) q ≡ s ∷ r
taken_by n s r q true e = refl
taken_by n s r q false e = absurd (grind (arith, nat_tests))

-- fields of the number itself
here : (n : ℕ) (fs gs : List Field) → OfNumber n fs → messages n gs ≡ [] → messages n (fs ++ gs) ≡ messages n fs
here n [] gs of rest = rest
here n (f ∷ fs) gs of rest =
    let s : List ℕ = bytes_in (Some f.value) in
    let P : ℕ → Type 0 = λ k. cond (k == n) (s ∷ messages n (fs ++ gs)) (cond (nat_lt n k) [] (messages n (fs ++ gs))) ≡ cond (k == n) (s ∷ messages n fs) (cond (nat_lt n k) [] (messages n fs)) in
    let r : List (List ℕ) = messages n (fs ++ gs) in
    let q : List (List ℕ) = messages n fs in
    subst P (sym of.0)
    (taken_by n s r (cond (nat_lt n n) [] r) (n == n) refl ∙ ap (λ t. s ∷ t) (here n fs gs of.1 rest) ∙ sym (taken_by n s q (cond (nat_lt n n) [] q) (n == n) refl))

by_order : (n k : ℕ) (fs : List Field) (gs : List Group) (a b : Bool) → a ≡ (k == n) → b ≡ nat_lt n k → OfNumber k fs → Rise k gs → messages n (joined gs) ≡ messages n (group n gs)
    → messages n (fs ++ joined gs) ≡ messages n (cond a fs (group n gs))
by_order n k fs gs true b e f of rise more =
    let same : k ≡ n = grind (arith, nat_tests) in
    let P : ℕ → Type 0 = λ m. OfNumber m fs in
    here n fs (joined gs) (subst P same of) (none_above n k gs (omega (arith, same)) rise)
by_order n k fs gs false true e f of rise more =
    let h : n < k = grind (arith, nat_tests) in
    no-more n k fs (joined gs) h of (none_above n k gs (omega (arith, h)) rise) ∙ sym (none_above n k gs (omega (arith, h)) rise) ∙ more
by_order n k fs gs false false e f of rise more =
    let h : k < n = grind (arith, nat_tests) in
    passed n k fs (joined gs) h of ∙ more

pub messages_found : (n low : ℕ) (gs : List Group) → Rise low gs → messages n (joined gs) ≡ messages n (group n gs)
messages_found n low [] rise = refl
messages_found n low (g ∷ gs) rise = by_order n g.0 g.1 gs (g.0 == n) (nat_lt n g.0) refl refl rise.1 rise.2 (messages_found n g.0 gs rise.2)

pub messages_repeated : (n : ℕ) (ms : List (List Field)) → messages n (repeated n ms) ≡ map message_bytes ms
messages_repeated n [] = refl
messages_repeated n (m ∷ ms) =
    let r : List (List ℕ) = messages n (repeated n ms) in
    taken_by n (message_bytes m) r (cond (nat_lt n n) [] r) (n == n) refl ∙ ap (λ t. message_bytes m ∷ t) (messages_repeated n ms)

pub span_messages : (s : Span) → messages 9 (span_fields s) ≡ map message_bytes (map pair_fields s.attributes)
span_messages s = ap (messages 9) (span_joined s) ∙ messages_found 9 0 (span_groups s) (span_rise s) ∙ messages_repeated 9 (map pair_fields s.attributes)

-- ---- pairs in messages

room_left : (fs gs : List Field) → HasRoom (fs ++ gs) → HasRoom fs
room_left fs gs h =
    let e : length (message_bytes (fs ++ gs)) ≡ length (message_bytes fs) + length (message_bytes gs) = ap length (append-fields fs gs) ∙ length-append (message_bytes fs) (message_bytes gs) in
    omega (arith, h, e)

room_right : (fs gs : List Field) → HasRoom (fs ++ gs) → HasRoom gs
room_right fs gs h =
    let e : length (message_bytes (fs ++ gs)) ≡ length (message_bytes fs) + length (message_bytes gs) = ap length (append-fields fs gs) ∙ length-append (message_bytes fs) (message_bytes gs) in
    omega (arith, h, e)

-- the bytes of a message have room where its field has
inner_room : (n : ℕ) (m fs : List Field) → HasRoom (message_in n m ∷ fs) → HasRoom m
unfolding message_bytes
inner_room n m fs h =
    let s : List ℕ = message_bytes m in
    let e : length (message_bytes (message_in n m ∷ fs)) ≡ (length (tag_bytes n 2) + (length (number_bytes (length s)) + length s)) + length (message_bytes fs)
    = length-append (field_bytes (message_in n m)) (message_bytes fs) ∙ ap (λ k. k + length (message_bytes fs)) (length-append (tag_bytes n 2) (number_bytes (length s) ++ s) ∙ ap (λ k. length (tag_bytes n 2) + k) (length-append (number_bytes (length s)) s)) in
    omega (arith, h, e)

tail_room : (f : Field) (fs : List Field) → HasRoom (f ∷ fs) → HasRoom fs
tail_room f fs h = room_right (f ∷ []) fs h

pair_again : (p : KeyValue) → PairFits most_levels p → PairHolds p → HasRoom (pair_fields p) → pair_read (message_bytes (pair_fields p)) ≡ p
unfolding pair_read
pair_again p fits holds room = ap (λ r. unwrap_or (result_ok r) no_pair) (holds.back.again most_levels (pair_nests most_levels p fits) room)

is_pair : (p : KeyValue) → PairFits most_levels p → PairHolds p → HasRoom (pair_fields p) → IsPair (message_bytes (pair_fields p))
is_pair p fits holds room =
    let e : p ≡ pair_read (message_bytes (pair_fields p)) = sym (pair_again p fits holds room) in
    record { holds = subst PairHolds e holds; written = ap (λ q. message_bytes (pair_fields q)) e }

are_pairs : (ps : List KeyValue) → AllByRecursion (PairFits most_levels) ps → AllByRecursion PairHolds ps → HasRoom (repeated 9 (map pair_fields ps)) → AllByRecursion IsPair (map message_bytes (map pair_fields ps))
are_pairs [] fits holds room = tt
are_pairs (p ∷ ps) fits holds room =
    (is_pair p fits.0 holds.0 (inner_room 9 (pair_fields p) (repeated 9 (map pair_fields ps)) room), are_pairs ps fits.1 holds.1 (tail_room (message_in 9 (pair_fields p)) (repeated 9 (map pair_fields ps)) room))

pairs_again : (ps : List KeyValue) → AllByRecursion (PairFits most_levels) ps → AllByRecursion PairHolds ps → HasRoom (repeated 9 (map pair_fields ps)) → map pair_read (map message_bytes (map pair_fields ps)) ≡ ps
pairs_again [] fits holds room = refl
pairs_again (p ∷ ps) fits holds room =
    ap (λ q. q ∷ map pair_read (map message_bytes (map pair_fields ps))) (pair_again p fits.0 holds.0 (inner_room 9 (pair_fields p) (repeated 9 (map pair_fields ps)) room))
    ∙ ap (λ qs. p ∷ qs) (pairs_again ps fits.1 holds.1 (tail_room (message_in 9 (pair_fields p)) (repeated 9 (map pair_fields ps)) room))

group_room_by : (b : Bool) (fs gs : List Field) → HasRoom fs → HasRoom gs → HasRoom (cond b fs gs)
group_room_by true fs gs h g = h
group_room_by false fs gs h g = g

group_room : (n : ℕ) (gs : List Group) → HasRoom (joined gs) → HasRoom (group n gs)
group_room n [] h = h
group_room n (g ∷ gs) h = group_room_by (g.0 == n) g.1 (group n gs) (room_left g.1 (joined gs) h) (group_room n gs (room_right g.1 (joined gs) h))

attributes_room : (s : Span) → HasRoom (span_fields s) → HasRoom (attributes 9 s.attributes)
attributes_room s h = group_room 9 (span_groups s) (subst HasRoom (span_joined s) h)

-- ---- what is left

read_is : (sent : List ℕ) (fs : List Field) → fields_of sent ≡ Ok fs → fields_read sent ≡ fs
unfolding fields_read
read_is sent fs e = ap (λ r. unwrap_or (result_ok r) []) e

pub start_pairs : (s : Span) (sent : List ℕ) → HasBlock s → SpanHolds s → fields_of sent ≡ Ok (span_fields s) → HasRoom (span_fields s) → ArePairs sent
start_pairs s sent fits holds e room =
    let same : span_fields s ≡ fields_read sent = sym (read_is sent (span_fields s) e) in
    let P : List Field → Type 0 = λ fs. fields_of sent ≡ Ok fs in
    let Q : List Field → Type 0 = λ fs. AllByRecursion IsPair (messages 9 fs) in
    record {
      read = subst P same e;
      pairs = subst Q same (subst (AllByRecursion IsPair) (sym (span_messages s)) (are_pairs s.attributes fits.parts.attributes holds.parts.attributes (attributes_room s room)));
    }

pub start_view : (s : Span) (sent : List ℕ) → HasBlock s → SpanHolds s → fields_of sent ≡ Ok (span_fields s) → HasRoom (span_fields s) → pairs_left sent ≡ s.attributes
unfolding pairs_left
start_view s sent fits holds e room =
    ap (λ fs. map pair_read (messages 9 fs)) (read_is sent (span_fields s) e) ∙ ap (map pair_read) (span_messages s)
    ∙ pairs_again s.attributes fits.parts.attributes holds.parts.attributes (attributes_room s room)

abbrev Taken : (old new message : List ℕ) → Type 0
Taken old new message = (gs : List Field) × (fields_of new ≡ Ok gs) × (messages 9 (fields_read old) ≡ message ∷ messages 9 gs)

pub taken_pairs : (old new message : List ℕ) → ArePairs old → Taken old new message → IsPair message × ArePairs new
taken_pairs old new message h t =
    let all : AllByRecursion IsPair (message ∷ messages 9 t.0) = subst (AllByRecursion IsPair) t.2 h.pairs in
    let same : t.0 ≡ fields_read new = sym (read_is new t.0 t.1) in
    let P : List Field → Type 0 = λ fs. fields_of new ≡ Ok fs in
    let Q : List Field → Type 0 = λ fs. AllByRecursion IsPair (messages 9 fs) in
    (all.0, record { read = subst P same t.1; pairs = subst Q same all.1 })

taken_view : (old new message : List ℕ) → Taken old new message → pairs_left old ≡ pair_read message ∷ pairs_left new
unfolding pairs_left
taken_view old new message t =
    ap (map pair_read) t.2 ∙ ap (λ fs. pair_read message ∷ map pair_read (messages 9 fs)) (sym (read_is new t.0 t.1))

pub shows_some : (old new message : List ℕ) (a : Attribute) → ArePairs old → Taken old new message → length message < 2 ^ 64 → ((p : KeyValue) → fields_of message ≡ Ok (pair_fields p) → PairHolds p → ShowsPair p a)
    → ShowsNext (pairs_left old) (pairs_left new) (Some a)
shows_some old new message a h t room shown =
    let one : IsPair message = (taken_pairs old new message h t).0 in
    let p : KeyValue = pair_read message in
    let read : fields_of message ≡ Ok (pair_fields p) = plain_read (pair_fields p) message (pair_plain p) one.written room in
    let P : List KeyValue → Type 0 = λ qs. ShowsNext qs (pairs_left new) (Some a) in
    subst P (sym (taken_view old new message t)) (shown p read one.holds, refl)

-- behind the last
no_fields : fields_of [] ≡ Ok []
unfolding fields
no_fields = refl

pub none_pairs : (new : List ℕ) → new ≡ [] → ArePairs new
none_pairs new e =
    let read : fields_read [] ≡ [] = read_is [] [] no_fields in
    let P : List Field → Type 0 = λ fs. fields_of [] ≡ Ok fs in
    let Q : List Field → Type 0 = λ fs. AllByRecursion IsPair (messages 9 fs) in
    subst ArePairs (sym e) (record { read = subst P (sym read) no_fields; pairs = subst Q (sym read) tt })

pub shows_none : (old new : List ℕ) → messages 9 (fields_read old) ≡ [] → new ≡ [] → ShowsNext (pairs_left old) (pairs_left new) None
unfolding pairs_left
shows_none old new e end =
    let P : List KeyValue → Type 0 = λ qs. ShowsNext qs (map pair_read (messages 9 (fields_read new))) None in
    subst P (sym (ap (map pair_read) e)) (ap (λ t. map pair_read (messages 9 (fields_read t))) end ∙ ap (λ fs. map pair_read (messages 9 fs)) (read_is [] [] no_fields))
