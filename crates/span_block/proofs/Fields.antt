-- What is found in the fields of a span, in order of their numbers.
-- For the walks.
use Rattle.std.proofs.Common.{◌≡◌, ℕ, ◌+◌, ◌<◌, ◌≤◌, ◌^◌, List, [], ◌∷◌, ◌++◌, length, map, Bool, true, false, cond, Option, Some, None, option_map, option_and_then, unwrap_or, Ok, refl, sym, ◌∙◌, ap, subst, arith, lit<, append_assoc, append-nil, length-append}
use Rattle.std.specs.Prelude.{◌==◌, nat_lt, FitsSigned}
use Rattle.std.specs.Int.{w32}
use Rattle.std.specs.List.{AllByRecursion}
use Rattle.std.proofs.lemmas.Bool.Decides.{nat_tests}
use Rattle.protobuf_wire.specs.Wire.{Field, Value, varint, fixed64, bytes, fixed32, fields_of}
use Rattle.protobuf_writer.specs.Writing.{number_bytes, tag_bytes, field_bytes, message_bytes}
use Rattle.protobuf_writer.specs.Defaults.{field, text_field, number_field, fixed64_field, fixed32_field, message_field, repeated}
use Rattle.protobuf_writer.specs.Laws.{ValueFits, FieldsFit}
use Rattle.protobuf_writer.proofs.Reading.{fields_are_read}
use Rattle.otlp_types.specs.declared.span.Ids.{Ids}
use Rattle.otlp_types.specs.declared.span.Status.{Status}
use Rattle.otlp_types.specs.declared.span.Span.{Span}
use Rattle.otlp_protobuf_encode.specs.Writing.{int_bits, pair_fields, id_field, trace_field, span_field, parent_field, enum_field, attributes, event_fields, link_fields, status_fields, span_fields}
use Rattle.otlp_protobuf_encode.specs.ReadsBack.{HasRoom}
use Rattle.otlp_protobuf_encode.proofs.NumbersBack.{bits32}
use Rattle.span_block.specs.Holds.{SpanHolds}
use Rattle.span_block.specs.Walk.{first_field, number_in, fixed64_in, fixed32_in, bytes_in}

-- ---- fields that have room

-- but for what is counted, which has room where the message has
abbrev ValueIsPlain : Value → Type 0
ValueIsPlain (varint k) = k < 2 ^ 64
ValueIsPlain (fixed64 k) = k < 2 ^ 64
ValueIsPlain (bytes s) = Unit {0}
ValueIsPlain (fixed32 k) = k < 2 ^ 32

abbrev pub IsPlain : Field → Type 0
IsPlain f = (0 < f.number) × (f.number < 2 ^ 29) × ValueIsPlain f.value

abbrev pub ArePlain : List Field → Type 0
ArePlain = AllByRecursion IsPlain

value_fits : (n : ℕ) (v : Value) → ValueIsPlain v → length (field_bytes (field n v)) < 2 ^ 64 → ValueFits v
value_fits n (varint k) h room = h
value_fits n (fixed64 k) h room = h
value_fits n (bytes s) h room =
    let whole : length (field_bytes (field n (bytes s))) ≡ length (tag_bytes n 2) + (length (number_bytes (length s)) + length s)
    = length-append (tag_bytes n 2) (number_bytes (length s) ++ s) ∙ ap (λ k. length (tag_bytes n 2) + k) (length-append (number_bytes (length s)) s) in
    omega (arith, room, whole)
value_fits n (fixed32 k) h room = h

fields_fit : (fs : List Field) → ArePlain fs → HasRoom fs → FieldsFit fs
unfolding message_bytes
fields_fit [] h room = tt
fields_fit (f ∷ fs) h room =
    let whole : length (message_bytes (f ∷ fs)) ≡ length (field_bytes f) + length (message_bytes fs) = length-append (field_bytes f) (message_bytes fs) in
    ((h.0.0, h.0.1, value_fits f.number f.value h.0.2 (omega (arith, room, whole))), fields_fit fs h.1 (omega (arith, room, whole)))

pub plain_read : (fs : List Field) (message : List ℕ) → ArePlain fs → message ≡ message_bytes fs → length message < 2 ^ 64 → fields_of message ≡ Ok fs
plain_read fs message h e room =
    let P : List ℕ → Type 0 = λ s. length s < 2 ^ 64 in
    ap fields_of e ∙ fields_are_read fs (fields_fit fs h (subst P e room))

-- ---- groups of fields: each has a number, and these rise

abbrev pub Group : Type 0
Group = ℕ × List Field

abbrev pub joined : List Group → List Field
joined [] = []
joined (g ∷ gs) = g.1 ++ joined gs

abbrev pub group : ℕ → List Group → List Field
group n [] = []
group n (g ∷ gs) = cond (g.0 == n) g.1 (group n gs)

abbrev pub OfNumber : ℕ → List Field → Type 0
OfNumber n = AllByRecursion (λ f. f.number ≡ n)

abbrev pub Rise : ℕ → List Group → Type 0
Rise low [] = Unit {0}
Rise low (g ∷ gs) = (low < g.0) × OfNumber g.0 g.1 × Rise g.0 gs

-- fields of a greater number end the search
above_by : (n k : ℕ) (v : Value) (r : Option Value) (a b : Bool) → a ≡ (k == n) → b ≡ nat_lt n k → n < k → cond a (Some v) (cond b None r) ≡ None
above_by n k v r true b e f h = absurd (grind (arith, nat_tests))
above_by n k v r false true e f h = refl
above_by n k v r false false e f h = absurd (grind (arith, nat_tests))

above-one : (n k : ℕ) (fs gs : List Field) → n < k → OfNumber k fs → first_field n gs ≡ None → first_field n (fs ++ gs) ≡ None
above-one n k [] gs h of rest = rest
above-one n k (f ∷ fs) gs h of rest =
    let e : f.number ≡ k = of.0 in
    above_by n f.number f.value (first_field n (fs ++ gs)) (f.number == n) (nat_lt n f.number) refl refl (omega (arith, h, e))

none_above : (n low : ℕ) (gs : List Group) → n ≤ low → Rise low gs → first_field n (joined gs) ≡ None
none_above n low [] h rise = refl
none_above n low (g ∷ gs) h rise = above-one n g.0 g.1 (joined gs) (omega (arith, h, rise.0)) rise.1 (none_above n g.0 gs (omega (arith, h, rise.0)) rise.2)

-- fields of a lesser number are passed
below_by : (n k : ℕ) (v : Value) (r : Option Value) (a b : Bool) → a ≡ (k == n) → b ≡ nat_lt n k → k < n → cond a (Some v) (cond b None r) ≡ r
below_by n k v r true b e f h = absurd (grind (arith, nat_tests))
below_by n k v r false true e f h = absurd (grind (arith, nat_tests))
below_by n k v r false false e f h = refl

below-one : (n k : ℕ) (fs gs : List Field) → k < n → OfNumber k fs → first_field n (fs ++ gs) ≡ first_field n gs
below-one n k [] gs h of = refl
below-one n k (f ∷ fs) gs h of =
    let e : f.number ≡ k = of.0 in
    below_by n f.number f.value (first_field n (fs ++ gs)) (f.number == n) (nat_lt n f.number) refl refl (omega (arith, h, e))
    ∙ below-one n k fs gs h of.1

-- of the number itself the first stands
same_by : (n : ℕ) (v : Value) (r q : Option Value) (a : Bool) → a ≡ (n == n) → cond a (Some v) r ≡ cond a (Some v) q
same_by n v r q true e = refl
same_by n v r q false e = absurd (grind (arith, nat_tests))

here-one : (n : ℕ) (fs gs : List Field) → OfNumber n fs → first_field n gs ≡ None → first_field n (fs ++ gs) ≡ first_field n fs
here-one n [] gs of rest = rest
here-one n (f ∷ fs) gs of rest =
    let P : ℕ → Type 0 = λ k. cond (k == n) (Some f.value) (cond (nat_lt n k) None (first_field n (fs ++ gs))) ≡ cond (k == n) (Some f.value) (cond (nat_lt n k) None (first_field n fs)) in
    subst P (sym of.0) (same_by n f.value (cond (nat_lt n n) None (first_field n (fs ++ gs))) (cond (nat_lt n n) None (first_field n fs)) (n == n) refl)

by_order : (n low k : ℕ) (fs : List Field) (gs : List Group) (a b : Bool) → a ≡ (k == n) → b ≡ nat_lt n k → OfNumber k fs → Rise k gs → first_field n (joined gs) ≡ first_field n (group n gs)
    → first_field n (fs ++ joined gs) ≡ first_field n (cond a fs (group n gs))
by_order n low k fs gs true b e f of rise more =
    let same : k ≡ n = grind (arith, nat_tests) in
    let P : ℕ → Type 0 = λ m. OfNumber m fs in
    here-one n fs (joined gs) (subst P same of) (none_above n k gs (omega (arith, same)) rise)
by_order n low k fs gs false true e f of rise more =
    let h : n < k = grind (arith, nat_tests) in
    above-one n k fs (joined gs) h of (none_above n k gs (omega (arith, h)) rise) ∙ sym (none_above n k gs (omega (arith, h)) rise) ∙ more
by_order n low k fs gs false false e f of rise more =
    let h : k < n = grind (arith, nat_tests) in
    below-one n k fs (joined gs) h of ∙ more

pub found : (n low : ℕ) (gs : List Group) → Rise low gs → first_field n (joined gs) ≡ first_field n (group n gs)
found n low [] rise = refl
found n low (g ∷ gs) rise = by_order n low g.0 g.1 gs (g.0 == n) (nat_lt n g.0) refl refl rise.1 rise.2 (found n g.0 gs rise.2)

-- ---- the kinds of fields

-- a field, or none
pub unless : (P : Field → Type 0) (b : Bool) (f : Field) → P f → AllByRecursion P (cond b [] (f ∷ []))
unless P true f h = tt
unless P false f h = (h, tt)

pub text-all : (P : Field → Type 0) (n : ℕ) (s : List ℕ) → ((t : List ℕ) → P (field n (bytes t))) → AllByRecursion P (text_field n s)
text-all P n [] h = tt
text-all P n (c ∷ s) h = (h (c ∷ s), tt)

id-all : (P : Field → Type 0) (n : ℕ) (o : Option (List ℕ)) → ((t : List ℕ) → P (field n (bytes t))) → AllByRecursion P (id_field n o)
id-all P n None h = tt
id-all P n (Some s) h = (h s, tt)

pub message-all : (P : Field → Type 0) (n : ℕ) (fs : List Field) → ((t : List ℕ) → P (field n (bytes t))) → AllByRecursion P (message_field n fs)
message-all P n [] h = tt
message-all P n (f ∷ fs) h = (h (message_bytes (f ∷ fs)), tt)

pub repeated-all : (P : Field → Type 0) (n : ℕ) (ms : List (List Field)) → ((t : List ℕ) → P (field n (bytes t))) → AllByRecursion P (repeated n ms)
repeated-all P n [] h = tt
repeated-all P n (m ∷ ms) h = (h (message_bytes m), repeated-all P n ms h)

pub both-all : (P : Field → Type 0) (fs gs : List Field) → AllByRecursion P fs → AllByRecursion P gs → AllByRecursion P (fs ++ gs)
both-all P [] gs h g = g
both-all P (f ∷ fs) gs h g = (h.0, both-all P fs gs h.1 g)

first-self_by : (n : ℕ) (v : Value) (r : Option Value) (a : Bool) → a ≡ (n == n) → cond a (Some v) r ≡ Some v
first-self_by n v r true e = refl
first-self_by n v r false e = absurd (grind (arith, nat_tests))

first-self : (n : ℕ) (v : Value) (fs : List Field) → first_field n (field n v ∷ fs) ≡ Some v
first-self n v fs = first-self_by n v (cond (nat_lt n n) None (first_field n fs)) (n == n) refl

pub text-found : (n : ℕ) (s : List ℕ) → bytes_in (first_field n (text_field n s)) ≡ s
text-found n [] = refl
text-found n (c ∷ s) = ap bytes_in (first-self n (bytes (c ∷ s)) [])

pub message-found : (n : ℕ) (fs : List Field) → bytes_in (first_field n (message_field n fs)) ≡ message_bytes fs
unfolding message_bytes
message-found n [] = refl
message-found n (f ∷ fs) = ap bytes_in (first-self n (bytes (message_bytes (f ∷ fs))) [])

pub number-found_by : (n k : ℕ) (b : Bool) → b ≡ (k == 0) → number_in (first_field n (cond b [] (field n (varint k) ∷ []))) ≡ k
number-found_by n k true e = grind (arith, nat_tests)
number-found_by n k false e = ap number_in (first-self n (varint k) [])

pub number-found : (n k : ℕ) → number_in (first_field n (number_field n k)) ≡ k
number-found n k = number-found_by n k (k == 0) refl

fixed64-found_by : (n k : ℕ) (b : Bool) → b ≡ (k == 0) → fixed64_in (first_field n (cond b [] (field n (fixed64 k) ∷ []))) ≡ k
fixed64-found_by n k true e = grind (arith, nat_tests)
fixed64-found_by n k false e = ap fixed64_in (first-self n (fixed64 k) [])

pub fixed64-found : (n k : ℕ) → fixed64_in (first_field n (fixed64_field n k)) ≡ k
fixed64-found n k = fixed64-found_by n k (k == 0) refl

fixed32-found_by : (n k : ℕ) (b : Bool) → b ≡ (k == 0) → fixed32_in (first_field n (cond b [] (field n (fixed32 k) ∷ []))) ≡ k
fixed32-found_by n k true e = grind (arith, nat_tests)
fixed32-found_by n k false e = ap fixed32_in (first-self n (fixed32 k) [])

pub fixed32-found : (n k : ℕ) → fixed32_in (first_field n (fixed32_field n k)) ≡ k
fixed32-found n k = fixed32-found_by n k (k == 0) refl

-- ---- the fields of a span

abbrev pub span_groups : Span → List Group
span_groups s =
    (1, trace_field s.ids) ∷ (2, span_field s.ids) ∷ (3, text_field 3 s.trace_state) ∷ (4, parent_field s.ids) ∷ (5, text_field 5 s.name)
    ∷ (6, enum_field 6 s.kind) ∷ (7, fixed64_field 7 s.start_time_unix_nano) ∷ (8, fixed64_field 8 s.end_time_unix_nano)
    ∷ (9, attributes 9 s.attributes) ∷ (10, number_field 10 s.dropped_attributes_count)
    ∷ (11, repeated 11 (map event_fields s.events)) ∷ (12, number_field 12 s.dropped_events_count)
    ∷ (13, repeated 13 (map link_fields s.links)) ∷ (14, number_field 14 s.dropped_links_count)
    ∷ (15, message_field 15 (status_fields s.status)) ∷ (16, fixed32_field 16 s.flags) ∷ []

regroup : (a b c d e f g h i j k l m n o p : List Field)
    → (((a ++ b ++ c ++ d ++ e) ++ (f ++ g ++ h)) ++ (i ++ j ++ k ++ l ++ m ++ n ++ o ++ p))
    ≡ joined ((1, a) ∷ (2, b) ∷ (3, c) ∷ (4, d) ∷ (5, e) ∷ (6, f) ∷ (7, g) ∷ (8, h) ∷ (9, i) ∷ (10, j) ∷ (11, k) ∷ (12, l) ∷ (13, m) ∷ (14, n) ∷ (15, o) ∷ (16, p) ∷ [])
regroup a b c d e f g h i j k l m n o p = simp (append_assoc, append-nil) refl

pub span_joined : (s : Span) → span_fields s ≡ joined (span_groups s)
span_joined s =
    regroup (trace_field s.ids) (span_field s.ids) (text_field 3 s.trace_state) (parent_field s.ids) (text_field 5 s.name)
    (enum_field 6 s.kind) (fixed64_field 7 s.start_time_unix_nano) (fixed64_field 8 s.end_time_unix_nano)
    (attributes 9 s.attributes) (number_field 10 s.dropped_attributes_count) (repeated 11 (map event_fields s.events)) (number_field 12 s.dropped_events_count)
    (repeated 13 (map link_fields s.links)) (number_field 14 s.dropped_links_count) (message_field 15 (status_fields s.status)) (fixed32_field 16 s.flags)

abbrev Is : ℕ → Field → Type 0
Is n f = f.number ≡ n

pub span_rise : (s : Span) → Rise 0 (span_groups s)
span_rise s = (
  lit< tt,
  id-all (Is 1) 1 (option_map (λ (ids : Ids). ids.trace) s.ids) (λ t. refl),
  (
    lit< tt,
    id-all (Is 2) 2 (option_map (λ (ids : Ids). ids.span) s.ids) (λ t. refl),
    (
      lit< tt,
      text-all (Is 3) 3 s.trace_state (λ t. refl),
      (
        lit< tt,
        id-all (Is 4) 4 (option_and_then (λ (ids : Ids). ids.parent) s.ids) (λ t. refl),
        (
          lit< tt,
          text-all (Is 5) 5 s.name (λ t. refl),
          (
            lit< tt,
            unless (Is 6) (int_bits s.kind == 0) (field 6 (varint (int_bits s.kind))) refl,
            (
              lit< tt,
              unless (Is 7) (s.start_time_unix_nano == 0) (field 7 (fixed64 s.start_time_unix_nano)) refl,
              (
                lit< tt,
                unless (Is 8) (s.end_time_unix_nano == 0) (field 8 (fixed64 s.end_time_unix_nano)) refl,
                (
                  lit< tt,
                  repeated-all (Is 9) 9 (map pair_fields s.attributes) (λ t. refl),
                  (
                    lit< tt,
                    unless (Is 10) (s.dropped_attributes_count == 0) (field 10 (varint s.dropped_attributes_count)) refl,
                    (
                      lit< tt,
                      repeated-all (Is 11) 11 (map event_fields s.events) (λ t. refl),
                      (
                        lit< tt,
                        unless (Is 12) (s.dropped_events_count == 0) (field 12 (varint s.dropped_events_count)) refl,
                        (
                          lit< tt,
                          repeated-all (Is 13) 13 (map link_fields s.links) (λ t. refl),
                          (
                            lit< tt,
                            unless (Is 14) (s.dropped_links_count == 0) (field 14 (varint s.dropped_links_count)) refl,
                            (
                              lit< tt,
                              message-all (Is 15) 15 (status_fields s.status) (λ t. refl),
                              (lit< tt, unless (Is 16) (s.flags == 0) (field 16 (fixed32 s.flags)) refl, tt),
                            ),
                          ),
                        ),
                      ),
                    ),
                  ),
                ),
              ),
            ),
          ),
        ),
      ),
    ),
  ),
)

-- in the fields of a span a number finds its group
pub span_found : (n : ℕ) (s : Span) → first_field n (span_fields s) ≡ first_field n (group n (span_groups s))
span_found n s = ap (first_field n) (span_joined s) ∙ found n 0 (span_groups s) (span_rise s)

-- each group is plain
abbrev GroupsArePlain : List Group → Type 0
GroupsArePlain [] = Unit {0}
GroupsArePlain (g ∷ gs) = ArePlain g.1 × GroupsArePlain gs

joined_plain : (gs : List Group) → GroupsArePlain gs → ArePlain (joined gs)
joined_plain [] h = tt
joined_plain (g ∷ gs) h = both-all IsPlain g.1 (joined gs) h.0 (joined_plain gs h.1)

count_small : (k : ℕ) → k < 2 ^ 32 → k < 2 ^ 64
count_small k h = omega (arith, h)

span_plain : (s : Span) → SpanHolds s → ArePlain (span_fields s)
span_plain s h =
    subst ArePlain (sym (span_joined s)) (joined_plain (span_groups s) (
      id-all IsPlain 1 (option_map (λ (ids : Ids). ids.trace) s.ids) (λ t. (lit< tt, lit< tt, tt)),
      (
        id-all IsPlain 2 (option_map (λ (ids : Ids). ids.span) s.ids) (λ t. (lit< tt, lit< tt, tt)),
        (
          text-all IsPlain 3 s.trace_state (λ t. (lit< tt, lit< tt, tt)),
          (
            id-all IsPlain 4 (option_and_then (λ (ids : Ids). ids.parent) s.ids) (λ t. (lit< tt, lit< tt, tt)),
            (
              text-all IsPlain 5 s.name (λ t. (lit< tt, lit< tt, tt)),
              (
                unless IsPlain (int_bits s.kind == 0) (field 6 (varint (int_bits s.kind))) (lit< tt, lit< tt, bits32 s.kind h.times.kind),
                (
                  unless IsPlain (s.start_time_unix_nano == 0) (field 7 (fixed64 s.start_time_unix_nano)) (lit< tt, lit< tt, h.times.start),
                  (
                    unless IsPlain (s.end_time_unix_nano == 0) (field 8 (fixed64 s.end_time_unix_nano)) (lit< tt, lit< tt, h.times.end),
                    (
                      repeated-all IsPlain 9 (map pair_fields s.attributes) (λ t. (lit< tt, lit< tt, tt)),
                      (
                        unless IsPlain (s.dropped_attributes_count == 0) (field 10 (varint s.dropped_attributes_count)) (lit< tt, lit< tt, count_small s.dropped_attributes_count h.parts.dropped_attributes),
                        (
                          repeated-all IsPlain 11 (map event_fields s.events) (λ t. (lit< tt, lit< tt, tt)),
                          (
                            unless IsPlain (s.dropped_events_count == 0) (field 12 (varint s.dropped_events_count)) (lit< tt, lit< tt, count_small s.dropped_events_count h.parts.dropped_events),
                            (
                              repeated-all IsPlain 13 (map link_fields s.links) (λ t. (lit< tt, lit< tt, tt)),
                              (
                                unless IsPlain (s.dropped_links_count == 0) (field 14 (varint s.dropped_links_count)) (lit< tt, lit< tt, count_small s.dropped_links_count h.parts.dropped_links),
                                (
                                  message-all IsPlain 15 (status_fields s.status) (λ t. (lit< tt, lit< tt, tt)),
                                  (unless IsPlain (s.flags == 0) (field 16 (fixed32 s.flags)) (lit< tt, lit< tt, h.parts.flags), tt),
                                ),
                              ),
                            ),
                          ),
                        ),
                      ),
                    ),
                  ),
                ),
              ),
            ),
          ),
        ),
      ),
    ))

-- the bytes of a block are the fields of its span
pub span_read : (s : Span) (message : List ℕ) → SpanHolds s → message ≡ message_bytes (span_fields s) → length message < 2 ^ 64 → fields_of message ≡ Ok (span_fields s)
span_read s message h e room = plain_read (span_fields s) message (span_plain s h) e room

pub id-found : (n : ℕ) (o : Option (List ℕ)) → bytes_in (first_field n (id_field n o)) ≡ unwrap_or o []
id-found n None = refl
id-found n (Some s) = ap bytes_in (first-self n (bytes s) [])

-- ---- the fields of a status

abbrev status_groups : Status → List Group
status_groups s = (2, text_field 2 s.message) ∷ (3, enum_field 3 s.code) ∷ []

status_joined : (s : Status) → status_fields s ≡ joined (status_groups s)
status_joined s = ap (λ fs. text_field 2 s.message ++ fs) (sym (append-nil (enum_field 3 s.code)))

status_rise : (s : Status) → Rise 0 (status_groups s)
status_rise s = (lit< tt, text-all (Is 2) 2 s.message (λ t. refl), (lit< tt, unless (Is 3) (int_bits s.code == 0) (field 3 (varint (int_bits s.code))) refl, tt))

pub status_found : (n : ℕ) (s : Status) → first_field n (status_fields s) ≡ first_field n (group n (status_groups s))
status_found n s = ap (first_field n) (status_joined s) ∙ found n 0 (status_groups s) (status_rise s)

pub status_read : (s : Status) (message : List ℕ) → FitsSigned w32 s.code → message ≡ message_bytes (status_fields s) → length message < 2 ^ 64 → fields_of message ≡ Ok (status_fields s)
status_read s message fits e room =
    plain_read (status_fields s) message
    (both-all IsPlain (text_field 2 s.message) (enum_field 3 s.code) (text-all IsPlain 2 s.message (λ t. (lit< tt, lit< tt, tt))) (unless IsPlain (int_bits s.code == 0) (field 3 (varint (int_bits s.code))) (lit< tt, lit< tt, bits32 s.code fits)))
    e room
