-- What stands in the fields of messages.
-- For values.rt, parts.rt and span.rt.
use Rattle.std.proofs.Common.{◌≡◌, ℕ, ◌<◌, ◌^◌, List, [], ◌∷◌, ◌++◌, length, map, Ok, unwrap_or, refl, sym, ◌∙◌, ap, subst, arith, lit<, append_assoc, append-nil}
use Rattle.std.specs.Prelude.{◌==◌}
use Rattle.std.specs.List.{AllByRecursion}
use Rattle.protobuf_wire.specs.Wire.{Field, varint, fixed64, fixed32, fields_of}
use Rattle.protobuf_writer.specs.Writing.{message_bytes}
use Rattle.protobuf_writer.specs.Defaults.{field, text_field, number_field, fixed64_field, fixed32_field, repeated}
use Rattle.otlp_types.specs.declared.span.Event.{Event}
use Rattle.otlp_types.specs.declared.span.Link.{Link}
use Rattle.otlp_types.specs.declared.span.Span.{Span}
use Rattle.otlp_protobuf.specs.Values.{most_levels}
use Rattle.otlp_protobuf_encode.specs.Writing.{pair_fields, hex_field, hex_of, attributes, event_fields, link_fields, span_fields}
use Rattle.span_block.specs.Pairs.{fields_read}
use Rattle.span_block.specs.Walk.{first_field, messages}
use Rattle.span_block.specs.Typed.{EventIsTyped, LinkIsTyped}
use Rattle.span_block.proofs.Fields.{IsPlain, ArePlain, plain_read, unless, text-all, repeated-all, both-all, Group, joined, group, Rise, found, span_groups, span_joined, span_rise}
use Rattle.span_block.proofs.PairsLeft.{messages_found, messages_repeated}
use Rattle.block_json.specs.Messages.{AreIn}
use Rattle.block_json.proofs.Lists.{read_is}

-- ---- messages in fields that are read

pub in_fields : {B : Type 0} (wire : B → List Field) (P : B → Type 0) (number : ℕ) (message : List ℕ) (all : List Field) (xs : List B)
    → fields_of message ≡ Ok all → messages number all ≡ map message_bytes (map wire xs) → AllByRecursion P xs → AreIn wire P number message xs
in_fields wire P number message all xs read written holds =
    let same : fields_read message ≡ all = read_is message all read in
    let Q : List Field → Type 0 = λ fs. fields_of message ≡ Ok fs in
    record { read = subst Q (sym same) read; written = ap (messages number) same ∙ written; holds = holds }

-- a message of messages
pub in_list : {B : Type 0} (wire : B → List Field) (P : B → Type 0) (number : ℕ) (message : List ℕ) (xs : List B)
    → 0 < number → number < 2 ^ 29 → message ≡ message_bytes (repeated number (map wire xs)) → length message < 2 ^ 64 → AllByRecursion P xs → AreIn wire P number message xs
in_list wire P number message xs low high e room holds =
    in_fields wire P number message (repeated number (map wire xs)) xs
    (plain_read (repeated number (map wire xs)) message (repeated-all IsPlain number (map wire xs) (λ t. (low, high, tt))) e room)
    (messages_repeated number (map wire xs)) holds

count_small : (k : ℕ) → k < 2 ^ 32 → k < 2 ^ 64
count_small k h = omega (arith, h)

abbrev Is : ℕ → Field → Type 0
Is n f = f.number ≡ n

-- ---- an event

abbrev pub event_groups : Event → List Group
event_groups e =
    (1, fixed64_field 1 e.time_unix_nano) ∷ (2, text_field 2 e.name) ∷ (3, attributes 3 e.attributes) ∷ (4, number_field 4 e.dropped_attributes_count) ∷ []

four : (a b c d : List Field) → a ++ b ++ c ++ d ≡ joined ((1, a) ∷ (2, b) ∷ (3, c) ∷ (4, d) ∷ [])
four a b c d = simp (append_assoc, append-nil) refl

event_joined : (e : Event) → event_fields e ≡ joined (event_groups e)
event_joined e = four (fixed64_field 1 e.time_unix_nano) (text_field 2 e.name) (attributes 3 e.attributes) (number_field 4 e.dropped_attributes_count)

event_rise : (e : Event) → Rise 0 (event_groups e)
event_rise e = (
  lit< tt,
  unless (Is 1) (e.time_unix_nano == 0) (field 1 (fixed64 e.time_unix_nano)) refl,
  (
    lit< tt,
    text-all (Is 2) 2 e.name (λ t. refl),
    (
      lit< tt,
      repeated-all (Is 3) 3 (map pair_fields e.attributes) (λ t. refl),
      (lit< tt, unless (Is 4) (e.dropped_attributes_count == 0) (field 4 (varint e.dropped_attributes_count)) refl, tt),
    ),
  ),
)

pub event_found : (n : ℕ) (e : Event) → first_field n (event_fields e) ≡ first_field n (group n (event_groups e))
event_found n e = ap (first_field n) (event_joined e) ∙ found n 0 (event_groups e) (event_rise e)

pub event_messages : (e : Event) → messages 3 (event_fields e) ≡ map message_bytes (map pair_fields e.attributes)
event_messages e = ap (messages 3) (event_joined e) ∙ messages_found 3 0 (event_groups e) (event_rise e) ∙ messages_repeated 3 (map pair_fields e.attributes)

event_plain : (e : Event) → EventIsTyped most_levels e → ArePlain (event_fields e)
event_plain e h =
    both-all IsPlain (fixed64_field 1 e.time_unix_nano ++ text_field 2 e.name ++ attributes 3 e.attributes) (number_field 4 e.dropped_attributes_count)
    (both-all IsPlain (fixed64_field 1 e.time_unix_nano ++ text_field 2 e.name) (attributes 3 e.attributes)
    (both-all IsPlain (fixed64_field 1 e.time_unix_nano) (text_field 2 e.name)
    (unless IsPlain (e.time_unix_nano == 0) (field 1 (fixed64 e.time_unix_nano)) (lit< tt, lit< tt, h.time))
    (text-all IsPlain 2 e.name (λ t. (lit< tt, lit< tt, tt))))
    (repeated-all IsPlain 3 (map pair_fields e.attributes) (λ t. (lit< tt, lit< tt, tt))))
    (unless IsPlain (e.dropped_attributes_count == 0) (field 4 (varint e.dropped_attributes_count)) (lit< tt, lit< tt, count_small e.dropped_attributes_count h.dropped_attributes))

pub event_read : (e : Event) (message : List ℕ) → EventIsTyped most_levels e → message ≡ message_bytes (event_fields e) → length message < 2 ^ 64 → fields_of message ≡ Ok (event_fields e)
event_read e message h is room = plain_read (event_fields e) message (event_plain e h) is room

-- ---- a link

abbrev pub link_groups : Link → List Group
link_groups l =
    (1, hex_field 1 l.trace_id) ∷ (2, hex_field 2 l.span_id) ∷ (3, text_field 3 l.trace_state) ∷ (4, attributes 4 l.attributes)
    ∷ (5, number_field 5 l.dropped_attributes_count) ∷ (6, fixed32_field 6 l.flags) ∷ []

six : (a b c d e f : List Field) → a ++ b ++ c ++ d ++ e ++ f ≡ joined ((1, a) ∷ (2, b) ∷ (3, c) ∷ (4, d) ∷ (5, e) ∷ (6, f) ∷ [])
six a b c d e f = simp (append_assoc, append-nil) refl

link_joined : (l : Link) → link_fields l ≡ joined (link_groups l)
link_joined l =
    six (hex_field 1 l.trace_id) (hex_field 2 l.span_id) (text_field 3 l.trace_state) (attributes 4 l.attributes) (number_field 5 l.dropped_attributes_count) (fixed32_field 6 l.flags)

link_rise : (l : Link) → Rise 0 (link_groups l)
link_rise l = (
  lit< tt,
  text-all (Is 1) 1 (unwrap_or (hex_of l.trace_id) []) (λ t. refl),
  (
    lit< tt,
    text-all (Is 2) 2 (unwrap_or (hex_of l.span_id) []) (λ t. refl),
    (
      lit< tt,
      text-all (Is 3) 3 l.trace_state (λ t. refl),
      (
        lit< tt,
        repeated-all (Is 4) 4 (map pair_fields l.attributes) (λ t. refl),
        (
          lit< tt,
          unless (Is 5) (l.dropped_attributes_count == 0) (field 5 (varint l.dropped_attributes_count)) refl,
          (lit< tt, unless (Is 6) (l.flags == 0) (field 6 (fixed32 l.flags)) refl, tt),
        ),
      ),
    ),
  ),
)

pub link_found : (n : ℕ) (l : Link) → first_field n (link_fields l) ≡ first_field n (group n (link_groups l))
link_found n l = ap (first_field n) (link_joined l) ∙ found n 0 (link_groups l) (link_rise l)

pub link_messages : (l : Link) → messages 4 (link_fields l) ≡ map message_bytes (map pair_fields l.attributes)
link_messages l = ap (messages 4) (link_joined l) ∙ messages_found 4 0 (link_groups l) (link_rise l) ∙ messages_repeated 4 (map pair_fields l.attributes)

abbrev GroupsArePlain : List Group → Type 0
GroupsArePlain [] = Unit {0}
GroupsArePlain (g ∷ gs) = ArePlain g.1 × GroupsArePlain gs

joined_plain : (gs : List Group) → GroupsArePlain gs → ArePlain (joined gs)
joined_plain [] h = tt
joined_plain (g ∷ gs) h = both-all IsPlain g.1 (joined gs) h.0 (joined_plain gs h.1)

link_plain : (l : Link) → LinkIsTyped most_levels l → ArePlain (link_fields l)
link_plain l h =
    subst ArePlain (sym (link_joined l)) (joined_plain (link_groups l) (
      text-all IsPlain 1 (unwrap_or (hex_of l.trace_id) []) (λ t. (lit< tt, lit< tt, tt)),
      (
        text-all IsPlain 2 (unwrap_or (hex_of l.span_id) []) (λ t. (lit< tt, lit< tt, tt)),
        (
          text-all IsPlain 3 l.trace_state (λ t. (lit< tt, lit< tt, tt)),
          (
            repeated-all IsPlain 4 (map pair_fields l.attributes) (λ t. (lit< tt, lit< tt, tt)),
            (
              unless IsPlain (l.dropped_attributes_count == 0) (field 5 (varint l.dropped_attributes_count)) (lit< tt, lit< tt, count_small l.dropped_attributes_count h.dropped_attributes),
              (unless IsPlain (l.flags == 0) (field 6 (fixed32 l.flags)) (lit< tt, lit< tt, h.flags), tt),
            ),
          ),
        ),
      ),
    ))

pub link_read : (l : Link) (message : List ℕ) → LinkIsTyped most_levels l → message ≡ message_bytes (link_fields l) → length message < 2 ^ 64 → fields_of message ≡ Ok (link_fields l)
link_read l message h is room = plain_read (link_fields l) message (link_plain l h) is room

-- ---- a span

pub span_events : (s : Span) → messages 11 (span_fields s) ≡ map message_bytes (map event_fields s.events)
span_events s = ap (messages 11) (span_joined s) ∙ messages_found 11 0 (span_groups s) (span_rise s) ∙ messages_repeated 11 (map event_fields s.events)

pub span_links : (s : Span) → messages 13 (span_fields s) ≡ map message_bytes (map link_fields s.links)
span_links s = ap (messages 13) (span_joined s) ∙ messages_found 13 0 (span_groups s) (span_rise s) ∙ messages_repeated 13 (map link_fields s.links)
