-- Tokens that are written one after the other.
-- For the clauses `fields` and `field` of what is written.
use Rattle.std.proofs.Common.{◌≡◌, ℕ, ◌+◌, ◌<◌, ◌≤◌, ◌==◌, true, false, get_or, take, length, List, [], ◌∷◌, ◌++◌, map, codes, Option, Some, refl, sym, ap, subst, ◌∙◌, append_assoc, append-nil}
use Rattle.std.proofs.lemmas.List.{take_all, take_more, map-append}
use Rattle.json.specs.Token.{Token, key, begin_object, end_object, begin_array, end_array}
use Rattle.json.specs.Tree.{items_tokens}
use Rattle.json.specs.Written.{Written}
use Rattle.serde_json.specs.Data.{Data, Members, object}
use Rattle.serde_json.specs.View.{items_of}
use Rattle.otlp_json.specs.Outline.{items_outline}
use Rattle.otlp_types.specs.declared.span.Span.{Span}
use Rattle.otlp_json.specs.Tokens.{Adds, AddsField, AddsObject, value_tokens, field_tokens, objects_tokens, span_counts, span_head, span_tail}
use Rattle.otlp_json.specs.Writing.{fields, text_field, u32_field, u64_field, enum_field, message_field, list_field, attributes_field, trace_field, span_field, parent_field, status_fields, event_fields, link_fields, span_fields, span_table, Table}
use Rattle.otlp_json.proofs.Table.{table_tokens, ascends, object-tokens}

-- nothing was written
pub nothing : (a : Written) → Adds a a []
nothing a = (refl, sym (append-nil a.tokens))

-- these, and then those
pub then : (a b c : Written) (xs ys : List Token) → Adds a b xs → Adds b c ys → Adds a c (xs ++ ys)
then a b c xs ys p q = (q.0 ∙ p.0, q.1 ∙ ap (λ (ts : List Token). ts ++ ys) p.1 ∙ append_assoc a.tokens xs ys)

-- an object's tokens are written
pub object-added : (a b : Written) (fs : Table) → ascends fs ≡ true → Adds a b (begin_object ∷ table_tokens fs (end_object ∷ [])) → AddsObject a b (fields fs)
object-added a b fs up h = rw (object-tokens fs up) h

-- an object of one member
pub one-added : (k : List ℕ) (d : Data) (a b c e f : Written) → Adds a b (begin_object ∷ []) → Adds b c (key k ∷ []) → Adds c e (value_tokens d) → Adds e f (end_object ∷ [])
    → AddsObject a f (fields ((k, Some d) ∷ []))
one-added k d a b c e f begin name value end =
    object-added a f ((k, Some d) ∷ []) refl
    (then a b f (begin_object ∷ []) _ begin (then b e f (key k ∷ value_tokens d) (end_object ∷ []) (then b c e (key k ∷ []) (value_tokens d) name value) end))

-- an object of one field, which may be left out
pub field-added : (k : List ℕ) (o : Option Data) (a b c e : Written) → Adds a b (begin_object ∷ []) → AddsField b c k o → Adds c e (end_object ∷ []) → AddsObject a e (fields ((k, o) ∷ []))
field-added k o a b c e begin field end = object-added a e ((k, o) ∷ []) refl (then a b e (begin_object ∷ []) _ begin (then b c e (field_tokens k o) (end_object ∷ []) field end))

-- ---- lists

objects-append : (ms : List Members) (m : Members) → objects_tokens (ms ++ m ∷ []) ≡ objects_tokens ms ++ value_tokens (object m)
objects-append [] m = append-nil (value_tokens (object m))
objects-append (n ∷ ms) m = ap (λ (ts : List Token). value_tokens (object n) ++ ts) (objects-append ms m) ∙ sym (append_assoc (value_tokens (object n)) (objects_tokens ms) (value_tokens (object m)))

-- one more object of a list
pub one-more : {A : Type 0} (f : A → Members) (xs : List A) (i : ℕ) (x : A) (a b c : Written) (front : List Token) → Adds a b (front ++ objects_tokens (map f (take i xs))) → i < length xs
    → x ≡ get_or xs i x → AddsObject b c (f x) → Adds a c (front ++ objects_tokens (map f (take (i + 1) xs)))
one-more f xs i x a b c front so_far within is written =
    let step = then a b c (front ++ objects_tokens (map f (take i xs))) (value_tokens (object (f x))) so_far written in
    let tokens : objects_tokens (map f (take i xs)) ++ value_tokens (object (f x)) ≡ objects_tokens (map f (take (i + 1) xs))
    = ap (λ y. objects_tokens (map f (take i xs)) ++ value_tokens (object (f y))) is
    ∙ sym (objects-append (map f (take i xs)) (f (get_or xs i x)))
    ∙ ap objects_tokens (sym (map-append f (take i xs) (get_or xs i x ∷ [])))
    ∙ ap (λ ys. objects_tokens (map f ys)) (sym (take_more xs i x within)) in
    subst (λ (ts : List Token). Adds a c ts) (append_assoc front (objects_tokens (map f (take i xs))) (value_tokens (object (f x))) ∙ ap (λ (ts : List Token). front ++ ts) tokens) step

items-tokens : (ms : List Members) → items_tokens (items_outline (items_of (map object ms))) ≡ objects_tokens ms ++ end_array ∷ []
items-tokens [] = refl
items-tokens (m ∷ ms) = ap (λ (ts : List Token). value_tokens (object m) ++ ts) (items-tokens ms) ∙ sym (append_assoc (value_tokens (object m)) (objects_tokens ms) (end_array ∷ []))

list-tokens : {A : Type 0} (f : A → Members) (name : List ℕ) (xs : List A) → (length xs == 0) ≡ false
    → (key name ∷ begin_array ∷ objects_tokens (map f xs)) ++ end_array ∷ [] ≡ field_tokens name (list_field (map f xs))
list-tokens f name [] some = cc some
list-tokens f name (x ∷ xs) some = ap (λ (ts : List Token). key name ∷ begin_array ∷ ts) (sym (items-tokens (map f (x ∷ xs))))

-- a list that isn't empty, once all its objects are written
pub list-added : {A : Type 0} (f : A → Members) (name : List ℕ) (xs : List A) (i : ℕ) (a b c : Written) → (length xs == 0) ≡ false → length xs ≤ i
    → Adds a b (key name ∷ begin_array ∷ objects_tokens (map f (take i xs))) → Adds b c (end_array ∷ []) → AddsField a c name (list_field (map f xs))
list-added f name xs i a b c some all so_far end =
    let whole : Adds a b (key name ∷ begin_array ∷ objects_tokens (map f xs)) = rw (take_all i xs all) at so_far in
    subst (λ (ts : List Token). Adds a c ts) (list-tokens f name xs some) (then a b c (key name ∷ begin_array ∷ objects_tokens (map f xs)) (end_array ∷ []) whole end)

-- ---- the parts of a span

four : (a b c d rest : List Token) → (a ++ (b ++ (c ++ d))) ++ rest ≡ a ++ (b ++ (c ++ (d ++ rest)))
four a b c d rest =
    append_assoc a (b ++ (c ++ d)) rest
    ∙ ap (λ (ts : List Token). a ++ ts) (append_assoc b (c ++ d) rest ∙ ap (λ (ts : List Token). b ++ ts) (append_assoc c d rest))

eight : (a b c d e f g h rest : List Token) → (a ++ (b ++ (c ++ (d ++ (e ++ (f ++ (g ++ h))))))) ++ rest ≡ a ++ (b ++ (c ++ (d ++ (e ++ (f ++ (g ++ (h ++ rest)))))))
eight a b c d e f g h rest =
    append_assoc a (b ++ (c ++ (d ++ (e ++ (f ++ (g ++ h)))))) rest
    ∙ ap (λ (ts : List Token). a ++ ts) (append_assoc b (c ++ (d ++ (e ++ (f ++ (g ++ h))))) rest
    ∙ ap (λ (ts : List Token). b ++ ts) (append_assoc c (d ++ (e ++ (f ++ (g ++ h)))) rest
    ∙ ap (λ (ts : List Token). c ++ ts) (append_assoc d (e ++ (f ++ (g ++ h))) rest
    ∙ ap (λ (ts : List Token). d ++ ts) (four e f g h rest))))

-- the three parts, one after the other, are the span's fields
pub span-added : (s : Span) (a b c e f g : Written) → Adds a b (begin_object ∷ []) → Adds b c (span_counts s) → Adds c e (span_head s) → Adds e f (span_tail s) → Adds f g (end_object ∷ [])
    → AddsObject a g (span_fields s)
span-added s a b c e f g begin counts head tail end =
    let last = end_object ∷ [] in
    let others = span_tail s ++ last in
    let heads = span_head s ++ others in
    let tokens : span_counts s ++ heads ≡ table_tokens (span_table s) last
    = four (field_tokens (codes "attributes") (attributes_field s.attributes))
    (field_tokens (codes "droppedAttributesCount") (u32_field s.dropped_attributes_count))
    (field_tokens (codes "droppedEventsCount") (u32_field s.dropped_events_count))
    (field_tokens (codes "droppedLinksCount") (u32_field s.dropped_links_count)) heads
    ∙ ap (λ (ts : List Token). (field_tokens (codes "attributes") (attributes_field s.attributes)) ++ ((field_tokens (codes "droppedAttributesCount") (u32_field s.dropped_attributes_count)) ++ ((field_tokens (codes "droppedEventsCount") (u32_field s.dropped_events_count)) ++ ((field_tokens (codes "droppedLinksCount") (u32_field s.dropped_links_count)) ++ ts)))) (four (field_tokens (codes "endTimeUnixNano") (u64_field s.end_time_unix_nano))
    (field_tokens (codes "events") (list_field (map event_fields s.events)))
    (field_tokens (codes "flags") (u32_field s.flags))
    (field_tokens (codes "kind") (enum_field s.kind)) others
    ∙ ap (λ (ts : List Token). (field_tokens (codes "endTimeUnixNano") (u64_field s.end_time_unix_nano)) ++ ((field_tokens (codes "events") (list_field (map event_fields s.events))) ++ ((field_tokens (codes "flags") (u32_field s.flags)) ++ ((field_tokens (codes "kind") (enum_field s.kind)) ++ ts)))) (eight (field_tokens (codes "links") (list_field (map link_fields s.links)))
    (field_tokens (codes "name") (text_field s.name))
    (field_tokens (codes "parentSpanId") (parent_field s.ids))
    (field_tokens (codes "spanId") (span_field s.ids))
    (field_tokens (codes "startTimeUnixNano") (u64_field s.start_time_unix_nano))
    (field_tokens (codes "status") (message_field (status_fields s.status)))
    (field_tokens (codes "traceId") (trace_field s.ids))
    (field_tokens (codes "traceState") (text_field s.trace_state)) last)) in
    object-added a g (span_table s) refl
    (subst (λ (ts : List Token). Adds a g (begin_object ∷ ts)) tokens (then a b g (begin_object ∷ []) _ begin (then b c g _ _ counts (then c e g _ _ head (then e f g _ last tail end)))))
