-- Fields, objects, lists and spans that are counted.
-- For the clauses of what is counted.
use Rattle.std.proofs.Common.{◌≡◌, ℕ, ◌+◌, ◌<◌, ◌≤◌, ◌==◌, true, false, get_or, take, length, List, [], ◌∷◌, ◌++◌, map, Option, Some, refl, subst}
use Rattle.json.specs.Token.{Token, key, begin_object, end_object, begin_array, end_array}
use Rattle.json.specs.Written.{Written}
use Rattle.serde_json.specs.Data.{Data, Members, object}
use Rattle.otlp_types.specs.declared.span.Span.{Span}
use Rattle.otlp_json.specs.Tokens.{value_tokens, objects_tokens, span_counts, span_head, span_tail}
use Rattle.otlp_json.specs.Writing.{fields, list_field, span_fields, Table}
use Rattle.otlp_json.proofs.Table.{table_tokens, ascends, object-tokens}
use Rattle.otlp_json.proofs.Adding as adding
use Rattle.span_size.specs.declared.counter.ByteCounter.{ByteCounter}
use Rattle.span_size.specs.Counting.{Adds, AddsField, AddsObject}
use Rattle.span_size.proofs.Counts.{then}

-- a field that is not left out
pub field : {a b c : ByteCounter} (k : List ℕ) (d : Data) → Adds a b (key k ∷ []) → Adds b c (value_tokens d) → AddsField a c k (Some d)
field k d name value = then name value

-- a field that is not left out, by its kind
pub field-of : {a b c : ByteCounter} (k : List ℕ) (o : Option Data) (d : Data) → o ≡ Some d → Adds a b (key k ∷ []) → Adds b c (value_tokens d) → AddsField a c k o
field-of k o d is name value = rw is (field k d name value)

-- an object's tokens are counted
pub object-added : {a b : ByteCounter} (fs : Table) → ascends fs ≡ true → Adds a b (begin_object ∷ table_tokens fs (end_object ∷ [])) → AddsObject a b (fields fs)
object-added fs up h = rw (object-tokens fs up) h

-- an object of one field, which may be left out
pub field-added : {a b c e : ByteCounter} (k : List ℕ) (o : Option Data) → Adds a b (begin_object ∷ []) → AddsField b c k o → Adds c e (end_object ∷ []) → AddsObject a e (fields ((k, o) ∷ []))
field-added k o begin field end = object-added ((k, o) ∷ []) refl (then begin (then field end))

-- an object of one member
pub one-added : {a b c e f : ByteCounter} (k : List ℕ) (d : Data) → Adds a b (begin_object ∷ []) → Adds b c (key k ∷ []) → Adds c e (value_tokens d) → Adds e f (end_object ∷ [])
    → AddsObject a f (fields ((k, Some d) ∷ []))
one-added k d begin name value end = field-added k (Some d) begin (field k d name value) end

-- ---- tokens, as a writer that began with nothing has them

abbrev holding : List Token → Written
holding ts = record { before = []; tokens = ts; spare = 0 }

-- one more object of a list
pub one-more : {A : Type 0} {a b c : ByteCounter} (f : A → Members) (xs : List A) (i : ℕ) (x : A) (front : List Token) → Adds a b (front ++ objects_tokens (map f (take i xs))) → i < length xs
    → x ≡ get_or xs i x → AddsObject b c (f x) → Adds a c (front ++ objects_tokens (map f (take (i + 1) xs)))
one-more {A} {a} {b} {c} f xs i x front so_far within is counted =
    let before = front ++ objects_tokens (map f (take i xs)) in
    let both = before ++ value_tokens (object (f x)) in
    let tokens = adding.one-more f xs i x (holding []) (holding before) (holding both) front (refl, refl) within is (refl, refl) in
    subst (λ (ts : List Token). Adds a c ts) tokens.1 (then so_far counted)

-- a list that isn't empty, once all its objects are counted
pub list-added : {A : Type 0} {a b c : ByteCounter} (f : A → Members) (name : List ℕ) (xs : List A) (i : ℕ) → (length xs == 0) ≡ false → length xs ≤ i
    → Adds a b (key name ∷ begin_array ∷ objects_tokens (map f (take i xs))) → Adds b c (end_array ∷ []) → AddsField a c name (list_field (map f xs))
list-added {A} {a} {b} {c} f name xs i some all so_far end =
    let before = key name ∷ begin_array ∷ objects_tokens (map f (take i xs)) in
    let tokens = adding.list-added f name xs i (holding []) (holding before) (holding (before ++ end_array ∷ [])) some all (refl, refl) (refl, refl) in
    subst (λ (ts : List Token). Adds a c ts) tokens.1 (then so_far end)

-- the three parts, one after the other, are the span's fields
pub span-added : {a b c e f g : ByteCounter} (s : Span) → Adds a b (begin_object ∷ []) → Adds b c (span_counts s) → Adds c e (span_head s) → Adds e f (span_tail s) → Adds f g (end_object ∷ [])
    → AddsObject a g (span_fields s)
span-added {a} {b} {c} {e} {f} {g} s begin counts head tail end =
    let b_ts = begin_object ∷ [] in
    let c_ts = b_ts ++ span_counts s in
    let e_ts = c_ts ++ span_head s in
    let f_ts = e_ts ++ span_tail s in
    let tokens = adding.span-added s (holding []) (holding b_ts) (holding c_ts) (holding e_ts) (holding f_ts) (holding (f_ts ++ end_object ∷ [])) (refl, refl) (refl, refl) (refl, refl) (refl, refl) (refl, refl) in
    subst (λ (ts : List Token). Adds a g ts) tokens.1 (then (then (then (then begin counts) head) tail) end)
