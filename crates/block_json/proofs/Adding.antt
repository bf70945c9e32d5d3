-- Tokens that a sink takes one after another.
-- For members.rt, values.rt and span.rt.
use Rattle.std.proofs.Common.{◌≡◌, ℕ, true, List, [], ◌∷◌, ◌++◌, Option, Some, None, refl, sym, subst}
use Rattle.json.specs.Token.{Token, key, begin_object, end_object}
use Rattle.json.specs.Written.{Written}
use Rattle.serde_json.specs.Data.{Data, object}
use Rattle.otlp_types.specs.declared.span.Span.{Span}
use Rattle.otlp_json.specs.Tokens.{value_tokens, field_tokens, span_counts, span_head, span_tail}
use Rattle.otlp_json.specs.Writing.{Table, fields, span_fields}
use Rattle.otlp_json.proofs.Table.{table_tokens, ascends, object-tokens}
use Rattle.otlp_json.proofs.Adding as adding
use Rattle.block_json.specs.Sinks.{Composes}

-- a member that is left out
pub absent : {A : Type 0} {adds : A → A → List Token → Type 0} (h : Composes adds) (k : List ℕ) (o : Option Data) (a : A) → o ≡ None → adds a a (field_tokens k o)
absent {A} {adds} h k o a e = let P : Option Data → Type 0 = λ m. adds a a (field_tokens k m) in subst P (sym e) (h.nothing a)

-- a member that is not
pub member : {A : Type 0} {adds : A → A → List Token → Type 0} (h : Composes adds) (k : List ℕ) (o : Option Data) (d : Data) (a b c : A)
    → o ≡ Some d → adds a b (key k ∷ []) → adds b c (value_tokens d) → adds a c (field_tokens k o)
member {A} {adds} h k o d a b c e name value =
    let P : Option Data → Type 0 = λ m. adds a c (field_tokens k m) in subst P (sym e) (h.then a b c (key k ∷ []) (value_tokens d) name value)

-- an object, by its members in order
pub object-added : {A : Type 0} {adds : A → A → List Token → Type 0} (h : Composes adds) (a b : A) (fs : Table)
    → ascends fs ≡ true → adds a b (begin_object ∷ table_tokens fs (end_object ∷ [])) → adds a b (value_tokens (object (fields fs)))
object-added {A} {adds} h a b fs up p = let P : List Token → Type 0 = λ ts. adds a b ts in subst P (sym (object-tokens fs up)) p

-- an object of one member, which may be left out
pub field-added : {A : Type 0} {adds : A → A → List Token → Type 0} (h : Composes adds) (k : List ℕ) (o : Option Data) (a b c e : A)
    → adds a b (begin_object ∷ []) → adds b c (field_tokens k o) → adds c e (end_object ∷ []) → adds a e (value_tokens (object (fields ((k, o) ∷ []))))
field-added h k o a b c e begin field end =
    object-added h a e ((k, o) ∷ []) refl (h.then a b e (begin_object ∷ []) (field_tokens k o ++ end_object ∷ []) begin (h.then b c e (field_tokens k o) (end_object ∷ []) field end))

-- an object of one member
pub one-added : {A : Type 0} {adds : A → A → List Token → Type 0} (h : Composes adds) (k : List ℕ) (d : Data) (a b c e f : A)
    → adds a b (begin_object ∷ []) → adds b c (key k ∷ []) → adds c e (value_tokens d) → adds e f (end_object ∷ []) → adds a f (value_tokens (object (fields ((k, Some d) ∷ []))))
one-added h k d a b c e f begin name value end = field-added h k (Some d) a b e f begin (h.then b c e (key k ∷ []) (value_tokens d) name value) end

-- ---- the parts of a span

abbrev holding : List Token → Written
holding ts = record { before = []; tokens = ts; spare = 0 }

-- the three parts, one after the other, are the span's members
pub span-added : {A : Type 0} {adds : A → A → List Token → Type 0} (h : Composes adds) (s : Span) (a b c e f g : A)
    → adds a b (begin_object ∷ []) → adds b c (span_counts s) → adds c e (span_head s) → adds e f (span_tail s) → adds f g (end_object ∷ [])
    → adds a g (value_tokens (object (span_fields s)))
span-added {A} {adds} h s a b c e f g begin counts head tail end =
    let b_ts = begin_object ∷ [] in
    let c_ts = b_ts ++ span_counts s in
    let e_ts = c_ts ++ span_head s in
    let f_ts = e_ts ++ span_tail s in
    let tokens = adding.span-added s (holding []) (holding b_ts) (holding c_ts) (holding e_ts) (holding f_ts) (holding (f_ts ++ end_object ∷ [])) (refl, refl) (refl, refl) (refl, refl) (refl, refl) (refl, refl) in
    let P : List Token → Type 0 = λ ts. adds a g ts in
    subst P tokens.1 (h.then a f g f_ts (end_object ∷ []) (h.then a e f e_ts (span_tail s) (h.then a c e c_ts (span_head s) (h.then a b c b_ts (span_counts s) begin counts) head) tail) end)
