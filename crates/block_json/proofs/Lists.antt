-- Messages in fields, told one after another.
-- For pairs and values of values.rt, and events and links of span.rt.
use Rattle.std.proofs.Common.{◌≡◌, ℕ, ◌<◌, List, [], ◌∷◌, ◌++◌, length, map, Some, None, Ok, unwrap_or, refl, sym, ◌∙◌, ap, subst, arith, append_assoc, append-nil}
use Rattle.std.specs.Borrow.{Bor}
use Rattle.std.specs.Result.{result_ok}
use Rattle.std.specs.List.{AllByRecursion}
use Rattle.std.proofs.lemmas.List.{map-append}
use Rattle.json.specs.Token.{Token, key, begin_array, end_array}
use Rattle.json.specs.Tree.{items_tokens}
use Rattle.serde_json.specs.Data.{Members, object}
use Rattle.serde_json.specs.View.{items_of}
use Rattle.protobuf_wire.specs.Wire.{Field, fields_of}
use Rattle.protobuf_writer.specs.Writing.{message_bytes}
use Rattle.otlp_json.specs.Outline.{items_outline}
use Rattle.otlp_json.specs.Tokens.{value_tokens, field_tokens, objects_tokens}
use Rattle.otlp_json.specs.Writing.{list_field}
use Rattle.span_block.specs.Pairs.{fields_read}
use Rattle.span_block.specs.Walk.{messages, NextMessage}
use Rattle.block_json.specs.Sinks.{Composes}
use Rattle.block_json.specs.Messages.{IsOf, AreIn}

-- ---- the next of the messages that are left

pub read_is : (sent : List ℕ) (fs : List Field) → fields_of sent ≡ Ok fs → fields_read sent ≡ fs
unfolding fields_read
read_is sent fs e = ap (λ r. unwrap_or (result_ok r) []) e

-- the first of them was taken
pub record Took {B : Type 0} (wire : B → List Field) (P : B → Type 0) (number : ℕ) (item new : List ℕ) (xs : List B) : Type 0 where
  pub first : B
  pub left : List B
  pub whole : xs ≡ first ∷ left
  pub is : IsOf wire P item first
  pub rest : AreIn wire P number new left

took_by : {B : Type 0} (wire : B → List Field) (P : B → Type 0) (number : ℕ) (item new : List ℕ) (gs : List Field) (xs : List B)
    → AllByRecursion P xs → fields_of new ≡ Ok gs → item ∷ messages number gs ≡ map message_bytes (map wire xs) → Took wire P number item new xs
took_by wire P number item new gs [] holds read e = absurd (cc e)
took_by wire P number item new gs (x ∷ xs) holds read e =
    let same : fields_read new ≡ gs = read_is new gs read in
    let written : item ≡ message_bytes (wire x) = cc e in
    let more : messages number gs ≡ map message_bytes (map wire xs) = cc e in
    let Q : List Field → Type 0 = λ fs. fields_of new ≡ Ok fs in
    record {
      first = x;
      left = xs;
      whole = refl;
      is = record { written = written; holds = holds.0 };
      rest = record { read = subst Q (sym same) read; written = ap (messages number) same ∙ more; holds = holds.1 };
    }

pub took : {B : Type 0} (wire : B → List Field) (P : B → Type 0) (number : ℕ) (old new : List ℕ) (item : Bor (List ℕ)) (xs : List B)
    → AreIn wire P number old xs → NextMessage number (fields_read old) (Some item) new → Took wire P number item.now new xs
took wire P number old new item xs are next = took_by wire P number item.now new next.0 xs are.holds next.1 (sym next.2 ∙ are.written)

none_by : {B : Type 0} (wire : B → List Field) (xs : List B) → [] ≡ map message_bytes (map wire xs) → xs ≡ []
none_by wire [] e = refl
none_by wire (x ∷ xs) e = absurd (cc e)

pub took_none : {B : Type 0} (wire : B → List Field) (P : B → Type 0) (number : ℕ) (old new : List ℕ) (xs : List B)
    → AreIn wire P number old xs → NextMessage number (fields_read old) None new → xs ≡ []
took_none wire P number old new xs are next = none_by wire xs (sym next.0 ∙ are.written)

-- ---- tokens of lists

objects-append : (ms : List Members) (m : Members) → objects_tokens (ms ++ m ∷ []) ≡ objects_tokens ms ++ value_tokens (object m)
objects-append [] m = append-nil (value_tokens (object m))
objects-append (n ∷ ms) m = ap (λ (ts : List Token). value_tokens (object n) ++ ts) (objects-append ms m) ∙ sym (append_assoc (value_tokens (object n)) (objects_tokens ms) (value_tokens (object m)))

items-tokens : (ms : List Members) → items_tokens (items_outline (items_of (map object ms))) ≡ objects_tokens ms ++ end_array ∷ []
items-tokens [] = refl
items-tokens (m ∷ ms) = ap (λ (ts : List Token). value_tokens (object m) ++ ts) (items-tokens ms) ∙ sym (append_assoc (value_tokens (object m)) (objects_tokens ms) (end_array ∷ []))

list-tokens : {B : Type 0} (json : B → Members) (name : List ℕ) (xs : List B) → 0 < length xs
    → (key name ∷ begin_array ∷ objects_tokens (map json xs)) ++ end_array ∷ [] ≡ field_tokens name (list_field (map json xs))
list-tokens json name [] some = absurd (omega arith)
list-tokens json name (x ∷ xs) some = ap (λ (ts : List Token). key name ∷ begin_array ∷ ts) (sym (items-tokens (map json (x ∷ xs))))

-- ---- the loop

-- some were told, and these are left
pub record Done {A B : Type 0} (adds : A → A → List Token → Type 0) (wire : B → List Field) (P : B → Type 0) (json : B → Members)
    (name : List ℕ) (number : ℕ) (rest : List ℕ) (start now : A) (xs : List B) : Type 0 where
  pub done : List B
  pub left : List B
  pub whole : xs ≡ done ++ left
  pub some : 0 < length done
  pub rest_is : AreIn wire P number rest left
  pub added : adds start now (key name ∷ begin_array ∷ objects_tokens (map json done))

-- so it is, whatever the message's are
pub record SoFar {A B : Type 0} (adds : A → A → List Token → Type 0) (wire : B → List Field) (P : B → Type 0) (json : B → Members)
    (name : List ℕ) (number : ℕ) (message rest : List ℕ) (start now : A) : Type 0 where
  pub so_far : (xs : List B) → AreIn wire P number message xs → Done adds wire P json name number rest start now xs

-- the first is told
pub first-told : {A B : Type 0} {adds : A → A → List Token → Type 0} (h : Composes adds) (wire : B → List Field) (P : B → Type 0) (json : B → Members)
    (name : List ℕ) (number : ℕ) (message start new : List ℕ) (item : Bor (List ℕ)) (a b c e : A)
    → start ≡ message → ((fs : List Field) → fields_of start ≡ Ok fs → NextMessage number fs (Some item) new)
    → adds a b (key name ∷ []) → adds b c (begin_array ∷ []) → ((x : B) → IsOf wire P item.now x → adds c e (value_tokens (object (json x))))
    → SoFar adds wire P json name number message new a e
first-told {A} {B} {adds} h wire P json name number message start new item a b c e same next key_added begin told = record {
  so_far = λ xs are.
      let R : List ℕ → Type 0 = λ m. AreIn wire P number m xs in
      let from : AreIn wire P number start xs = subst R (sym same) are in
      let t = took wire P number start new item xs from (next (fields_read start) from.read) in
      let added : adds a e (key name ∷ begin_array ∷ value_tokens (object (json t.first)))
      = h.then a c e (key name ∷ begin_array ∷ []) (value_tokens (object (json t.first))) (h.then a b c (key name ∷ []) (begin_array ∷ []) key_added begin) (told t.first t.is) in
      let Q : List Token → Type 0 = λ ts. adds a e (key name ∷ begin_array ∷ ts) in
      record {
        done = t.first ∷ [];
        left = t.left;
        whole = t.whole;
        some = omega arith;
        rest_is = t.rest;
        added = subst Q (sym (append-nil (value_tokens (object (json t.first))))) added;
      };
}

next-done : {A B : Type 0} {adds : A → A → List Token → Type 0} (h : Composes adds) (wire : B → List Field) (P : B → Type 0) (json : B → Members)
    (name : List ℕ) (number : ℕ) (old new : List ℕ) (item : Bor (List ℕ)) (a b c : A) (xs : List B)
    → Done adds wire P json name number old a b xs → ((fs : List Field) → fields_of old ≡ Ok fs → NextMessage number fs (Some item) new)
    → ((x : B) → IsOf wire P item.now x → adds b c (value_tokens (object (json x))))
    → Done adds wire P json name number new a c xs
next-done {A} {B} {adds} h wire P json name number old new item a b c xs d next told =
    let t = took wire P number old new item d.left d.rest_is (next (fields_read old) d.rest_is.read) in
    let front : List Token = key name ∷ begin_array ∷ objects_tokens (map json d.done) in
    let added : adds a c (front ++ value_tokens (object (json t.first))) = h.then a b c front (value_tokens (object (json t.first))) d.added (told t.first t.is) in
    let tokens : objects_tokens (map json d.done) ++ value_tokens (object (json t.first)) ≡ objects_tokens (map json (d.done ++ t.first ∷ []))
    = sym (objects-append (map json d.done) (json t.first)) ∙ ap objects_tokens (sym (map-append json d.done (t.first ∷ []))) in
    let Q : List Token → Type 0 = λ ts. adds a c (key name ∷ begin_array ∷ ts) in
    record {
      done = d.done ++ t.first ∷ [];
      left = t.left;
      whole = d.whole ∙ ap (λ (ys : List B). d.done ++ ys) t.whole ∙ sym (append_assoc d.done (t.first ∷ []) t.left);
      some = longer d.done t.first;
      rest_is = t.rest;
      added = subst Q tokens added;
    }
  where
    longer : (ys : List B) (y : B) → 0 < length (ys ++ y ∷ [])
    longer [] y = omega arith
    longer (z ∷ ys) y = omega arith

-- one more is told
pub next-told : {A B : Type 0} {adds : A → A → List Token → Type 0} (h : Composes adds) (wire : B → List Field) (P : B → Type 0) (json : B → Members)
    (name : List ℕ) (number : ℕ) (message old new : List ℕ) (item : Bor (List ℕ)) (a b c : A)
    → SoFar adds wire P json name number message old a b → ((fs : List Field) → fields_of old ≡ Ok fs → NextMessage number fs (Some item) new)
    → ((x : B) → IsOf wire P item.now x → adds b c (value_tokens (object (json x))))
    → SoFar adds wire P json name number message new a c
next-told h wire P json name number message old new item a b c so next told = record {
  so_far = λ xs are. next-done h wire P json name number old new item a b c xs (so.so_far xs are) next told;
}

-- all are told
pub all-told : {A B : Type 0} {adds : A → A → List Token → Type 0} (h : Composes adds) (wire : B → List Field) (P : B → Type 0) (json : B → Members)
    (name : List ℕ) (number : ℕ) (message old new : List ℕ) (a b c : A)
    → SoFar adds wire P json name number message old a b → ((fs : List Field) → fields_of old ≡ Ok fs → NextMessage number fs None new)
    → adds b c (end_array ∷ [])
    → (xs : List B) → AreIn wire P number message xs → adds a c (field_tokens name (list_field (map json xs)))
all-told {A} {B} {adds} h wire P json name number message old new a b c so next end xs are =
    let d = so.so_far xs are in
    let none : d.left ≡ [] = took_none wire P number old new d.left d.rest_is (next (fields_read old) d.rest_is.read) in
    let same : d.done ≡ xs = sym (append-nil d.done) ∙ ap (λ (ys : List B). d.done ++ ys) (sym none) ∙ sym d.whole in
    let front : List Token = key name ∷ begin_array ∷ objects_tokens (map json d.done) in
    let added : adds a c (front ++ end_array ∷ []) = h.then a b c front (end_array ∷ []) d.added end in
    let Q : List Token → Type 0 = λ ts. adds a c ts in
    subst Q (list-tokens json name d.done d.some ∙ ap (λ (ys : List B). field_tokens name (list_field (map json ys))) same) added

-- there are none
pub none-told : {A B : Type 0} {adds : A → A → List Token → Type 0} (h : Composes adds) (wire : B → List Field) (P : B → Type 0) (json : B → Members)
    (name : List ℕ) (number : ℕ) (message start new : List ℕ) (a : A)
    → start ≡ message → ((fs : List Field) → fields_of start ≡ Ok fs → NextMessage number fs None new)
    → (xs : List B) → AreIn wire P number message xs → adds a a (field_tokens name (list_field (map json xs)))
none-told {A} {B} {adds} h wire P json name number message start new a same next xs are =
    let R : List ℕ → Type 0 = λ m. AreIn wire P number m xs in
    let from : AreIn wire P number start xs = subst R (sym same) are in
    let none : xs ≡ [] = took_none wire P number start new xs from (next (fields_read start) from.read) in
    let Q : List B → Type 0 = λ ys. adds a a (field_tokens name (list_field (map json ys))) in
    subst Q (sym none) (h.nothing a)
