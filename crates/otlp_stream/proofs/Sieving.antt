-- Values of attributes among the tokens, and lists of which some items are discarded.
-- For the contract of `value`.
use Rattle.std.proofs.Common.{◌≡◌, ℕ, zero, suc, ◌+◌, ◌-◌, List, [], ◌∷◌, ◌++◌, codes, Option, Some, None, option_map, option_and_then, refl, sym, ap, ◌∙◌, arith, subst, Bool}
use Rattle.std.specs.Prelude.{if◌then◌else◌, ◌==◌}
use Rattle.json.specs.Token.{Token}
use Rattle.json.specs.Json.{read_key, after_end_array}
use Rattle.serde_json.specs.Data.{Data, null, boolean, number, string, array, object, no_items, Members, no_members, put}
use Rattle.otlp_types.specs.declared.value.AnyValue.{AnyValue, Empty}
use Rattle.otlp_types.specs.declared.value.KeyValue.{KeyValue}
use Rattle.otlp_reading.specs.declared.value.ValueKey.{ValueKey}
use Rattle.otlp_reading.specs.Kinds.{field, unless_null, each, list_of, message, text, read_or}
use Rattle.otlp_reading.specs.Reading.{OrDiscarded, kept, discarded, all_kept, value_key, at_most_one, value_of_member, value_in, value_by, value_to, key_value}
use Rattle.std.specs.Option.{option_to_list}
use Rattle.otlp_stream.specs.declared.values.KeptItems.{KeptItems}
use Rattle.otlp_stream.specs.Taking.{Takes, TakesAs, TakesMembers, WithinItems, Sieved, sieved_list, present, held, items_then}
use Rattle.otlp_reading.proofs.Each.{kept-append, discarded-append}
use Rattle.otlp_reading.proofs.Levels.{value_to-step}
use Rattle.otlp_stream.proofs.Streaming.{Within-start, Within-member, Within-end, takes_object, takes_array, WithinItems-start, WithinItems-next, WithinItems-end, items_then-all, each-push, field_put, field_put_other}

Sieved-next : {A : Type 0} (read : Data → Option (OrDiscarded A)) (done : List Data) (before after : KeptItems A) (d : Data) (x : OrDiscarded A)
    → Sieved read done before → read d ≡ Some x → after.kept ≡ before.kept ++ kept (x ∷ []) → after.discarded ≡ before.discarded + discarded (x ∷ []) → Sieved read (done ++ d ∷ []) after
Sieved-next read done before after d x s r more count = record {
  all = s.all ++ x ∷ [];
  reads = each-push read done d s.all x s.reads r;
  kept_is = more ∙ ap (λ xs. xs ++ kept (x ∷ [])) s.kept_is ∙ sym (kept-append s.all (x ∷ []));
  discarded_is = let e = discarded-append s.all (x ∷ []) in let n = s.discarded_is in omega arith;
}

-- the list that began at `start` has had items of which these are kept and so many discarded, and `now` is left
pub record WithinSieved {A : Type 0} (read : Data → Option (OrDiscarded A)) (depth : ℕ) (start now : List Token) (found : KeptItems A) : Type 0 where
  pub done : List Data
  pub within : WithinItems depth start now done
  pub sieved : Sieved read done found

module _ {A : Type 0} (read : Data → Option (OrDiscarded A)) (depth : ℕ) (start : List Token) where
  pub WithinSieved-start : (none : KeptItems A) → none ≡ record { kept = []; discarded = 0 } → WithinSieved read depth start start none
  WithinSieved-start none e = record {
    done = [];
    within = WithinItems-start depth start;
    sieved = record { all = []; reads = refl; kept_is = ap (λ k. k.kept) e; discarded_is = ap (λ k. k.discarded) e };
  }

  -- one more item, where the test for the end of the array took nothing
  pub WithinSieved-next : (now moved new : List Token) (before after : KeptItems A) (x : OrDiscarded A) → WithinSieved read depth start now before → after_end_array now ≡ None → moved ≡ now → TakesAs read depth moved new x
      → after.kept ≡ before.kept ++ kept (x ∷ []) → after.discarded ≡ before.discarded + discarded (x ∷ []) → WithinSieved read depth start new after
  WithinSieved-next now moved new before after x w going stays t more count = record {
    done = w.done ++ t.found ∷ [];
    within = WithinItems-next depth start now w.done moved new t.found w.within going stays t.takes;
    sieved = Sieved-next read w.done before after t.found x w.sieved t.is more count;
  }

pub sieved_array : {A : Type 0} (read : Data → Option (OrDiscarded A)) (found : KeptItems A) (depth : ℕ) (old s now new : List Token)
    → (depth ≡ 0 → ⊥) → old ≡ Token.begin_array ∷ s → WithinSieved read (depth - 1) s now found → after_end_array now ≡ Some new → TakesAs (present (sieved_list read)) depth old new found
sieved_array read found depth old s now new h e w over =
    let m = w.sieved in
    let all : each read (items_then w.done no_items) ≡ Some m.all = ap (each read) (items_then-all w.done) ∙ m.reads in
    record {
      found = array (items_then w.done no_items);
      takes = takes_array depth old s new (items_then w.done no_items) h e (WithinItems-end (depth - 1) s now w.done new w.within over);
      is = ap (option_map (λ xs. record { kept = kept xs; discarded = discarded xs })) all ∙ ap (λ k. Some (record { kept = k; discarded = discarded m.all })) (sym m.kept_is) ∙ ap (λ n. Some (record { kept = found.kept; discarded = n })) (sym m.discarded_is);
    }

abbrev unsome : {A : Type 0} → A → Option A → A
unsome d None = d
unsome d (Some a) = a

-- ---- objects of no member, of one and of two

module _ (depth : ℕ) (old s new : List Token) (h : depth ≡ 0 → ⊥) (e : old ≡ Token.begin_object ∷ s) where
  takes_these : (ms : Members) → TakesMembers Some (depth - 1) s new ms → Takes depth old new (object ms)
  takes_these ms m = subst (λ a. Takes depth old new (object a)) (ap (unsome ms) m.is) (takes_object Some ms depth old s new h e m)

  pub takes_empty : read_key s ≡ Some (None, new) → Takes depth old new (object no_members)
  takes_empty over = takes_these no_members (Within-end Some no_members (depth - 1) s s no_members new (Within-start (depth - 1) s) over refl)

  pub takes_one : (k : List ℕ) (t u : List Token) (d : Data) → read_key s ≡ Some (Some k, t) → Takes (depth - 1) t u d → read_key u ≡ Some (None, new) → Takes depth old new (object (put k d no_members))
  takes_one k t u d key m over =
      let w = Within-member (depth - 1) s s no_members k t u d (Within-start (depth - 1) s) key m in
      takes_these (put k d no_members) (Within-end Some (put k d no_members) (depth - 1) s u (put k d no_members) new w over refl)

  pub takes_two : (k l : List ℕ) (t u v x : List Token) (d f : Data) → read_key s ≡ Some (Some k, t) → Takes (depth - 1) t u d → read_key u ≡ Some (Some l, v) → Takes (depth - 1) v x f → read_key x ≡ Some (None, new)
      → Takes depth old new (object (put l f (put k d no_members)))
  takes_two k l t u v x d f key m key2 m2 over =
      let w = Within-member (depth - 1) s s no_members k t u d (Within-start (depth - 1) s) key m in
      let w2 = Within-member (depth - 1) s u (put k d no_members) l v x f w key2 m2 in
      takes_these (put l f (put k d no_members)) (Within-end Some (put l f (put k d no_members)) (depth - 1) s x (put l f (put k d no_members)) new w2 over refl)

-- ---- lists within a value

abbrev all_in : {A : Type 0} → (List A → AnyValue) → (Data → Option (OrDiscarded A)) → Data → Option (OrDiscarded AnyValue)
all_in C read d = option_map (option_map C) (message (λ ms. option_map all_kept (list_of read (field (codes "values") ms))) d)

abbrev whole : {A : Type 0} → KeptItems A → OrDiscarded (List A)
whole found = if found.discarded == 0 then Some found.kept else None

all_of : {A : Type 0} (C : List A → AnyValue) (l : Option (List (OrDiscarded A))) (found : KeptItems A) → option_map (λ xs. record { kept = kept xs; discarded = discarded xs }) l ≡ Some found
    → option_map (option_map C) (option_map all_kept l) ≡ Some (option_map C (whole found))
all_of C None found e = absurd (cc)
all_of C (Some xs) found e = ap (λ k. Some (option_map C (whole k))) (ap (unsome found) e)

module _ {A : Type 0} (C : List A → AnyValue) (read : Data → Option (OrDiscarded A)) (depth : ℕ) (old s new : List Token) (h : depth ≡ 0 → ⊥) (e : old ≡ Token.begin_object ∷ s) where
  pub all_none : (xs : List A) → xs ≡ [] → read_key s ≡ Some (None, new) → TakesAs (held (all_in C read)) depth old new (Some (C xs))
  all_none xs none over = record { found = object no_members; takes = takes_empty depth old s new h e over; is = ap (λ ys. Some (Some (C ys))) (sym none) }

  pub all_read : (t u : List Token) (found : KeptItems A) (all : OrDiscarded (List A)) → read_key s ≡ Some (Some (codes "values"), t) → TakesAs (present (sieved_list read)) (depth - 1) t u found → read_key u ≡ Some (None, new)
      → all ≡ whole found → TakesAs (held (all_in C read)) depth old new (option_map C all)
  all_read t u found all key m over is = record {
    found = object (put (codes "values") m.found no_members);
    takes = takes_one depth old s new h e (codes "values") t u m.found key m.takes over;
    is = ap (λ o. option_map (option_map C) (option_map all_kept (list_of read o))) (field_put (codes "values") m.found no_members) ∙ all_of C (list_of read (unless_null m.found)) found m.is ∙ ap (λ a. Some (option_map C a)) (sym is);
  }

-- ---- under a value key

map_held : {A B : Type 0} (o : Option Data) (f : Data → Option A) (g : A → B) (x : A) → option_and_then f o ≡ Some x → option_and_then (λ d. option_map g (f d)) o ≡ Some (g x)
map_held None f g x e = absurd (cc)
map_held (Some d) f g x e = ap (option_map g) e

pub held_map : {A B : Type 0} (f : Data → Option A) (g : A → B) (depth : ℕ) (old new : List Token) (x : A) → TakesAs (held f) depth old new x → TakesAs (held (λ d. option_map g (f d))) depth old new (g x)
held_map f g depth old new x t = record { found = t.found; takes = t.takes; is = map_held (unless_null t.found) f g x t.is }

pub held_any : {B : Type 0} (x : B) (depth : ℕ) (old new : List Token) (d : Data) → Takes depth old new d → unless_null d ≡ Some d → TakesAs (held (λ _. Some x)) depth old new x
held_any x depth old new d t there = record { found = d; takes = t; is = ap (option_and_then (λ _. Some x)) there }

-- ---- values

one_value : (keeps_doubles : Bool) (value : Data → Option (OrDiscarded AnyValue)) (key : ValueKey) (o : Option Data) (x : OrDiscarded AnyValue) → option_and_then (value_by value keeps_doubles key) o ≡ Some x
    → option_and_then (value_of_member value keeps_doubles) (at_most_one (option_to_list (option_map (λ e. (key, e)) o) ++ [])) ≡ Some x
one_value keeps_doubles value key None x e = absurd (cc)
one_value keeps_doubles value key (Some d) x e = e

value_held : (keeps_doubles : Bool) (value : Data → Option (OrDiscarded AnyValue)) (key : ValueKey) (k : List ℕ) (d : Data) (x : OrDiscarded AnyValue) → Some key ≡ value_key k → held (value_by value keeps_doubles key) d ≡ Some x
    → value_in value keeps_doubles (put k d no_members) ≡ Some x
value_held keeps_doubles value key k d x named e =
    ap (λ v. option_and_then (value_of_member value keeps_doubles) (at_most_one (option_to_list (option_and_then (λ c. option_map (λ f. (c, f)) (unless_null d)) v) ++ []))) (sym named)
    ∙ one_value keeps_doubles value key (unless_null d) x e

module _ (keeps_doubles : Bool) (levels : ℕ) (some : levels ≡ 0 → ⊥) (depth : ℕ) (old s new : List Token) (h : depth ≡ 0 → ⊥) (e : old ≡ Token.begin_object ∷ s) where
  pub value_empty : read_key s ≡ Some (None, new) → TakesAs (value_to keeps_doubles levels) depth old new (Some Empty)
  value_empty over = record { found = object no_members; takes = takes_empty depth old s new h e over; is = value_to-step keeps_doubles levels (object no_members) some }

  pub value_one : (key : ValueKey) (k : List ℕ) (t u : List Token) (x : OrDiscarded AnyValue) → Some key ≡ value_key k → read_key s ≡ Some (Some k, t)
      → TakesAs (held (value_by (value_to keeps_doubles (levels - 1)) keeps_doubles key)) (depth - 1) t u x → read_key u ≡ Some (None, new) → TakesAs (value_to keeps_doubles levels) depth old new x
  value_one key k t u x named next m over = record {
    found = object (put k m.found no_members);
    takes = takes_one depth old s new h e k t u m.found next m.takes over;
    is = value_to-step keeps_doubles levels (object (put k m.found no_members)) some ∙ value_held keeps_doubles (value_to keeps_doubles (levels - 1)) key k m.found x named m.is;
  }

-- ---- pairs

value_there : (keeps_doubles : Bool) (n : ℕ) (d : Data) (x : OrDiscarded AnyValue) → value_to keeps_doubles n d ≡ Some x → unless_null d ≡ Some d
unfolding value_to
value_there keeps_doubles zero null x e = absurd (cc)
value_there keeps_doubles (suc n) null x e = absurd (cc)
value_there keeps_doubles n (boolean b) x e = refl
value_there keeps_doubles n (number m) x e = refl
value_there keeps_doubles n (string s) x e = refl
value_there keeps_doubles n (array ds) x e = refl
value_there keeps_doubles n (object ms) x e = refl

abbrev pair_of : (Data → Option (OrDiscarded AnyValue)) → Option (List ℕ) → Option Data → Option (OrDiscarded KeyValue)
pair_of value n o = option_and_then (λ name. option_and_then (λ v. Some (option_map (λ x. record { key = name; value = x }) v)) (read_or (Some Empty) value o)) n

module _ (keeps_doubles : Bool) (levels : ℕ) (depth : ℕ) (old s new : List Token) (h : depth ≡ 0 → ⊥) (e : old ≡ Token.begin_object ∷ s) where
  pub pair_key : (t u : List Token) (name : List ℕ) → read_key s ≡ Some (Some (codes "key"), t) → TakesAs (present text) (depth - 1) t u name → read_key u ≡ Some (None, new)
      → TakesAs (message (key_value (value_to keeps_doubles levels))) depth old new (Some (record { key = name; value = Empty }))
  pair_key t u name key m over =
      let ms = put (codes "key") m.found no_members in
      let named : text (field (codes "key") ms) ≡ Some name = ap text (field_put (codes "key") m.found no_members) ∙ m.is in
      let none : field (codes "value") ms ≡ None = field_put_other (codes "value") (codes "key") m.found no_members refl in
      record { found = object ms; takes = takes_one depth old s new h e (codes "key") t u m.found key m.takes over; is = ap (λ n. pair_of (value_to keeps_doubles levels) n (field (codes "value") ms)) named ∙ ap (pair_of (value_to keeps_doubles levels) (Some name)) none }

  pub pair_both : (t u v x : List Token) (name : List ℕ) (a : OrDiscarded AnyValue) (r : OrDiscarded KeyValue) → read_key s ≡ Some (Some (codes "key"), t) → TakesAs (present text) (depth - 1) t u name
      → read_key u ≡ Some (Some (codes "value"), v) → TakesAs (value_to keeps_doubles levels) (depth - 1) v x a → read_key x ≡ Some (None, new) → r ≡ option_map (λ y. record { key = name; value = y }) a
      → TakesAs (message (key_value (value_to keeps_doubles levels))) depth old new r
  pair_both t u v x name a r key m key2 m2 over is =
      let ms = put (codes "key") m.found no_members in
      let both = put (codes "value") m2.found ms in
      let named : text (field (codes "key") both) ≡ Some name = ap text (field_put_other (codes "key") (codes "value") m2.found ms refl ∙ field_put (codes "key") m.found no_members) ∙ m.is in
      let there : field (codes "value") both ≡ Some m2.found = field_put (codes "value") m2.found ms ∙ value_there keeps_doubles levels m2.found a m2.is in
      record { found = object both; takes = takes_two depth old s new h e (codes "key") (codes "value") t u v x m.found m2.found key m.takes key2 m2.takes over; is = ap (λ n. pair_of (value_to keeps_doubles levels) n (field (codes "value") both)) named ∙ ap (pair_of (value_to keeps_doubles levels) (Some name)) there ∙ ap (λ o. option_and_then (λ v. Some (option_map (λ y. record { key = name; value = y }) v)) o) m2.is ∙ ap Some (sym is) }
