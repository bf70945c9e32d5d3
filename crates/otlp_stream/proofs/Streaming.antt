-- Objects and lists among the tokens, one member or item after another.
-- For the contracts of `list_of`, `members`, `message`, `skip` and `whole`.
use Rattle.std.proofs.Common.{◌≡◌, ℕ, ◌-◌, ◌<◌, List, [], ◌∷◌, ◌++◌, length, false, Option, Some, None, option_map, option_and_then, refl, sym, ap, subst, ◌∙◌, arith, bytes_eq, true≢false}
use Rattle.std.proofs.lemmas.Slice.Eq.{bytes_eq-Decides}
use Rattle.json.specs.Token.{Token}
use Rattle.json.specs.Json as json
use Rattle.json.specs.Json.{parse_map, after_end_array, read_key, value, items, members}
use Rattle.json.proofs.Grammar.{value-begin_array, value-begin_object, read_key-shorter, after_end_array-shorter, items_end, items_more, members_end, members_more}
use Rattle.serde_json.specs.Data.{Data, array, object, Items, no_items, item, Members, no_members, put}
use Rattle.json.specs.Lex.{tokens}
use Rattle.serde_json.specs.Read.{of_json, of_items, of_members, converted, read}
use Rattle.serde_json.specs.View.{items_of}
use Rattle.serde_json.proofs.Views.{get_member-put, get_member-put_other}
use Rattle.otlp_reading.specs.Kinds.{field, unless_null, each, message, list_of, inner}
use Rattle.otlp_stream.specs.Taking.{Takes, TakesAs, ReadsItems, TakesMembers, Within, WithinItems, present, items_then}

-- ---- the conversion, a turn at a time

abbrev pick : {A : Type 0} → A → Option A → A
pick d None = d
pick d (Some a) = a

found : {A B : Type 0} (a : A) (r s : List Token) (x : Option B) (b : B) → option_map {U = B × List Token} (λ y. (y, r)) x ≡ Some (b, s) → (r ≡ s) × (x ≡ Some b)
found a r s None b e = absurd (cc)
found a r s (Some y) b e = let same = ap (pick (y, r)) e in (ap (λ p. p.1) same, ap (λ p. Some p.0) same)

converted_some : {A B : Type 0} (f : A → Option B) (o : Option (A × List Token)) (b : B) (r : List Token) → converted f o ≡ Some (b, r) → (a : A) × (o ≡ Some (a, r)) × (f a ≡ Some b)
converted_some f None b r e = absurd (cc)
converted_some f (Some p) b r e = let both = found p.0 p.1 r (f p.0) b e in (p.0, ap (λ s. Some (p.0, s)) both.0, both.1)

twice : {A B : Type 0} (g : A → B) (r : List Token) (x : Option A) → option_map (λ b. (b, r)) (option_map g x) ≡ parse_map g (option_map (λ a. (a, r)) x)
twice g r None = refl
twice g r (Some a) = refl

converted-array : (o : Option (json.Items × List Token)) → converted of_json (parse_map json.array o) ≡ parse_map array (converted of_items o)
converted-array None = refl
converted-array (Some p) = twice array p.1 (of_items p.0)

converted-object : (o : Option (json.Members × List Token)) → converted of_json (parse_map json.object o) ≡ parse_map object (converted (λ ms. of_members ms no_members) o)
converted-object None = refl
converted-object (Some p) = twice object p.1 (of_members p.0 no_members)

with_item : (j : json.Json) (d : Data) → of_json j ≡ Some d → (o : Option (json.Items × List Token)) → converted of_items (parse_map (json.item j) o) ≡ parse_map (item d) (converted of_items o)
with_item j d e None = refl
with_item j d e (Some p) = rw e (twice (item d) p.1 (of_items p.0))

with_member : (k : List ℕ) (j : json.Json) (d : Data) (old : Members) → of_json j ≡ Some d → (o : Option (json.Members × List Token))
    → converted (λ ms. of_members ms old) (parse_map (json.member k j) o) ≡ converted (λ ms. of_members ms (put k d old)) o
with_member k j d old e None = refl
with_member k j d old e (Some p) = rw e

-- ---- members

pub Within-start : (depth : ℕ) (start : List Token) → Within depth start start no_members
Within-start depth start = record { turns = length start; enough = omega arith; so_far = refl; shorter = omega arith }

pub Within-member : (depth : ℕ) (start now : List Token) (ms : Members) (k : List ℕ) (s new : List Token) (d : Data)
    → Within depth start now ms → read_key now ≡ Some (Some k, s) → Takes depth s new d → Within depth start new (put k d ms)
Within-member depth start now ms k s new d w key t =
    let j = converted_some of_json (value depth s) d new t.reads in
    let less = read_key-shorter now (Some k) s key in
    record {
      turns = w.turns - 1;
      enough = omega (arith, less, t.shorter, w.enough, w.shorter);
      so_far = w.so_far ∙ ap (converted (λ all. of_members all ms)) (members_more (value depth) w.turns k now s new j.0 (omega (arith, less, t.shorter, w.enough, w.shorter)) key j.1) ∙ with_member k j.0 d ms j.2 _;
      shorter = omega (arith, less, t.shorter, w.enough, w.shorter);
    }

pub Within-end : {A : Type 0} (read : Members → Option A) (x : A) (depth : ℕ) (start now : List Token) (ms : Members) (new : List Token)
    → Within depth start now ms → read_key now ≡ Some (None, new) → read ms ≡ Some x → TakesMembers read depth start new x
Within-end read x depth start now ms new w key is =
    let less = read_key-shorter now None new key in
    let before = w.shorter in
    record {
      all = ms;
      reads = w.so_far ∙ ap (converted (λ all. of_members all ms)) (members_end (value depth) w.turns now new w.enough key);
      shorter = omega arith;
      is = is;
    }

pub takes_object : {A : Type 0} (read : Members → Option A) (x : A) (depth : ℕ) (old s new : List Token) → (depth ≡ 0 → ⊥) → old ≡ Token.begin_object ∷ s
    → (m : TakesMembers read (depth - 1) s new x) → Takes depth old new (object m.all)
takes_object read x depth old s new some e m =
    let shorter = m.shorter in
    let positive : 0 < depth = omega arith in
    record {
      reads = ap (converted of_json) (ap (value depth) e ∙ value-begin_object depth s positive) ∙ converted-object (members (value (depth - 1)) (length s) s) ∙ ap (parse_map object) m.reads;
      shorter = rw e (omega arith);
    }

-- a message, where an object begins
pub message_object : {A : Type 0} (read : Members → Option A) (x : A) (depth : ℕ) (old s new : List Token) → (depth ≡ 0 → ⊥) → old ≡ Token.begin_object ∷ s
    → TakesMembers read (depth - 1) s new x → TakesAs (message read) depth old new x
message_object read x depth old s new some e m = record { found = object m.all; takes = takes_object read x depth old s new some e m; is = m.is }

pub inner_object : {A : Type 0} (read : Members → Option A) (x : A) (depth : ℕ) (old s new : List Token) → (depth ≡ 0 → ⊥) → old ≡ Token.begin_object ∷ s
    → TakesMembers read (depth - 1) s new x → TakesAs (present (inner read)) depth old new x
inner_object read x depth old s new some e m = record { found = object m.all; takes = takes_object read x depth old s new some e m; is = m.is }

-- ---- fields

pub field_put : (k : List ℕ) (d : Data) (ms : Members) → field k (put k d ms) ≡ unless_null d
field_put k d ms = ap (option_and_then unless_null) (get_member-put k d ms)

pub field_put_other : (q k : List ℕ) (d : Data) (ms : Members) → bytes_eq k q ≡ false → field q (put k d ms) ≡ field q ms
field_put_other q k d ms e =
    let other : q ≡ k → ⊥ = λ same. true≢false (sym ((bytes_eq-Decides k q).1 (sym same)) ∙ e) in
    ap (option_and_then unless_null) (get_member-put_other q k d ms other)

-- ---- items

items_then-append : (done : List Data) (d : Data) (rest : Items) → items_then done (item d rest) ≡ items_then (done ++ d ∷ []) rest
items_then-append [] d rest = refl
items_then-append (e ∷ done) d rest = ap (item e) (items_then-append done d rest)

one_more : (done : List Data) (d : Data) (r : Option (Items × List Token)) → parse_map (items_then done) (parse_map (item d) r) ≡ parse_map (items_then (done ++ d ∷ [])) r
one_more done d None = refl
one_more done d (Some p) = ap (λ ds. Some (ds, p.1)) (items_then-append done d p.0)

none_yet : (r : Option (Items × List Token)) → r ≡ parse_map (items_then []) r
none_yet None = refl
none_yet (Some p) = refl

pub WithinItems-start : (depth : ℕ) (start : List Token) → WithinItems depth start start []
WithinItems-start depth start = record { turns = length start; enough = omega arith; so_far = none_yet _; shorter = omega arith }

WithinItems-item : (depth : ℕ) (start now : List Token) (done : List Data) (new : List Token) (d : Data)
    → WithinItems depth start now done → after_end_array now ≡ None → Takes depth now new d → WithinItems depth start new (done ++ d ∷ [])
WithinItems-item depth start now done new d w going t =
    let j = converted_some of_json (value depth now) d new t.reads in
    record {
      turns = w.turns - 1;
      enough = omega (arith, t.shorter, w.enough, w.shorter);
      so_far = w.so_far ∙ ap (λ o. parse_map (items_then done) (converted of_items o)) (items_more (value depth) w.turns now new j.0 (omega (arith, t.shorter, w.enough, w.shorter)) going j.1)
          ∙ ap (parse_map (items_then done)) (with_item j.0 d j.2 _) ∙ one_more done d _;
      shorter = omega (arith, t.shorter, w.enough, w.shorter);
    }

-- one more item, where the test for the end of the array took nothing
pub WithinItems-next : (depth : ℕ) (start now : List Token) (done : List Data) (moved new : List Token) (d : Data)
    → WithinItems depth start now done → after_end_array now ≡ None → moved ≡ now → Takes depth moved new d → WithinItems depth start new (done ++ d ∷ [])
WithinItems-next depth start now done moved new d w going stays t = WithinItems-item depth start now done new d w going (subst (λ (s : List Token). Takes depth s new d) stays t)

pub WithinItems-end : (depth : ℕ) (start now : List Token) (done : List Data) (new : List Token)
    → WithinItems depth start now done → after_end_array now ≡ Some new → ReadsItems depth start new (items_then done no_items)
WithinItems-end depth start now done new w over =
    let less = after_end_array-shorter now new over in
    let before = w.shorter in
    record {
      reads = w.so_far ∙ ap (λ o. parse_map (items_then done) (converted of_items o)) (items_end (value depth) w.turns now new w.enough over);
      shorter = omega arith;
    }

pub takes_array : (depth : ℕ) (old s new : List Token) (all : Items) → (depth ≡ 0 → ⊥) → old ≡ Token.begin_array ∷ s
    → ReadsItems (depth - 1) s new all → Takes depth old new (array all)
takes_array depth old s new all some e m =
    let shorter = m.shorter in
    let positive : 0 < depth = omega arith in
    record {
      reads = ap (converted of_json) (ap (value depth) e ∙ value-begin_array depth s positive) ∙ converted-array (items (value (depth - 1)) (length s) s) ∙ ap (parse_map array) m.reads;
      shorter = rw e (omega arith);
    }

-- ---- lists

pub option_step : {A B : Type 0} (o : Option A) (f : A → Option B) (b : B) → option_and_then f o ≡ Some b → (a : A) × (o ≡ Some a) × (f a ≡ Some b)
option_step None f b e = absurd (cc)
option_step (Some a) f b e = (a, refl, e)

unsome : {A : Type 0} (x y : A) → Some x ≡ Some y → x ≡ y
unsome x y e = ap (pick x) e

pub each-push : {A : Type 0} (read : Data → Option A) (done : List Data) (d : Data) (xs : List A) (x : A) → each read (items_of done) ≡ Some xs → read d ≡ Some x → each read (items_of (done ++ d ∷ [])) ≡ Some (xs ++ x ∷ [])
each-push read [] d xs x e is = rw (is, ← unsome [] xs e)
each-push {A} read (y ∷ done) d xs x e is =
    let a = option_step (read y) (λ z. option_and_then (λ zs. Some (z ∷ zs)) (each read (items_of done))) xs e in
    let b = option_step (each read (items_of done)) (λ zs. Some (a.0 ∷ zs)) xs a.2 in
    let rest : each read (items_of (done ++ d ∷ [])) ≡ Some (b.0 ++ x ∷ []) = each-push read done d b.0 x b.1 is in
    ap (option_and_then (λ z. option_and_then (λ zs. Some (z ∷ zs)) (each read (items_of (done ++ d ∷ []))))) a.1
    ∙ ap (option_and_then (λ zs. Some (a.0 ∷ zs))) rest ∙ ap (λ (zs : List A). Some (zs ++ x ∷ [])) (unsome (a.0 ∷ b.0) xs b.2)

pub items_then-all : (done : List Data) → items_then done no_items ≡ items_of done
items_then-all [] = refl
items_then-all (d ∷ done) = ap (item d) (items_then-all done)

pub list_array : {A : Type 0} (read : Data → Option A) (xs : List A) (depth : ℕ) (old s now new : List Token) (done : List Data) → (depth ≡ 0 → ⊥) → old ≡ Token.begin_array ∷ s
    → WithinItems (depth - 1) s now done → after_end_array now ≡ Some new → each read (items_of done) ≡ Some xs → TakesAs (present (list_of read)) depth old new xs
list_array read xs depth old s now new done some e w over is =
    record { found = array (items_then done no_items); takes = takes_array depth old s new (items_then done no_items) some e (WithinItems-end (depth - 1) s now done new w over); is = ap (each read) (items_then-all done) ∙ is }

-- ---- a whole text

last : (o : Option (json.Json × List Token)) (d : Data) → converted of_json o ≡ Some (d, []) → option_and_then of_json (option_and_then (λ p. json.if_last p.0 p.1) o) ≡ Some d
last o d e = let j = converted_some of_json o d [] e in ap (λ r. option_and_then of_json (option_and_then (λ p. json.if_last p.0 p.1) r)) j.1 ∙ j.2

pub whole_text_is : {A : Type 0} (meaning : Data → Option A) (t : List ℕ) (new : List Token) (x : A) → TakesAs meaning 127 (tokens t) new x → new ≡ [] → (d : Data) × (read t ≡ Some d) × (meaning d ≡ Some x)
whole_text_is meaning t new x m over =
    let here : converted of_json (value 127 (tokens t)) ≡ Some (m.found, []) = rw over at m.takes.reads in
    (m.found, last (value 127 (tokens t)) m.found here, m.is)
