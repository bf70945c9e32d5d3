-- The value keys among the members of an object, one member after another.
-- For the contract of `only_value_member`.
use Rattle.std.proofs.Common.{◌≡◌, ℕ, List, [], ◌∷◌, ◌++◌, Option, Some, None, option_map, true, false, is_some, string_bytes, refl, sym, ap, ◌∙◌, append_assoc, append-nil}
use Rattle.std.specs.Option.{option_to_list}
use Rattle.serde_json.specs.Data.{Data}
use Rattle.serde_json.specs.View.{view, members_view}
use Rattle.serde_json.proofs.Views.{Entry}
use Rattle.otlp_reading.specs.declared.value.ValueKey.{ValueKey}
use Rattle.otlp_reading.specs.Reading.{value_member, value_members, at_most_one}

abbrev pub Held : Type 0
Held = ValueKey × Data

value_members-append : (xs ys : List Entry) → value_members (members_view (xs ++ ys)) ≡ value_members (members_view xs) ++ value_members (members_view ys)
value_members-append [] ys = refl
value_members-append (e ∷ xs) ys =
    let here : List Held = option_to_list (value_member (string_bytes e.0) (view e.1)) in
    ap (λ hs. here ++ hs) (value_members-append xs ys) ∙ sym (append_assoc here _ _)

-- the entry that an iterator gave, among all
pub next_left : (done : List Entry) (e : Entry) (left before entries : List Entry) → entries ≡ done ++ before → before ≡ e ∷ left → entries ≡ done ++ e ∷ left
next_left done e left before entries all step = all ∙ ap (λ es. done ++ es) step

-- what a member holds, by its name as it stands in the map
pub named_so : (o : Option Held) (shown name : List ℕ) (d : Data) → o ≡ value_member shown d → shown ≡ name → o ≡ value_member name d
named_so o shown name d is same = is ∙ ap (λ n. value_member n d) same

-- the members so far, and one more
pub held_more : (o : Option Held) (done : List Entry) (e : Entry) (left entries : List Entry) (hs : List Held) → entries ≡ done ++ e ∷ left
    → hs ≡ value_members (members_view done) → o ≡ value_member (string_bytes e.0) (view e.1)
    → (all : List Entry) × (entries ≡ all ++ left) × (hs ++ option_to_list o ≡ value_members (members_view all))
held_more o done e left entries hs is so here = (
  done ++ e ∷ [],
  is ∙ sym (append_assoc done (e ∷ []) left),
  rw (so, here) (sym (value_members-append done (e ∷ []) ∙ ap (λ x. value_members (members_view done) ++ x) (append-nil _))),
)

two : (f : Option Held) (h : Held) (rest : List Held) → is_some f ≡ true → at_most_one (option_to_list f ++ h ∷ rest) ≡ None
two (Some f) h rest is = refl
two None h rest is = cc is

pub two_held : (f : Option Held) (h : Held) (done : List Entry) (e : Entry) (left entries : List Entry) → entries ≡ done ++ e ∷ left
    → is_some f ≡ true → option_to_list f ≡ value_members (members_view done) → Some h ≡ value_member (string_bytes e.0) (view e.1)
    → at_most_one (value_members (members_view entries)) ≡ None
two_held f h done e left entries is some so here =
    rw (is, value_members-append done (e ∷ left), ← so, ← here) (two f h (value_members (members_view left)) some)

pub some_map : {A B : Type 0} (f : A → B) (o : Option A) → is_some o ≡ true → is_some (option_map f o) ≡ true
some_map f None h = h
some_map f (Some x) h = refl

pub none_map : {A B : Type 0} (f : A → B) (o : Option A) → is_some o ≡ false → option_to_list (option_map f o) ≡ []
none_map f None h = refl
none_map f (Some x) h = cc h
