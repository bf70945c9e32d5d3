-- What is read of a table with defaults: where a default reads as no value does, the same.
-- For the clauses `reads` and `whole` of `settings_in_force`.
use Rattle.std.proofs.Common.{◌≡◌, ℕ, Bool, true, false, not, ◌&&◌, ◌||◌, List, [], ◌∷◌, Option, Some, None, Ordering, Less, Equal, Greater, refl, ap, ◌∙◌, if◌then◌else◌, nat_cmp, is_eq}
use Rattle.std.proofs.lemmas.Map.Lookups.{exact_bytes}
use Rattle.std.specs.Cmp.Lexicographic.{slice_cmp}
use Rattle.std.specs.List.{list_all}
use Rattle.std.specs.Option.{is_some}
use Rattle.std.specs.Ordering.{match_ordering}
use Rattle.toml.specs.Data.{Data, Members, no_members, member, get_member}
use Rattle.config_faults.specs.Keys.{is_key, has_unknown_key}
use Rattle.config_faults.specs.declared.keys.TableKind.{TableKind}
use Rattle.config_text.specs.Members.{Default, put_member, with_default, with_each, value_with, with_inner, with_inner_at}
use Rattle.config_text.proofs.Lookups.{or_else, value_at, or_none, equal_from, put_here, put_elsewhere, each}

same_by : (A : Type 0) (f : Option Data → A) (g : Option Data) (d : Data) → f (Some d) ≡ f None → f (or_else g (Some d)) ≡ f g
same_by A f None d h = h
same_by A f (Some x) d h = refl

-- a key with a default that reads as no value does
pub filled : (A : Type 0) (f : Option Data → A) (key : List ℕ) (rows : List Default) (d : Data) (m : Members)
    → value_at key rows ≡ Some d → f (Some d) ≡ f None → f (get_member key (with_each rows m)) ≡ f (get_member key m)
filled A f key rows d m at same = ap f (each key rows m ∙ ap (or_else (get_member key m)) at) ∙ same_by A f (get_member key m) d same

-- a key without a default
pub unfilled : (key : List ℕ) (rows : List Default) (m : Members) → value_at key rows ≡ None → get_member key (with_each rows m) ≡ get_member key m
unfilled key rows m at = each key rows m ∙ ap (or_else (get_member key m)) at ∙ or_none (get_member key m)

-- what stands at a key, with these defaults within it
abbrev pub inner_value : List Default → Option Data → Option Data
inner_value rows None = None
inner_value rows (Some value) = Some (value_with rows value)

pub inner_here : (key : List ℕ) (rows : List Default) (m : Members) → get_member key (with_inner key rows m) ≡ inner_value rows (get_member key m)
inner_here key rows m = of (get_member key m) refl
  where
    of : (g : Option Data) → get_member key m ≡ g → get_member key (with_inner_at key rows g m) ≡ inner_value rows g
    of None e = e
    of (Some value) e = put_here key (value_with rows value) m

pub inner_elsewhere : (key name : List ℕ) (rows : List Default) (m : Members) → is_eq (slice_cmp nat_cmp key name) ≡ false
    → get_member key (with_inner name rows m) ≡ get_member key m
inner_elsewhere key name rows m h = of (get_member name m)
  where
    of : (g : Option Data) → get_member key (with_inner_at name rows g m) ≡ get_member key m
    of None = refl
    of (Some value) = put_elsewhere key name (value_with rows value) m h

-- ---- keys that a table of a kind has

pub put_known : (kind : TableKind) (name : List ℕ) (v : Data) (m : Members) → is_key kind name ≡ true → has_unknown_key kind (put_member name v m) ≡ has_unknown_key kind m
put_known kind name v no_members h = rw h refl
put_known kind name v (member l d rest) h = of (slice_cmp nat_cmp name l) (put_known kind name v rest h)
  where
    of : (o : Ordering) → has_unknown_key kind (put_member name v rest) ≡ has_unknown_key kind rest
        → has_unknown_key kind (match_ordering o (member name v (member l d rest)) (member l v rest) (member l d (put_member name v rest))) ≡ has_unknown_key kind (member l d rest)
    of Less ih = rw h refl
    of Equal ih = refl
    of Greater ih = ap (λ b. not (is_key kind l) || b) ih

pub default_known : (kind : TableKind) (row : Default) (m : Members) → is_key kind row.name ≡ true → has_unknown_key kind (with_default row m) ≡ has_unknown_key kind m
default_known kind row m h = of (is_some (get_member row.name m))
  where
    of : (s : Bool) → has_unknown_key kind (if s then m else put_member row.name row.value m) ≡ has_unknown_key kind m
    of true = refl
    of false = put_known kind row.name row.value m h

-- tables of a kind have the keys of these defaults
abbrev pub are_keys : TableKind → List Default → Bool
are_keys kind [] = true
are_keys kind (row ∷ rest) = is_key kind row.name && are_keys kind rest

pub first_of : (a b : Bool) → a && b ≡ true → a ≡ true
first_of true b h = refl
first_of false b h = cc

pub second_of : (a b : Bool) → a && b ≡ true → b ≡ true
second_of true b h = h
second_of false b h = cc

pub each_known : (kind : TableKind) (rows : List Default) (m : Members) → are_keys kind rows ≡ true → has_unknown_key kind (with_each rows m) ≡ has_unknown_key kind m
each_known kind [] m h = refl
each_known kind (row ∷ rest) m h =
    each_known kind rest (with_default row m) (second_of (is_key kind row.name) (are_keys kind rest) h) ∙ default_known kind row m (first_of (is_key kind row.name) (are_keys kind rest) h)

pub inner_known : (kind : TableKind) (key : List ℕ) (rows : List Default) (m : Members) → is_key kind key ≡ true → has_unknown_key kind (with_inner key rows m) ≡ has_unknown_key kind m
inner_known kind key rows m h = of (get_member key m)
  where
    of : (g : Option Data) → has_unknown_key kind (with_inner_at key rows g m) ≡ has_unknown_key kind m
    of None = refl
    of (Some value) = put_known kind key (value_with rows value) m h

-- ---- defaults stand there

stands : (g : Option Data) (d : Option Data) → is_some d ≡ true → is_some (or_else g d) ≡ true
stands None d h = h
stands (Some x) d h = refl

-- where one of these rows has the key, something stands there
pub each_stands : (key : List ℕ) (rows : List Default) (m : Members) → is_some (value_at key rows) ≡ true → is_some (get_member key (with_each rows m)) ≡ true
each_stands key rows m h = ap is_some (each key rows m) ∙ stands (get_member key m) (value_at key rows) h

inner_some : (rows : List Default) (g : Option Data) → is_some g ≡ true → is_some (inner_value rows g) ≡ true
inner_some rows None h = h
inner_some rows (Some x) h = refl

-- what stands there stays
pub inner_stands : (key name : List ℕ) (rows : List Default) (m : Members) → is_some (get_member key m) ≡ true → is_some (get_member key (with_inner name rows m)) ≡ true
inner_stands key name rows m h = of (is_eq (slice_cmp nat_cmp key name)) refl
  where
    of : (b : Bool) → is_eq (slice_cmp nat_cmp key name) ≡ b → is_some (get_member key (with_inner name rows m)) ≡ true
    of true e =
        let same : key ≡ name = exact_bytes key name (equal_from (slice_cmp nat_cmp key name) e) in
        let here : is_some (get_member name m) ≡ true = rw (← same) h in
        rw same (ap is_some (inner_here name rows m) ∙ inner_some rows (get_member name m) here)
    of false e = ap is_some (inner_elsewhere key name rows m e) ∙ h

-- each of some keys stands there, where each key of some rows does
pub all_stand : (rows more : List Default) (m : Members) → ((key : List ℕ) → is_some (value_at key rows) ≡ true → is_some (get_member key m) ≡ true)
    → list_all (λ (row : Default). is_some (value_at row.name rows)) more ≡ true → list_all (λ (row : Default). is_some (get_member row.name m)) more ≡ true
all_stand rows [] m each_of h = refl
all_stand rows (row ∷ rest) m each_of h =
    let here = each_of row.name (first_of (is_some (value_at row.name rows)) _ h) in
    rw here (all_stand rows rest m each_of (second_of (is_some (value_at row.name rows)) _ h))
