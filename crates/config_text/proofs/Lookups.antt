-- What stands at a key of a table with defaults.
-- For the clauses `reads` and `whole` of `settings_in_force`.
use Rattle.std.proofs.Common.{◌≡◌, ℕ, Bool, true, false, List, [], ◌∷◌, Option, Some, None, Ordering, Less, Equal, Greater, refl, sym, ap, ◌∙◌, if◌then◌else◌, nat_cmp, is_eq}
use Rattle.std.proofs.lemmas.Cmp.{tied_itself, nat_list_cmp_total}
use Rattle.std.proofs.lemmas.Map.Lookups.{exact_bytes}
use Rattle.std.specs.Cmp.Lexicographic.{slice_cmp}
use Rattle.std.specs.Option.{is_some}
use Rattle.std.specs.Ordering.{match_ordering}
use Rattle.toml.specs.Data.{Data, Members, no_members, member, get_member}
use Rattle.config_text.specs.Members.{Default, put_member, with_default, with_each}

-- the first of two values that is there
abbrev pub or_else : Option Data → Option Data → Option Data
or_else None second = second
or_else (Some value) second = Some value

-- the default that the first of these rows has for a key
abbrev pub value_at : (key : List ℕ) → List Default → Option Data
value_at key [] = None
value_at key (row ∷ rest) = if is_eq (slice_cmp nat_cmp key row.name) then Some row.value else value_at key rest

pub or_none : (a : Option Data) → or_else a None ≡ a
or_none None = refl
or_none (Some x) = refl

or_chain : (a : Option Data) (b : Bool) (v : Data) (more : Option Data) → or_else (or_else a (if b then Some v else None)) more ≡ or_else a (if b then Some v else more)
or_chain None true v more = refl
or_chain None false v more = refl
or_chain (Some x) b v more = refl

pub equal_from : (o : Ordering) → is_eq o ≡ true → o ≡ Equal
equal_from Less h = cc
equal_from Equal h = refl
equal_from Greater h = cc

passed : (o : Ordering) (a : Option Data) (d : Data) → is_eq o ≡ false → match_ordering o a (Some d) a ≡ a
passed Less a d h = refl
passed Equal a d h = cc
passed Greater a d h = refl

pub put_elsewhere : (key name : List ℕ) (v : Data) (m : Members) → is_eq (slice_cmp nat_cmp key name) ≡ false → get_member key (put_member name v m) ≡ get_member key m
put_elsewhere key name v no_members h = passed (slice_cmp nat_cmp key name) None v h
put_elsewhere key name v (member l d rest) h = of (slice_cmp nat_cmp name l) refl (put_elsewhere key name v rest h)
  where
    of : (o : Ordering) → slice_cmp nat_cmp name l ≡ o → get_member key (put_member name v rest) ≡ get_member key rest
        → get_member key (match_ordering o (member name v (member l d rest)) (member l v rest) (member l d (put_member name v rest))) ≡ get_member key (member l d rest)
    of Less e ih = passed (slice_cmp nat_cmp key name) (get_member key (member l d rest)) v h
    of Equal e ih =
        let same : name ≡ l = exact_bytes name l e in
        let other : is_eq (slice_cmp nat_cmp key l) ≡ false = rw (← same) h in
        passed (slice_cmp nat_cmp key l) (get_member key rest) v other ∙ sym (passed (slice_cmp nat_cmp key l) (get_member key rest) d other)
    of Greater e ih = ap (λ o. match_ordering (slice_cmp nat_cmp key l) o (Some d) o) ih

pub put_here : (name : List ℕ) (v : Data) (m : Members) → get_member name (put_member name v m) ≡ Some v
put_here name v no_members = rw (tied_itself nat_list_cmp_total name) refl
put_here name v (member l d rest) = of (slice_cmp nat_cmp name l) refl (put_here name v rest)
  where
    of : (o : Ordering) → slice_cmp nat_cmp name l ≡ o → get_member name (put_member name v rest) ≡ Some v
        → get_member name (match_ordering o (member name v (member l d rest)) (member l v rest) (member l d (put_member name v rest))) ≡ Some v
    of Less e ih = rw (tied_itself nat_list_cmp_total name) refl
    of Equal e ih = rw e refl
    of Greater e ih = rw e ih

own : (name : List ℕ) (v : Data) (m : Members) → get_member name (if is_some (get_member name m) then m else put_member name v m) ≡ or_else (get_member name m) (Some v)
own name v m = of (get_member name m) refl
  where
    of : (g : Option Data) → get_member name m ≡ g → get_member name (if is_some g then m else put_member name v m) ≡ or_else g (Some v)
    of None e = put_here name v m
    of (Some x) e = e

other : (key name : List ℕ) (v : Data) (m : Members) (s : Bool) → is_eq (slice_cmp nat_cmp key name) ≡ false
    → get_member key (if s then m else put_member name v m) ≡ or_else (get_member key m) None
other key name v m true h = sym (or_none (get_member key m))
other key name v m false h = put_elsewhere key name v m h ∙ sym (or_none (get_member key m))

one : (key : List ℕ) (row : Default) (m : Members)
    → get_member key (with_default row m) ≡ or_else (get_member key m) (if is_eq (slice_cmp nat_cmp key row.name) then Some row.value else None)
one key row m = of (is_eq (slice_cmp nat_cmp key row.name)) refl
  where
    of : (b : Bool) → is_eq (slice_cmp nat_cmp key row.name) ≡ b → get_member key (with_default row m) ≡ or_else (get_member key m) (if b then Some row.value else None)
    of true e =
        let same : key ≡ row.name = exact_bytes key row.name (equal_from (slice_cmp nat_cmp key row.name) e) in
        rw same (own row.name row.value m)
    of false e = other key row.name row.value m (is_some (get_member row.name m)) e

-- what stands there, and else the default of the first row with that key
pub each : (key : List ℕ) (rows : List Default) (m : Members) → get_member key (with_each rows m) ≡ or_else (get_member key m) (value_at key rows)
each key [] m = sym (or_none (get_member key m))
each key (row ∷ rest) m =
    each key rest (with_default row m) ∙ ap (λ g. or_else g (value_at key rest)) (one key row m)
    ∙ or_chain (get_member key m) (is_eq (slice_cmp nat_cmp key row.name)) row.value (value_at key rest)
