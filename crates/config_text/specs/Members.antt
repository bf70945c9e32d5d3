-- The members of a table with what stands at some keys by default.
use Rattle.std.specs.Prelude.{ℕ, List, [], ◌∷◌, Option, None, Some, if◌then◌else◌}
use Rattle.std.specs.Option.{is_some}
use Rattle.std.specs.Cmp.Lexicographic.{slice_cmp}
use Rattle.std.specs.Ordering.{nat_cmp, match_ordering}
use Rattle.toml.specs.Data.{Data, table, Members, no_members, member, get_member}

-- a key, and what its table has by default
pub record Default : Type 0 where
  pub name : List ℕ
  pub value : Data

-- members with a value at a key, in the order of the keys, in place of what stood there
abbrev pub put_member : (key : List ℕ) → Data → Members → Members
put_member key value no_members = member key value no_members
put_member key value (member k d rest) =
    match_ordering (slice_cmp nat_cmp key k) (member key value (member k d rest)) (member k value rest) (member k d (put_member key value rest))

-- the default, where nothing stands at its key
abbrev pub with_default : Default → Members → Members
with_default row members = if is_some (get_member row.name members) then members else put_member row.name row.value members

-- each of these defaults, where nothing stands at its key
abbrev pub with_each : List Default → Members → Members
with_each [] members = members
with_each (row ∷ rest) members = with_each rest (with_default row members)

-- a table with these
abbrev pub value_with : List Default → Data → Data
value_with rows (table members) = table (with_each rows members)
value_with rows value = value

-- where this stands at a key, these defaults within it
abbrev pub with_inner_at : (key : List ℕ) → List Default → Option Data → Members → Members
with_inner_at key rows None members = members
with_inner_at key rows (Some value) members = put_member key (value_with rows value) members

-- these defaults within the table at a key, where one stands there
abbrev pub with_inner : (key : List ℕ) → List Default → Members → Members
with_inner key rows members = with_inner_at key rows (get_member key members) members
