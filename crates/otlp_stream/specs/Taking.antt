-- What a reader of tokens takes. For private clauses.
use Rattle.std.specs.Prelude.{◌≡◌, ◌<◌, ◌≤◌, if◌then◌else◌, ℕ, List, [], ◌∷◌, length, Option, Some}
use Rattle.std.specs.Str.{bytes_eq}
use Rattle.json.specs.Token.{Token}
use Rattle.json.specs.Json.{parse_map, value, items, members}
use Rattle.serde_json.specs.Data.{Data, Items, item, Members, no_members}
use Rattle.serde_json.specs.Read.{of_json, of_items, of_members, converted}
use Rattle.otlp_reading.specs.Kinds.{◌>>=◌, unless_null, field, each, list_of}
use Rattle.serde_json.specs.View.{items_of}
use Rattle.std.specs.Prelude.{option_map}
use Rattle.otlp_reading.specs.Reading.{OrDiscarded, kept, discarded}
use Rattle.otlp_stream.specs.declared.values.KeptItems.{KeptItems}

-- of the tokens `old` the first are the value d, and `new` are the rest
pub record Takes (depth : ℕ) (old new : List Token) (d : Data) : Type 0 where
  pub reads : converted of_json (value depth old) ≡ Some (d, new)
  pub shorter : length new < length old

-- the same, of a value that `read` reads as x
pub record TakesAs {A : Type 0} (read : Data → Option A) (depth : ℕ) (old new : List Token) (x : A) : Type 0 where
  pub found : Data
  pub takes : Takes depth old new found
  pub is : read found ≡ Some x

-- the value in a field: null counts as absent
abbrev pub present : {A : Type 0} → (Option Data → Option A) → Data → Option A
present read d = read (unless_null d)

-- the value under a value key, which is not null
abbrev pub held : {A : Type 0} → (Data → Option A) → Data → Option A
held read d = unless_null d >>= read

-- of the tokens `old`, which stand within an object, the first are all members that are left, and `new` follow its end
pub record TakesMembers {A : Type 0} (read : Members → Option A) (depth : ℕ) (old new : List Token) (x : A) : Type 0 where
  pub all : Members
  pub reads : converted (λ ms. of_members ms no_members) (members (value depth) (length old) old) ≡ Some (all, new)
  pub shorter : length new < length old
  pub is : read all ≡ Some x

-- the object that began at `start` has had these members, and `now` is left
pub record Within (depth : ℕ) (start now : List Token) (found : Members) : Type 0 where
  pub turns : ℕ
  pub enough : length now ≤ turns
  pub so_far : converted (λ ms. of_members ms no_members) (members (value depth) (length start) start) ≡ converted (λ ms. of_members ms found) (members (value depth) turns now)
  pub shorter : length now ≤ length start

-- these items, and then the rest
abbrev pub items_then : List Data → Items → Items
items_then [] rest = rest
items_then (d ∷ ds) rest = item d (items_then ds rest)

-- of the tokens `old`, which stand within a list, the first are all items that are left, and `new` follow its end
pub record ReadsItems (depth : ℕ) (old new : List Token) (all : Items) : Type 0 where
  pub reads : converted of_items (items (value depth) (length old) old) ≡ Some (all, new)
  pub shorter : length new < length old

-- the list that began at `start` has had these items, and `now` is left
pub record WithinItems (depth : ℕ) (start now : List Token) (done : List Data) : Type 0 where
  pub turns : ℕ
  pub enough : length now ≤ turns
  pub so_far : converted of_items (items (value depth) (length start) start) ≡ parse_map (items_then done) (converted of_items (items (value depth) turns now))
  pub shorter : length now ≤ length start

-- ---- the fields of an object that is being read

-- what stands under each name among these members
abbrev pub fields_of : Members → List ℕ → Option Data
fields_of ms name = field name ms

-- the same, where this stands under a name
abbrev pub updated : List ℕ → Option Data → (List ℕ → Option Data) → List ℕ → Option Data
updated name o seen other = if bytes_eq name other then o else seen other

-- the value of a field, or of a member that is none, was taken from the tokens `old`: whatever stood under each name
-- before
pub record TakesField {S : Type 0} (so_far : (List ℕ → Option Data) → S → Type 0) (depth : ℕ) (name : List ℕ) (before : S) (old : List Token) (after : S) (new : List Token) : Type 0 where
  pub found : Data
  pub takes : Takes depth old new found
  pub keeps : (seen : List ℕ → Option Data) → so_far seen before → so_far (updated name (unless_null found) seen) after

-- what was read of the items of a list, of which some are kept and the others are discarded
pub record Sieved {A : Type 0} (read : Data → Option (OrDiscarded A)) (done : List Data) (found : KeptItems A) : Type 0 where
  pub all : List (OrDiscarded A)
  pub reads : each read (items_of done) ≡ Some all
  pub kept_is : found.kept ≡ kept all
  pub discarded_is : found.discarded ≡ discarded all

-- a list in a field: what is kept, and how many are discarded
abbrev pub sieved_list : {A : Type 0} → (Data → Option (OrDiscarded A)) → Option Data → Option (KeptItems A)
sieved_list read o = option_map (λ xs. record { kept = kept xs; discarded = discarded xs }) (list_of read o)
