-- The fields that each request to a backend has beside its own (`export.headers`).
use Rattle.std.specs.Prelude.{◌≡◌, ℕ, true, List, [], ◌∷◌, Option, Some, None}
use Rattle.toml.specs.Data.{Data, string, table, Members, no_members, member}
use Rattle.config_faults.specs.Headers.{may_be_sent}
use Rattle.tsc_config.specs.declared.headers.HeaderField.{HeaderField}

-- the bytes of a text
abbrev pub value_of : Data → List ℕ
value_of (string text) = text
value_of _ = []

-- the field of a key and what stands there
abbrev pub field_of : (name : List ℕ) → Data → HeaderField
field_of name value = record { name = name; value = value_of value }

-- the fields of a table, in its order
abbrev pub fields_in : Members → List HeaderField
fields_in no_members = []
fields_in (member name value rest) = field_of name value ∷ fields_in rest

-- those of a value: none where it is no table
abbrev pub headers_value : Data → List HeaderField
headers_value (table members) = fields_in members
headers_value _ = []

-- those of what stands at a key
abbrev pub headers_of : Option Data → List HeaderField
headers_of None = []
headers_of (Some value) = headers_value value

-- the fields are those of a table, each a text that may be sent
abbrev pub AreFields : Members → List HeaderField → Type 0
AreFields no_members [] = Unit {0}
AreFields no_members (field ∷ fields) = ⊥
AreFields (member name value rest) [] = ⊥
AreFields (member name value rest) (field ∷ fields) = (field.name ≡ name) × (value ≡ string field.value) × (may_be_sent name field.value ≡ true) × AreFields rest fields
