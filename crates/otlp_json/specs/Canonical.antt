-- What is written reads as itself: each key comes once and in order, and each number has a text that reads as it. For
-- private clauses.
use Rattle.std.specs.Prelude.{◌≡◌, ℕ, List, Some}
use Rattle.std.specs.Cmp.Lexicographic.{slice_cmp}
use Rattle.std.specs.Ordering.{nat_cmp}
use Rattle.std.specs.declared.cmp.Ordering.TheVariants.{Greater}
use Rattle.serde_json.specs.Data.{Data, null, boolean, number, string, array, object, Items, no_items, item, Members, no_members, member}
use Rattle.serde_json.specs.Read.{number_of}
use Rattle.otlp_json.specs.Outline.{number_text}

-- the members' keys come behind this one
abbrev pub KeysAfter : List ℕ → Members → Type 0
KeysAfter k no_members = Unit {0}
KeysAfter k (member l d ms) = (slice_cmp nat_cmp l k ≡ Greater) × KeysAfter k ms

abbrev mutual
  -- a value
  pub IsCanonical : Data → Type 0
  IsCanonical null = Unit {0}
  IsCanonical (boolean b) = Unit {0}
  IsCanonical (number n) = number_of (number_text n) ≡ Some n
  IsCanonical (string s) = Unit {0}
  IsCanonical (array ds) = AreCanonical ds
  IsCanonical (object ms) = MembersCanonical ms

  -- the items of an array
  pub AreCanonical : Items → Type 0
  AreCanonical no_items = Unit {0}
  AreCanonical (item d ds) = IsCanonical d × AreCanonical ds

  -- the members of an object
  pub MembersCanonical : Members → Type 0
  MembersCanonical no_members = Unit {0}
  MembersCanonical (member k d ms) = IsCanonical d × KeysAfter k ms × MembersCanonical ms
