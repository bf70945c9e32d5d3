-- A value as JSON, with the text of each number, doubles among them.
use Rattle.std.specs.Prelude.{ℕ, List, decimal}
use Rattle.std.specs.Fmt.{signed_decimal}
use Rattle.json.specs.Json as json
use Rattle.json.specs.Tree.{json_tokens}
use Rattle.json.specs.Print.{print}
use Rattle.serde_json.specs.Data.{Num, unsigned, negative, float, Data, null, boolean, number, string, array, object, Items, no_items, item, Members, no_members, member}
use Rattle.otlp_types.specs.Doubles.{double_text}

-- a number's text
abbrev pub number_text : Num → List ℕ
number_text (unsigned n) = decimal n
number_text (negative z) = signed_decimal z
number_text (float x) = double_text x

abbrev mutual
  -- a value
  pub outline : Data → json.Json
  outline null = json.null
  outline (boolean b) = json.boolean b
  outline (number n) = json.number (number_text n)
  outline (string s) = json.string s
  outline (array ds) = json.array (items_outline ds)
  outline (object ms) = json.object (members_outline ms)

  -- the items of an array
  pub items_outline : Items → json.Items
  items_outline no_items = json.no_items
  items_outline (item d ds) = json.item (outline d) (items_outline ds)

  -- the members of an object
  pub members_outline : Members → json.Members
  members_outline no_members = json.no_members
  members_outline (member k d ms) = json.member k (outline d) (members_outline ms)

-- the text with no space
abbrev pub text_of : Data → List ℕ
text_of d = print (json_tokens (outline d))
