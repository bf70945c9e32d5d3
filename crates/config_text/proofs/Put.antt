-- What a table has once a value is put into it.
-- For the `ensures` of `put`.
use Rattle.std.proofs.Common.{◌≡◌, List, [], ◌∷◌, Ordering, Less, Equal, Greater, String, Global, string_bytes, refl, ◌∙◌}
use Rattle.std.specs.BTreeMap.{insert_entry}
use Rattle.std.specs.Ordering.{match_ordering}
use Rattle.std.specs.String.{string_cmp}
use Rattle.toml.specs.View.{view, members_view}
use Rattle.toml.specs.declared.value.Value.{Value}
use Rattle.config_text.specs.Members.{put_member}

by_order : (o : Ordering) (a b c : List (String Global × Value))
    → members_view (match_ordering o a b c) ≡ match_ordering o (members_view a) (members_view b) (members_view c)
by_order Less a b c = refl
by_order Equal a b c = refl
by_order Greater a b c = refl

pub put_entry : (key : String Global) (value : Value) (entries : List (String Global × Value))
    → members_view (insert_entry string_cmp entries key value) ≡ put_member (string_bytes key) (view value) (members_view entries)
put_entry key value [] = refl
put_entry key value (e ∷ rest) = by_order (string_cmp key e.0) _ _ _ ∙ rw (put_entry key value rest)
