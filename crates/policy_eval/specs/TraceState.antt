-- The members of a trace state (W3C Trace Context, section 3.3): a comma-separated list, each member a key, `=` and a
-- value, with optional white space around it.
use Rattle.std.specs.Prelude.{ℕ, ◌+◌, Bool, false, ◌&&◌, ◌||◌, ◌==◌, if◌then◌else◌, List, [], ◌∷◌, reverse, take, drop, bytes_eq, position, Option, None, Some}
use Rattle.std.specs.List.{list_any}

-- a comma, and the sign between a key and a value
abbrev pub comma : ℕ
comma = 44

abbrev pub equals_sign : ℕ
equals_sign = 61

-- a space or a tab (`OWS`)
abbrev pub is_blank : ℕ → Bool
is_blank byte = byte == 32 || byte == 9

-- the bytes without the white space in front
abbrev pub skip_blank : List ℕ → List ℕ
skip_blank [] = []
skip_blank (byte ∷ bytes) = if is_blank byte then skip_blank bytes else byte ∷ bytes

-- the bytes without the white space at both ends
unfoldable pub trimmed : List ℕ → List ℕ
trimmed bytes = reverse (skip_blank (reverse (skip_blank bytes)))

-- a byte before the first text of some
abbrev pub put_first : ℕ → List (List ℕ) → List (List ℕ)
put_first byte [] = (byte ∷ []) ∷ []
put_first byte (text ∷ texts) = (byte ∷ text) ∷ texts

-- the texts between the commas
abbrev pub split_commas : List ℕ → List (List ℕ)
split_commas [] = [] ∷ []
split_commas (byte ∷ bytes) = if byte == comma then [] ∷ split_commas bytes else put_first byte (split_commas bytes)

-- a text is one of the values
abbrev pub is_value : (values : List (List ℕ)) → (text : List ℕ) → Bool
is_value values text = list_any (λ v. bytes_eq v text) values

-- of a member with its first `=` at this place: that key stands before it, and one of the values behind
abbrev pub is_member_at : Option ℕ → (key : List ℕ) → (values : List (List ℕ)) → (member : List ℕ) → Bool
is_member_at None key values member = false
is_member_at (Some at) key values member = bytes_eq (take at member) key && is_value values (drop (at + 1) member)

-- the member has that key, and one of the values
abbrev pub is_member : (key : List ℕ) → (values : List (List ℕ)) → (member : List ℕ) → Bool
is_member key values member = is_member_at (position (λ byte. byte == equals_sign) member) key values member

-- the trace state has such a member
abbrev pub has_member : (key : List ℕ) → (values : List (List ℕ)) → (trace_state : List ℕ) → Bool
has_member key values trace_state = list_any (λ member. is_member key values (trimmed member)) (split_commas trace_state)
