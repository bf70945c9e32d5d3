-- What a `Host` may be (RFC 9110, section 7.2; RFC 3986, section 3.2.2): uri-host [ ":" port ].
use Rattle.std.specs.Prelude.{ℕ, ◌+◌, Bool, true, false, ◌&&◌, ◌||◌, List, [], ◌∷◌, Option, Some, None, if◌then◌else◌, nat_lt, take, drop, position, ◌==◌, codes}
use Rattle.std.specs.List.{list_all, list_any}
use Rattle.std.specs.Char.{is_ascii_alphanumeric, is_ascii_digit, is_ascii_hexdigit}
use Rattle.http_text.specs.Fields.{Header, values_named, only, is_bracketed}

-- unreserved / sub-delims
abbrev pub is_name_byte : ℕ → Bool
is_name_byte b = is_ascii_alphanumeric b || list_any (λ c. c == b) (codes "-._~!$&'()*+,;=")

-- HEXDIG HEXDIG, and more
abbrev pub begins_hex : List ℕ → Bool
begins_hex (a ∷ b ∷ rest) = is_ascii_hexdigit a && is_ascii_hexdigit b
begins_hex _ = false

-- a byte of a name, or a `%` that two digits follow, which are bytes of a name themselves
abbrev pub may_stand : ℕ → List ℕ → Bool
may_stand b behind = if b == 37 then begins_hex behind else is_name_byte b

-- reg-name = *( unreserved / pct-encoded / sub-delims ), of which IPv4address is a case
abbrev pub is_name : List ℕ → Bool
is_name [] = true
is_name (b ∷ bytes) = may_stand b bytes && is_name bytes

-- [ ":" port ], where port = *DIGIT
abbrev pub is_port : List ℕ → Bool
is_port [] = true
is_port (b ∷ bytes) = (b == 58) && list_all is_ascii_digit bytes

-- a name, by where the first `:` stands
abbrev pub is_named : Option ℕ → List ℕ → Bool
is_named None host = is_name host
is_named (Some colon) host = is_name (take colon host) && is_port (drop colon host)

-- a byte between the brackets of an IP-literal
abbrev pub is_literal_byte : ℕ → Bool
is_literal_byte b = is_name_byte b || (b == 58)

-- an IP-literal, by where the first `]` stands: of what is between the brackets only the bytes are looked at
abbrev pub is_literal : Option ℕ → List ℕ → Bool
is_literal None host = false
is_literal (Some end) host = nat_lt 1 end && (list_all is_literal_byte (drop 1 (take end host)) && is_port (drop (end + 1) host))

abbrev pub is_host : List ℕ → Bool
is_host host =
    if is_bracketed host then is_literal (position (λ b. b == 93) host) host else is_named (position (λ b. b == 58) host) host

abbrev pub is_host_by : Option (List ℕ) → Bool
is_host_by None = false
is_host_by (Some host) = is_host host

-- exactly one `Host`, and that may be one (RFC 9112, section 3.2)
abbrev pub has_host : List Header → Bool
has_host headers = is_host_by (only (values_named (codes "host") headers))
