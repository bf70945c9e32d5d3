-- Which addresses can't be one, whatever the machine has. Of a host's name and of an address of IPv6 no more is looked
-- at than their bytes: a text that isn't refused here may be none all the same.
use Rattle.std.specs.Prelude.{ℕ, Bool, true, false, not, ◌&&◌, ◌||◌, ◌==◌, ◌+◌, ◌-◌, ◌*◌, List, [], ◌∷◌, length, take, Option, Some, None, if◌then◌else◌, nat_le}
use Rattle.std.specs.Char.{is_ascii_digit, is_ascii_hexdigit, is_ascii_alphanumeric}
use Rattle.std.specs.List.{list_all}

-- what stands behind the last colon, or else this
abbrev pub behind_last : List ℕ → (found : Option (List ℕ)) → Option (List ℕ)
behind_last [] found = found
behind_last (b ∷ rest) found = behind_last rest (if b == 58 then Some rest else found)

-- digits that say, behind those of a number, one of at most 65535
abbrev pub says_port : (value : ℕ) → List ℕ → Bool
says_port value [] = true
says_port value (b ∷ rest) = is_ascii_digit b && (nat_le (value * 10 + (b - 48)) 65535 && says_port (value * 10 + (b - 48)) rest)

-- a port
abbrev pub is_port : List ℕ → Bool
is_port text = not (length text == 0) && says_port 0 text

abbrev pub are_zeros : List ℕ → Bool
are_zeros text = list_all (λ b. b == 48) text

abbrev pub has_colon : List ℕ → Bool
has_colon [] = false
has_colon (b ∷ rest) = if b == 58 then true else has_colon rest

abbrev pub has_two_colons : List ℕ → Bool
has_two_colons [] = false
has_two_colons (b ∷ rest) = if b == 58 then has_colon rest else has_two_colons rest

-- a byte of addresses of IPv6 (RFC 4291, section 2.2)
abbrev pub is_in_address : ℕ → Bool
is_in_address b = is_ascii_hexdigit b || (b == 58 || b == 46)

-- such bytes, and those of a scope's number, in front of a bracket at the end
abbrev pub is_closed : List ℕ → Bool
is_closed [] = false
is_closed (b ∷ rest) = if b == 93 then length rest == 0 else if is_in_address b || b == 37 then is_closed rest else false

-- such bytes, up to a scope's name
abbrev pub is_plain : List ℕ → Bool
is_plain [] = true
is_plain (b ∷ rest) = if b == 37 then true else if is_in_address b then is_plain rest else false

-- a name, or an address of IPv4
abbrev pub is_name : List ℕ → Bool
is_name text = list_all (λ b. is_ascii_alphanumeric b || (b == 45 || (b == 46 || (b == 95 || nat_le 128 b)))) text

-- an address of IPv6 without brackets, or a name
abbrev pub is_bare_host : List ℕ → Bool
is_bare_host text = if has_colon text then has_two_colons text && is_plain text else is_name text

-- a host: nothing, which is every address of the machine, an address of IPv6, or a name
abbrev pub is_host : List ℕ → Bool
is_host [] = true
is_host (b ∷ rest) = if b == 91 then has_two_colons (b ∷ rest) && is_closed rest else is_bare_host (b ∷ rest)

-- what stands in front of a port and its colon
abbrev pub host_before : (port text : List ℕ) → List ℕ
host_before port text = take (length text - length port - 1) text

-- an address at which a collector may listen: `HOST:PORT`, `[IPV6]:PORT` or `:PORT`
abbrev pub is_address_by : Option (List ℕ) → List ℕ → Bool
is_address_by None text = false
is_address_by (Some port) text = is_port port && is_host (host_before port text)

abbrev pub is_address : List ℕ → Bool
is_address text = is_address_by (behind_last text None) text

-- a host and a port to which lines may be sent: both are there, and the port isn't 0
abbrev pub is_backend_by : Option (List ℕ) → List ℕ → Bool
is_backend_by None text = false
is_backend_by (Some port) text = is_port port && (not (are_zeros port) && (not (length (host_before port text) == 0) && is_host (host_before port text)))

abbrev pub is_backend : List ℕ → Bool
is_backend text = is_backend_by (behind_last text None) text
