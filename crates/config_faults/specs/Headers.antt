-- Which fields each request to a backend may have beside its own (`export.headers`).
use Rattle.std.specs.Prelude.{ℕ, Bool, ◌&&◌, ◌||◌, not, List, codes}
use Rattle.http1.specs.Head.{is_header}
use Rattle.http1.specs.Text.{eq_ignore_case}

-- a field that says where a request goes or what its body is (RFC 9110, sections 7.2, 8.3, 8.4 and 8.6)
abbrev pub is_content_name : List ℕ → Bool
is_content_name name =
    eq_ignore_case name (codes "host") || eq_ignore_case name (codes "content-type") || eq_ignore_case name (codes "content-length") || eq_ignore_case name (codes "content-encoding")

-- a field that says how it is sent (RFC 9110, sections 7.6.1, 7.8 and 10.1.1; RFC 9112, section 6.1)
abbrev pub is_connection_name : List ℕ → Bool
is_connection_name name =
    eq_ignore_case name (codes "transfer-encoding") || eq_ignore_case name (codes "connection") || eq_ignore_case name (codes "expect") || eq_ignore_case name (codes "upgrade")

-- one that is the collector's own to send, or not to send
abbrev pub is_own_name : List ℕ → Bool
is_own_name name = is_content_name name || is_connection_name name

-- a field may be sent with each request: the name is a token, the value has no control byte but the tab and no white
-- space at either end (RFC 9110, section 5), and it isn't the collector's own
abbrev pub may_be_sent : (name value : List ℕ) → Bool
may_be_sent name value = is_header (name, value) && not (is_own_name name)
