-- Worked rows, computed: where a head ends and how many fields it has, what its parts come to, and the limits.
-- They serve the definitions that `judge` and `cut_on` promise.
use Rattle.std.proofs.Common.{◌≡◌, ◌++◌, true, false, refl, List, ℕ, Some, None, [], ◌∷◌, arith, rules}
use Rattle.std.specs.Prelude.{codes, map}
use Rattle.otlp_encoding.specs.declared.encoding.Encoding.{Encoding}
use Rattle.otlp_encoding.specs.declared.encoding.Encoding.TheVariants.{Json, Protobuf}
use Rattle.http_text.specs.declared.allowed.Allowed.{Allowed}
use Rattle.http_text.specs.declared.lines.TheConstants.{PART_LIMIT}
use Rattle.http_text.specs.declared.request.TheConstants.{FIELD_LIMIT}
use Rattle.http_text.specs.declared.request.HeadVerdict.{HeadVerdict}
use Rattle.http_text.specs.declared.request.HeadVerdict.TheVariants.{Refused, Close, Post as Posted}
use Rattle.http_text.specs.declared.request.RequestRefusal.TheVariants.{BadRequest, NotFound, MethodNotAllowed, Forbidden, UnsupportedMediaType, NeitherMediaType, GzipIsOff, UnsupportedCoding, NeitherCoding, BodyTooLarge}
use Rattle.http_text.specs.declared.request.Framing.TheVariants.{Length, Chunked}
use Rattle.http_text.specs.Body.{BySize, GivesSize, waits, refuses}
use Rattle.http_text.specs.Lines.{head_len, trailer_len, line_len, blank_len}
use Rattle.http_text.specs.Fields.{Header, coding_of, elements, framing, is_plain, is_packed, is_taken, is_own_host, is_own_origin, is_own_site}
use Rattle.http_text.specs.Head.{fits, posted, routed, verdict_by, field_lines}
use Rattle.http_text.specs.Host.{is_host}
use Rattle.httparse.specs.Grammar.{ChunkLine, print_chunk_line, trim_ows}
use Rattle.httparse.specs.Ascii.{crlf_bytes}

-- what is allowed by default; with packed bodies; where an address of its own closes; with bodies of 20 MiB, or of 7
-- bytes; and with bodies in protobuf
abbrev by_default : Allowed
by_default = record { gzip = false; protobuf = false; close = true; body_limit = 4194304 }

abbrev with_gzip : Allowed
with_gzip = record { gzip = true; protobuf = false; close = true; body_limit = 4194304 }

abbrev never_closed : Allowed
never_closed = record { gzip = false; protobuf = false; close = false; body_limit = 4194304 }

abbrev with_large : Allowed
with_large = record { gzip = false; protobuf = false; close = false; body_limit = 20971520 }

abbrev with_small : Allowed
with_small = record { gzip = true; protobuf = false; close = true; body_limit = 7 }

abbrev with_protobuf : Allowed
with_protobuf = record { gzip = false; protobuf = true; close = true; body_limit = 4194304 }

abbrev line : List ℕ → List ℕ
line text = text ++ crlf_bytes

-- a head, and a byte of what follows
get_head : head_len (line (codes "GET /v1/traces HTTP/1.1") ++ line (codes "Host: x") ++ crlf_bytes ++ codes "P") ≡ Some 36
get_head = refl

get_fields : field_lines (line (codes "GET /v1/traces HTTP/1.1") ++ line (codes "Host: x") ++ crlf_bytes) ≡ 1
get_fields = refl

posted_verdict : verdict_by by_default (codes "POST") (codes "/v1/traces") 1 ((codes "host", codes "x") ∷ (codes "CONTENT-TYPE", codes "Application/json ; charset=utf-8") ∷ (codes "Content-Length", codes "002") ∷ [])
    ≡ Posted (record { framing = Length 2; encoding = Json; expects_continue = false; is_packed = false; says_close = false })
unfolding trim_ows
posted_verdict = refl

-- how many bytes a head, a chunk line and a trailer may have, and how many fields a section
limits : PART_LIMIT ∷ FIELD_LIMIT ∷ [] ≡ 16384 ∷ 64 ∷ []
limits = refl

-- a body of just so many bytes, and one of a byte more
bodies_at_the_greatest : fits 4194304 (Length 4194304) ∷ fits 4194304 (Length 4194305) ∷ [] ≡ true ∷ false ∷ []
bodies_at_the_greatest = refl

bodies_at_another_limit : fits 20971520 (Length 20971520) ∷ fits 20971520 (Length 20971521) ∷ fits 7 (Length 7)
    ∷ fits 7 (Length 8) ∷ fits 0 (Length 0) ∷ fits 0 (Length 1) ∷ fits 7 Chunked ∷ []
    ≡ true ∷ false ∷ true ∷ false ∷ true ∷ false ∷ true ∷ []
bodies_at_another_limit = refl

-- empty lines in front of a head are no fields of it: two of them, of 2 bytes and of 1, and a head with 1 field
behind_empty_lines : List ℕ
behind_empty_lines =
    crlf_bytes ++ codes "\n" ++ line (codes "GET /v1/traces HTTP/1.1") ++ line (codes "Host: x") ++ crlf_bytes

empty_lines : blank_len behind_empty_lines ≡ 3
unfolding behind_empty_lines
empty_lines = refl

empty_lines_are_no_fields : field_lines behind_empty_lines ≡ 1
unfolding behind_empty_lines
empty_lines_are_no_fields = refl

head_behind_empty_lines : head_len (behind_empty_lines ++ codes "POST") ≡ Some 39
unfolding behind_empty_lines
head_behind_empty_lines = refl

-- a trailer may be empty, and a chunk line ends at its LF
empty_trailer : trailer_len (crlf_bytes ++ codes "POST") ≡ Some 2
empty_trailer = refl

chunk_line : line_len (line (codes "1a;b") ++ codes "POST") ≡ Some 6
chunk_line = refl

-- fields of requests
host_field : Header
host_field = (codes "Host", codes "x")

json_field : Header
json_field = (codes "Content-Type", codes "application/json")

length_field : Header
length_field = (codes "Content-Length", codes "7")

-- a message of another version than 1.1, of no `Host` or of two, or with two lengths, is refused whatever it asks for
verdict_of_version : ℕ → HeadVerdict
verdict_of_version minor =
    verdict_by by_default (codes "POST") (codes "/v1/traces") minor (host_field ∷ json_field ∷ length_field ∷ [])

by_version : verdict_of_version 0 ∷ verdict_of_version 1 ∷ verdict_of_version 2 ∷ []
    ≡ Refused BadRequest false
    ∷ Posted (record { framing = Length 7; encoding = Json; expects_continue = false; is_packed = false; says_close = false })
    ∷ Refused BadRequest false ∷ []
unfolding verdict_of_version host_field json_field length_field trim_ows
by_version = refl

no_host : verdict_by by_default (codes "POST") (codes "/v1/traces") 1 (json_field ∷ length_field ∷ []) ≡ Refused BadRequest false
unfolding json_field length_field
no_host = refl

two_hosts : verdict_by by_default (codes "POST") (codes "/close") 1 (host_field ∷ (codes "HOST", codes "y") ∷ [])
    ≡ Refused BadRequest false
unfolding host_field
two_hosts = refl

no_host_of_head : verdict_by by_default (codes "HEAD") (codes "/v1/traces") 1 [] ≡ Refused BadRequest true
no_host_of_head = refl

unframed_head : verdict_by by_default (codes "HEAD") (codes "/close") 1 (host_field ∷ length_field ∷ length_field ∷ [])
    ≡ Refused BadRequest true
unfolding host_field length_field
unframed_head = refl

-- by target and method: another target goes before another method, and the answer to `HEAD` has no body
verdict_of : List ℕ → List ℕ → HeadVerdict
verdict_of method target = verdict_by by_default method target 1 (host_field ∷ [])

by_target : verdict_of (codes "GET") (codes "/v1/traces") ∷ verdict_of (codes "HEAD") (codes "/v1/traces")
    ∷ verdict_of (codes "GET") (codes "/close") ∷ verdict_of (codes "HEAD") (codes "/close")
    ∷ verdict_of (codes "GET") (codes "/v1/logs") ∷ verdict_of (codes "HEAD") (codes "/v1/traces/")
    ∷ verdict_of (codes "POST") (codes "/Close") ∷ verdict_of (codes "POST") (codes "/close") ∷ []
    ≡ Refused MethodNotAllowed false ∷ Refused MethodNotAllowed true
    ∷ Refused MethodNotAllowed false ∷ Refused MethodNotAllowed true
    ∷ Refused NotFound false ∷ Refused NotFound true
    ∷ Refused NotFound false ∷ Close ∷ []
unfolding verdict_of host_field
by_target = refl

-- a close needs neither JSON nor a body within the limit
close_of_anything : routed by_default (codes "POST") (codes "/close") [] (Length 4194306) ≡ Close
close_of_anything = refl

-- hosts that no site of the internet can have, with a port or without one: addresses of both versions, names without a
-- dot, none
own_hosts : map is_own_host
    (codes "127.0.0.1" ∷ codes "10.1.2.3:4319" ∷ codes "[::1]" ∷ codes "[fe80::1.2.3.4]:4318" ∷ codes "localhost:4319" ∷ codes "collector:4319" ∷ codes "tsc" ∷ [] ∷ codes ":4319" ∷ [])
    ≡ true ∷ true ∷ true ∷ true ∷ true ∷ true ∷ true ∷ true ∷ true ∷ []
own_hosts = refl

foreign_hosts : map is_own_host
    (codes "evil.example" ∷ codes "evil.example:4319" ∷ codes "127.0.0.1.evil.example" ∷ codes "localhost.evil.example:4318" ∷ codes "evil." ∷ codes "1.2.3.x" ∷ [])
    ≡ false ∷ false ∷ false ∷ false ∷ false ∷ false ∷ []
foreign_hosts = refl

-- what may be a `Host`: a name, an address, no host at all, and any port or none
hosts : map is_host
    (codes "x" ∷ codes "Collector.example:4318" ∷ codes "10.1.2.3" ∷ codes "a_b-c~" ∷ codes "a%2Fb%c3" ∷ codes "[::1]" ∷ codes "[fe80::1.2.3.4]:4318" ∷ [] ∷ codes ":80" ∷ codes "x:" ∷ codes "a,b" ∷ [])
    ≡ true ∷ true ∷ true ∷ true ∷ true ∷ true ∷ true ∷ true ∷ true ∷ true ∷ true ∷ []
hosts = refl

no_hosts : map is_host
    (codes "a b" ∷ codes "a/b" ∷ codes "user@x" ∷ codes "x:4a" ∷ codes "x:1:2" ∷ codes "a%2" ∷ codes "a%2g" ∷ codes "[::1" ∷ codes "[]" ∷ codes "[::1]4318" ∷ codes "[a/b]" ∷ codes "::1" ∷ (195 ∷ 188 ∷ []) ∷ codes "x?" ∷ codes "\"x\"" ∷ [])
    ≡ false ∷ false ∷ false ∷ false ∷ false ∷ false ∷ false ∷ false ∷ false ∷ false ∷ false ∷ false ∷ false ∷ false ∷ false ∷ []
no_hosts = refl

-- a request whose `Host` can't be one is refused whatever it asks for
bad_host : verdict_by by_default (codes "POST") (codes "/close") 1 ((codes "Host", codes "x/y") ∷ []) ≡ Refused BadRequest false
bad_host = refl

-- an `Origin` is the host's where it is `http://` and just the host, in any letters
origins : map (is_own_origin (codes "box:4319"))
    (codes "http://box:4319" ∷ codes "HTTP://Box:4319" ∷ codes "https://box:4319" ∷ codes "http://box" ∷ codes "http://box:43191" ∷ codes "http://other:4319" ∷ codes "null" ∷ codes "http:/" ∷ [] ∷ codes "box:4319" ∷ [])
    ≡ true ∷ true ∷ false ∷ false ∷ false ∷ false ∷ false ∷ false ∷ false ∷ false ∷ []
origins = refl

sites : map is_own_site (codes "same-origin" ∷ codes "none" ∷ codes "Same-Origin" ∷ codes "same-site" ∷ codes "cross-site" ∷ [] ∷ [])
    ≡ true ∷ true ∷ true ∷ false ∷ false ∷ false ∷ []
sites = refl

-- a request to close with these fields: what a client says that is no browser, a page of the address itself, a page of
-- another site, a form whose origin is hidden, one of two origins, and a name that leads to the address
close_of : List ℕ → List Header → HeadVerdict
close_of host fields = verdict_by by_default (codes "POST") (codes "/close") 1 ((codes "Host", host) ∷ fields)

closes : close_of (codes "127.0.0.1:4318") [] ∷ close_of (codes "tsc") []
    ∷ close_of (codes "127.0.0.1:4318") ((codes "origin", codes "http://127.0.0.1:4318") ∷ (codes "sec-fetch-site", codes "same-origin") ∷ [])
    ∷ close_of (codes "127.0.0.1:4318") ((codes "Sec-Fetch-Site", codes "none") ∷ [])
    ∷ close_of (codes "127.0.0.1:4318") ((codes "Original", codes "http://evil.example") ∷ [])
    ∷ [] ≡ Close ∷ Close ∷ Close ∷ Close ∷ Close ∷ []
unfolding close_of
closes = refl

closes_of_others : close_of (codes "127.0.0.1:4318") ((codes "Origin", codes "http://evil.example") ∷ [])
    ∷ close_of (codes "127.0.0.1:4318") ((codes "ORIGIN", codes "null") ∷ [])
    ∷ close_of (codes "127.0.0.1:4318") ((codes "Origin", codes "http://127.0.0.1:4318") ∷ (codes "Origin", codes "http://evil.example") ∷ [])
    ∷ close_of (codes "127.0.0.1:4318") ((codes "Origin", codes "http://127.0.0.1:4318") ∷ (codes "Sec-Fetch-Site", codes "cross-site") ∷ [])
    ∷ close_of (codes "127.0.0.1:4318") ((codes "Sec-Fetch-Site", codes "same-site") ∷ [])
    ∷ close_of (codes "evil.example:4318") []
    ∷ close_of (codes "evil.example:4318") ((codes "Origin", codes "http://evil.example:4318") ∷ []) ∷ []
    ≡ Refused Forbidden false ∷ Refused Forbidden false ∷ Refused Forbidden false ∷ Refused Forbidden false
    ∷ Refused Forbidden false ∷ Refused Forbidden false ∷ Refused Forbidden false ∷ []
unfolding close_of
closes_of_others = refl

-- what has no power isn't held against anybody: traces, and where there is no such target
traces_of_others : verdict_by never_closed (codes "POST") (codes "/close") 1 ((codes "Host", codes "evil.example") ∷ [])
    ∷ verdict_by by_default (codes "GET") (codes "/close") 1 ((codes "Host", codes "evil.example") ∷ [])
    ∷ verdict_by by_default (codes "POST") (codes "/v1/traces") 1 ((codes "Host", codes "evil.example") ∷ json_field ∷ (codes "Origin", codes "http://a.example") ∷ []) ∷ []
    ≡ Refused NotFound false ∷ Refused MethodNotAllowed false
    ∷ Posted (record { framing = Length 0; encoding = Json; expects_continue = false; is_packed = false; says_close = false }) ∷ []
unfolding json_field trim_ows
traces_of_others = refl

-- where it isn't allowed there is no such target, whatever the method
close_not_allowed : routed never_closed (codes "POST") (codes "/close") [] (Length 5)
    ∷ routed never_closed (codes "HEAD") (codes "/close") [] (Length 5)
    ∷ routed never_closed (codes "GET") (codes "/v1/traces") [] (Length 5) ∷ []
    ≡ Refused NotFound false ∷ Refused NotFound true ∷ Refused MethodNotAllowed false ∷ []
close_not_allowed = refl

-- a media type that isn't JSON, or a coding of it, goes before a body beyond the limit
beyond_the_limit : posted by_default (codes "POST") ((codes "Content-Type", codes "text/plain") ∷ []) (Length 4194305)
    ∷ posted by_default (codes "POST") (json_field ∷ (codes "Content-Encoding", codes "gzip") ∷ []) (Length 4194305)
    ∷ posted by_default (codes "POST") (json_field ∷ []) (Length 4194305) ∷ []
    ≡ Refused UnsupportedMediaType false ∷ Refused GzipIsOff false ∷ Refused BodyTooLarge false ∷ []
unfolding json_field trim_ows
beyond_the_limit = refl

media_types : posted by_default (codes "POST") [] (Length 5)
    ∷ posted by_default (codes "POST") (json_field ∷ json_field ∷ []) (Length 5) ∷ []
    ≡ Refused UnsupportedMediaType false ∷ Refused UnsupportedMediaType false ∷ []
unfolding json_field
media_types = refl

json_in_chunks : posted by_default (codes "POST") (json_field ∷ (codes "Expect", codes "100-Continue") ∷ []) Chunked
    ≡ Posted (record { framing = Chunked; encoding = Json; expects_continue = true; is_packed = false; says_close = false })
unfolding json_field trim_ows
json_in_chunks = refl

json_that_closes : posted by_default (codes "POST") (json_field ∷ (codes "Connection", codes "keep-alive, Close") ∷ []) (Length 3)
    ≡ Posted (record { framing = Length 3; encoding = Json; expects_continue = false; is_packed = false; says_close = true })
unfolding json_field trim_ows
json_that_closes = refl

identity_is_plain : is_plain ((codes "content-encoding", codes "Identity") ∷ []) ≡ true
unfolding trim_ows
identity_is_plain = refl

-- empty elements of a list are passed over, and so is white space around elements
lists : elements (codes "a,b") ∷ elements (codes ",, a b ,\t,c,") ∷ elements [] ∷ elements (codes " , ,") ∷ []
    ≡ (codes "a" ∷ codes "b" ∷ []) ∷ (codes "a b" ∷ codes "c" ∷ []) ∷ [] ∷ [] ∷ []
unfolding trim_ows
lists = refl

-- the coding that a field says: a list of none, or of more, says none that is known
codings_said : map coding_of (codes "gzip" ∷ codes "gzip," ∷ codes " , ,x-gzip\t, " ∷ [] ∷ codes ", ," ∷ codes "identity, gzip" ∷ codes "br,,br" ∷ [])
    ≡ codes "gzip" ∷ codes "gzip" ∷ codes "x-gzip" ∷ [] ∷ codes ", ," ∷ codes "identity, gzip" ∷ codes "br,,br" ∷ []
unfolding trim_ows
codings_said = refl

-- how fields frame a body: a length beyond the limit stands for the first one there
framings : framing 4194304 [] ∷ framing 4194304 (length_field ∷ [])
    ∷ framing 4194304 ((codes "content-length", codes "0099999999") ∷ [])
    ∷ framing 4194304 ((codes "transfer-encoding", codes "Chunked") ∷ []) ∷ []
    ≡ Some (Length 0) ∷ Some (Length 7) ∷ Some (Length 4194305) ∷ Some Chunked ∷ []
unfolding length_field trim_ows
framings = refl

framings_of_lists : framing 4194304 ((codes "Transfer-Encoding", codes ",chunked ,,") ∷ [])
    ∷ framing 4194304 ((codes "Transfer-Encoding", codes "chunked,chunked") ∷ [])
    ∷ framing 4194304 ((codes "Transfer-Encoding", codes "gzip,,chunked") ∷ [])
    ∷ framing 4194304 ((codes "Transfer-Encoding", codes ", ,") ∷ [])
    ∷ framing 4194304 ((codes "Transfer-Encoding", codes "chunked,") ∷ (codes "Transfer-Encoding", []) ∷ []) ∷ []
    ≡ Some Chunked ∷ None ∷ None ∷ None ∷ None ∷ []
unfolding trim_ows
framings_of_lists = refl

no_framings : framing 4194304 (length_field ∷ length_field ∷ [])
    ∷ framing 4194304 (length_field ∷ (codes "Transfer-Encoding", codes "chunked") ∷ [])
    ∷ framing 4194304 ((codes "Content-Length", codes "+7") ∷ []) ∷ framing 4194304 ((codes "Content-Length", []) ∷ [])
    ∷ framing 4194304 ((codes "Transfer-Encoding", codes "gzip") ∷ []) ∷ []
    ≡ None ∷ None ∷ None ∷ None ∷ None ∷ []
unfolding length_field trim_ows
no_framings = refl

-- where 3 bytes of at most 7 have come in chunks: a chunk of 4 is the last that fits
chunk_at_the_limit : BySize 7 3 4 (codes "abcd") waits
chunk_at_the_limit = record { last = λ z. absurd (omega (arith, z)); large = λ p q. absurd (omega (arith, q)); cut = λ p q. record { short = λ lt. absurd (omega (arith, lt)); long = λ le. (refl, refl) } }

chunk_beyond_the_limit : BySize 7 3 5 (codes "abcde") (refuses BodyTooLarge)
chunk_beyond_the_limit = record { last = λ z. absurd (omega (arith, z)); large = λ p q. refl; cut = λ p q. absurd (omega (arith, q)) }

-- by another limit: 21 MiB less a byte, above 20 MiB; and the limit itself
framings_by_limit : framing 20971520 ((codes "Content-Length", codes "22020095") ∷ [])
    ∷ framing 20971520 ((codes "Content-Length", codes "20971520") ∷ [])
    ∷ framing 7 ((codes "Content-Length", codes "9") ∷ []) ∷ []
    ≡ Some (Length 20971521) ∷ Some (Length 20971520) ∷ Some (Length 8) ∷ []
framings_by_limit = refl

-- a request whose head says so many bytes, by what is allowed
verdict_of_length : Allowed → List ℕ → HeadVerdict
verdict_of_length allowed digits = verdict_by allowed (codes "POST") (codes "/v1/traces") 1
    (host_field ∷ json_field ∷ (codes "Content-Length", digits) ∷ [])

by_limit : verdict_of_length with_large (codes "20971520") ∷ verdict_of_length with_large (codes "20971521")
    ∷ verdict_of_length with_small (codes "7") ∷ verdict_of_length with_small (codes "8")
    ∷ verdict_of_length by_default (codes "20971520") ∷ []
    ≡ Posted (record { framing = Length 20971520; encoding = Json; expects_continue = false; is_packed = false; says_close = false })
    ∷ Refused BodyTooLarge false
    ∷ Posted (record { framing = Length 7; encoding = Json; expects_continue = false; is_packed = false; says_close = false })
    ∷ Refused BodyTooLarge false ∷ Refused BodyTooLarge false ∷ []
unfolding verdict_of_length host_field json_field trim_ows
by_limit = refl

-- content codings, where gzip is taken: `gzip` or `x-gzip` alone, beside `identity` or without it
gzip_field : Header
gzip_field = (codes "CONTENT-encoding", codes "GZip")

coded : List ℕ → Header
coded value = (codes "Content-Encoding", value)

packings : is_packed [] ∷ is_packed (gzip_field ∷ []) ∷ is_packed (coded (codes "x-gzip") ∷ [])
    ∷ is_packed (coded (codes "identity") ∷ [])
    ∷ is_packed (coded (codes "identity") ∷ coded (codes "x-gzip") ∷ []) ∷ is_packed (gzip_field ∷ gzip_field ∷ [])
    ∷ is_packed (coded (codes "deflate") ∷ []) ∷ is_packed (coded (codes "gzip, gzip") ∷ [])
    ∷ is_packed ((codes "Accept-Encoding", codes "gzip") ∷ []) ∷ []
    ≡ false ∷ true ∷ true ∷ false ∷ true ∷ false ∷ false ∷ false ∷ false ∷ []
unfolding gzip_field coded trim_ows
packings = refl

packings_by_lists : is_packed (coded (codes ",gzip") ∷ []) ∷ is_packed (coded (codes "identity,") ∷ coded (codes "gzip, ,") ∷ [])
    ∷ is_packed (coded (codes "gzip,gzip") ∷ []) ∷ is_packed (coded (codes "identity,gzip") ∷ [])
    ∷ is_plain (coded (codes ", identity") ∷ []) ∷ is_plain (coded (codes "identity,identity") ∷ []) ∷ is_plain (coded (codes ",") ∷ []) ∷ []
    ≡ true ∷ true ∷ false ∷ false ∷ true ∷ false ∷ false ∷ []
unfolding coded trim_ows
packings_by_lists = refl

takings : is_taken with_gzip (gzip_field ∷ []) ∷ is_taken by_default (gzip_field ∷ [])
    ∷ is_taken with_gzip (coded (codes "identity") ∷ [])
    ∷ is_taken by_default (coded (codes "identity") ∷ [])
    ∷ is_taken with_gzip (gzip_field ∷ coded (codes "x-gzip") ∷ [])
    ∷ is_taken with_gzip [] ∷ is_taken by_default [] ∷ []
    ≡ true ∷ false ∷ true ∷ true ∷ false ∷ true ∷ true ∷ []
unfolding gzip_field coded trim_ows
takings = refl

-- why a coding isn't taken: gzip where it is off, and any other, there and where gzip is taken; another type goes before
-- a coding
refused_codings : posted by_default (codes "POST") (json_field ∷ coded (codes "x-gzip") ∷ []) (Length 5)
    ∷ posted by_default (codes "POST") (json_field ∷ coded (codes "zstd") ∷ []) (Length 5)
    ∷ posted with_gzip (codes "POST") (json_field ∷ coded (codes "zstd") ∷ []) (Length 5)
    ∷ posted with_gzip (codes "POST") (json_field ∷ gzip_field ∷ gzip_field ∷ []) (Length 5)
    ∷ posted by_default (codes "POST") (coded (codes "gzip") ∷ []) (Length 5) ∷ []
    ≡ Refused GzipIsOff false ∷ Refused UnsupportedCoding false ∷ Refused NeitherCoding false ∷ Refused NeitherCoding false
    ∷ Refused UnsupportedMediaType false ∷ []
unfolding json_field gzip_field coded trim_ows
refused_codings = refl

gzip_taken : posted with_gzip (codes "POST")
    (json_field ∷ coded (codes "x-gzip") ∷ (codes "Expect", codes "100-continue") ∷ []) (Length 21)
    ≡ Posted (record { framing = Length 21; encoding = Json; expects_continue = true; is_packed = true; says_close = false })
unfolding json_field coded trim_ows
gzip_taken = refl

gzip_beyond_the_limit : posted with_gzip (codes "POST") (json_field ∷ gzip_field ∷ []) (Length 4194305) ≡ Refused BodyTooLarge false
unfolding json_field gzip_field trim_ows
gzip_beyond_the_limit = refl

deflate_beyond_the_limit : posted with_gzip (codes "POST") (json_field ∷ coded (codes "deflate") ∷ []) (Length 4194305)
    ≡ Refused NeitherCoding false
unfolding json_field coded trim_ows
deflate_beyond_the_limit = refl

-- a body in protobuf is taken where the setting says so, with any parameter and in either case; one in JSON as ever
abbrev protobuf_field : Header
protobuf_field = (codes "content-type", codes "Application/X-Protobuf; q=1")

abbrev post_in : Encoding → HeadVerdict
post_in encoding = Posted (record { framing = Length 5; encoding = encoding; expects_continue = false; is_packed = false; says_close = false })

encodings_by_type : posted with_protobuf (codes "POST") (protobuf_field ∷ []) (Length 5)
    ∷ posted with_protobuf (codes "POST") (json_field ∷ []) (Length 5)
    ∷ posted with_protobuf (codes "POST") ((codes "Content-Type", codes "application/protobuf") ∷ []) (Length 5)
    ∷ posted with_protobuf (codes "POST") (protobuf_field ∷ protobuf_field ∷ []) (Length 5)
    ∷ posted by_default (codes "POST") (protobuf_field ∷ []) (Length 5) ∷ []
    ≡ post_in Protobuf ∷ post_in Json ∷ Refused NeitherMediaType false ∷ Refused NeitherMediaType false ∷ Refused UnsupportedMediaType false ∷ []
unfolding trim_ows json_field
encodings_by_type = refl

-- the line of a chunk: its digits to the base sixteen, whatever stands behind them
abbrev sized_line : ChunkLine
sized_line = record { digits = codes "2f"; pad = codes " \t"; extension = Some (codes "a=b") }

size_of_a_line : GivesSize (codes "2f \t;a=b\r\n") 47
unfolding print_chunk_line
size_of_a_line = (sized_line, (record { digits = (omega (arith), omega (arith), search rules); pad = search rules; extension = search rules }, refl), refl)
