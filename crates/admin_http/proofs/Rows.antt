-- Worked rows, computed: where each request goes, and its answer, whole.
-- They serve the definitions that `heard`, `answer` and `serve` promise.
use Rattle.std.proofs.Common.{◌≡◌, true, false, refl, List, ℕ, [], ◌∷◌, ◌++◌, Some, None, Ok, Err}
use Rattle.std.specs.Prelude.{codes, map}
use Rattle.std.specs.Fmt.{digits}
use Rattle.hex.proofs.OnLiterals.{hex_on_literals}
use Rattle.http_text.specs.Lines.{Whole, Waits, cut, head_len}
use Rattle.http_text.specs.declared.request.RequestRefusal.TheVariants.{BadRequest, HeadTooLarge, MethodNotAllowed, NotFound as NotFoundThere}
use Rattle.http_text.specs.declared.request.HeadVerdict.{HeadVerdict}
use Rattle.http_text.specs.declared.request.HeadVerdict.TheVariants.{Refused, Close as CloseThere}
use Rattle.http_text.specs.Fields.{Header, is_foreign}
use Rattle.http_text.specs.Head.{verdict_by}
use Rattle.admin_http.specs.declared.asked.Method.TheVariants.{Get, Post}
use Rattle.admin_http.specs.declared.asked.Access.TheVariants.{Full, Numbers}
use Rattle.admin_http.specs.declared.asked.Route.{Route}
use Rattle.admin_http.specs.declared.asked.Route.TheVariants.{Close, Reopen, Metrics, Health, Config, Status, Decisions, Trace, Page, Forbidden, NotFound, WrongMethod, Bad, TooLarge}
use Rattle.admin_http.specs.declared.ends.Silence.TheVariants.{Quiet, Stopped}
use Rattle.admin_http.specs.declared.ends.TheConstants.{PIECE_LIMIT, QUIET_LIMIT, READ_LIMIT}
use Rattle.admin_http.specs.declared.asked.AdminRequest.{AdminRequest}
use Rattle.admin_http.specs.Asked.{asked, asked_by, numbers_routed, refused_as, routed, nothing}
use Rattle.admin_http.specs.Serving.{closes, is_counted, is_harmless, quiet_after, reopens}
use Rattle.admin_http.specs.Texts.{AdminState, answer_of, state}

-- the eight targets that are texts, each by its method
eight_targets : map (routed (codes "POST")) (codes "/close" ∷ codes "/reopen" ∷ [])
    ++ map (routed (codes "GET")) (codes "/metrics" ∷ codes "/healthz" ∷ codes "/config" ∷ codes "/status.json" ∷ codes "/decisions.json" ∷ codes "/" ∷ [])
    ≡ Close ∷ Reopen ∷ Metrics ∷ Health ∷ Config ∷ Status ∷ Decisions ∷ Page ∷ []
eight_targets = refl

-- a trace, by digits of either case, all of them zeros as well; by another method; and near targets: a digit less, one
-- more, one that is none, no ending, another one
of_traces : map (routed (codes "GET")) (codes "/trace/0123456789abcdefFEDCBA9876543210.json" ∷ codes "/trace/00000000000000000000000000000000.json" ∷ [])
    ++ map (routed (codes "POST")) (codes "/trace/00000000000000000000000000000000.json" ∷ codes "/decisions.json" ∷ [])
    ≡ Trace (1 ∷ 35 ∷ 69 ∷ 103 ∷ 137 ∷ 171 ∷ 205 ∷ 239 ∷ 254 ∷ 220 ∷ 186 ∷ 152 ∷ 118 ∷ 84 ∷ 50 ∷ 16 ∷ [])
    ∷ Trace (0 ∷ 0 ∷ 0 ∷ 0 ∷ 0 ∷ 0 ∷ 0 ∷ 0 ∷ 0 ∷ 0 ∷ 0 ∷ 0 ∷ 0 ∷ 0 ∷ 0 ∷ 0 ∷ [])
    ∷ WrongMethod Get ∷ WrongMethod Get ∷ []
unfolding hex_on_literals
of_traces = refl

near_traces : map (routed (codes "GET"))
    (codes "/trace/0123456789abcdef0123456789abcde.json" ∷ codes "/trace/0123456789abcdef0123456789abcdef0.json" ∷ codes "/trace/0123456789abcdef0123456789abcdeg.json"
    ∷ codes "/trace/0123456789abcdef0123456789abcdef" ∷ codes "/trace/0123456789abcdef0123456789abcdef.html" ∷ codes "/Trace/0123456789abcdef0123456789abcdef.json"
    ∷ codes "/trace/.json" ∷ codes "/decisions.json?last=100" ∷ codes "/decisions" ∷ [])
    ≡ NotFound ∷ NotFound ∷ NotFound ∷ NotFound ∷ NotFound ∷ NotFound ∷ NotFound ∷ NotFound ∷ NotFound ∷ []
unfolding hex_on_literals
near_traces = refl

-- where numbers alone may be asked for: two of them, and no other is there, by any method
two_targets : map (numbers_routed (codes "GET")) (codes "/metrics" ∷ codes "/healthz" ∷ codes "/config" ∷ codes "/close" ∷ codes "/reopen" ∷ codes "/metrics/" ∷ codes "/decisions.json" ∷ codes "/" ∷ [])
    ++ map (numbers_routed (codes "POST")) (codes "/metrics" ∷ codes "/healthz" ∷ codes "/config" ∷ codes "/close" ∷ codes "/reopen" ∷ [])
    ≡ Metrics ∷ Health ∷ NotFound ∷ NotFound ∷ NotFound ∷ NotFound ∷ NotFound ∷ NotFound
    ∷ WrongMethod Get ∷ WrongMethod Get ∷ NotFound ∷ NotFound ∷ NotFound ∷ []
two_targets = refl

-- nothing there has power, so nothing is forbidden
numbers_asked : asked_by Numbers (codes "POST") (codes "/close") false ∷ asked_by Numbers (codes "POST") (codes "/close") true
    ∷ asked_by Numbers (codes "POST") (codes "/metrics") true ∷ asked_by Numbers (codes "GET") (codes "/metrics") true
    ∷ asked_by Numbers (codes "HEAD") (codes "/healthz") false ∷ asked_by Numbers (codes "HEAD") (codes "/config") false ∷ []
    ≡ asked NotFound false ∷ asked NotFound false
    ∷ asked (WrongMethod Get) false ∷ asked Metrics false
    ∷ asked Health true ∷ asked NotFound true ∷ []
numbers_asked = refl

-- by another method; a method is told by its case, and where `GET` is one so is `HEAD`
other_methods : routed (codes "GET") (codes "/close") ∷ routed (codes "PUT") (codes "/reopen") ∷ routed (codes "POST") (codes "/metrics") ∷ routed (codes "PUT") (codes "/healthz") ∷ routed (codes "DELETE") (codes "/config") ∷ []
    ≡ WrongMethod Post ∷ WrongMethod Post ∷ WrongMethod Get ∷ WrongMethod Get ∷ WrongMethod Get ∷ []
other_methods = refl

near_methods : routed (codes "get") (codes "/metrics") ∷ routed (codes "GETS") (codes "/metrics") ∷ routed (codes "Post") (codes "/close") ∷ routed (codes "head") (codes "/healthz") ∷ routed (codes "HEADS") (codes "/config") ∷ []
    ≡ WrongMethod Get ∷ WrongMethod Get ∷ WrongMethod Post ∷ WrongMethod Get ∷ WrongMethod Get ∷ []
near_methods = refl

asked_by_head : map (routed (codes "HEAD")) (codes "/metrics" ∷ codes "/healthz" ∷ codes "/config" ∷ codes "/status.json" ∷ codes "/close" ∷ codes "/reopen" ∷ codes "/other" ∷ [])
    ≡ Metrics ∷ Health ∷ Config ∷ Status ∷ WrongMethod Post ∷ WrongMethod Post ∷ NotFound ∷ []
asked_by_head = refl

-- by `GET`, another target: with a query, with a slash more or less, in capitals, in absolute form, of the traces
near_targets : map (routed (codes "GET"))
    (codes "/metrics?x" ∷ codes "/metrics/" ∷ codes "metrics" ∷ codes "/Metrics" ∷ codes "//metrics" ∷ codes "http://x/metrics" ∷ codes "//" ∷ codes "" ∷ codes "/?" ∷ codes "/index.html" ∷ codes "/status" ∷ codes "/Status.json" ∷ codes "/status.json?x" ∷ codes "*" ∷ codes "/health" ∷ codes "/%6detrics" ∷ [])
    ≡ NotFound ∷ NotFound ∷ NotFound ∷ NotFound ∷ NotFound ∷ NotFound ∷ NotFound ∷ NotFound ∷ NotFound ∷ NotFound ∷ NotFound ∷ NotFound ∷ NotFound ∷ NotFound ∷ NotFound ∷ NotFound ∷ []
near_targets = refl

traces_there : routed (codes "POST") (codes "/v1/traces") ∷ routed (codes "POST") (codes "/close/") ∷ routed (codes "POST") (codes "/close?now") ∷ routed (codes "POST") (codes "/Reopen") ∷ []
    ≡ NotFound ∷ NotFound ∷ NotFound ∷ NotFound ∷ []
traces_there = refl

-- the answer to `HEAD` has no body, whatever it asks for
heads : asked_by Full (codes "HEAD") (codes "/metrics") false ∷ asked_by Full (codes "HEAD") (codes "/other") true ∷ asked_by Full (codes "GET") (codes "/other") false ∷ []
    ≡ asked Metrics true ∷ asked NotFound true ∷ asked NotFound false ∷ []
heads = refl

-- what a page of another site may have sent: a `POST` is refused, whatever it asks for; what only tells is answered
of_another_site : asked_by Full (codes "POST") (codes "/close") true ∷ asked_by Full (codes "POST") (codes "/metrics") true ∷ asked_by Full (codes "POST") (codes "/other") true
    ∷ asked_by Full (codes "GET") (codes "/metrics") true ∷ asked_by Full (codes "GET") (codes "/healthz") true ∷ asked_by Full (codes "GET") (codes "/close") true
    ∷ asked_by Full (codes "POST") (codes "/close") false ∷ asked_by Full (codes "POST") (codes "/reopen") true ∷ asked_by Full (codes "POST") (codes "/reopen") false ∷ []
    ≡ asked Forbidden false ∷ asked Forbidden false ∷ asked Forbidden false
    ∷ asked Metrics false ∷ asked Health false ∷ asked (WrongMethod Post) false
    ∷ asked Close false ∷ asked Forbidden false ∷ asked Reopen false ∷ []
of_another_site = refl

-- which routes have power, which are harmless (one that asks for the configuration has none, and isn't), and which tell
-- what was counted
routes : List Route
routes = Close ∷ Reopen ∷ Metrics ∷ Health ∷ Config ∷ Status ∷ Decisions ∷ Trace (7 ∷ []) ∷ Page ∷ Forbidden ∷ NotFound ∷ WrongMethod Get ∷ WrongMethod Post ∷ Bad ∷ TooLarge ∷ []

powers : map closes routes ++ (map reopens routes ++ (map is_harmless routes ++ map is_counted routes))
    ≡ (true ∷ false ∷ false ∷ false ∷ false ∷ false ∷ false ∷ false ∷ false ∷ false ∷ false ∷ false ∷ false ∷ false ∷ false ∷ [])
    ++ ((false ∷ true ∷ false ∷ false ∷ false ∷ false ∷ false ∷ false ∷ false ∷ false ∷ false ∷ false ∷ false ∷ false ∷ false ∷ [])
    ++ ((false ∷ false ∷ true ∷ true ∷ false ∷ true ∷ false ∷ false ∷ false ∷ true ∷ true ∷ true ∷ true ∷ true ∷ true ∷ [])
    ++ (false ∷ false ∷ true ∷ false ∷ false ∷ true ∷ true ∷ true ∷ false ∷ false ∷ false ∷ false ∷ false ∷ false ∷ false ∷ [])))
unfolding routes
powers = refl

-- by its fields
close_of : Header → List Header → AdminRequest
close_of named fields = asked_by Full (codes "POST") (codes "/close") (is_foreign (named ∷ fields))

own_address : Header
own_address = (codes "Host", codes "127.0.0.1:4319")

by_fields : close_of own_address [] ∷ close_of (codes "Host", codes "collector:4319") []
    ∷ close_of own_address ((codes "Origin", codes "http://127.0.0.1:4319") ∷ []) ∷ close_of own_address ((codes "Origin", codes "http://127.0.0.1:4318") ∷ [])
    ∷ close_of own_address ((codes "Origin", codes "null") ∷ []) ∷ close_of own_address ((codes "Sec-Fetch-Site", codes "cross-site") ∷ [])
    ∷ close_of (codes "Host", codes "evil.example:4319") ((codes "Origin", codes "http://evil.example:4319") ∷ []) ∷ []
    ≡ asked Close false ∷ asked Close false ∷ asked Close false ∷ asked Forbidden false
    ∷ asked Forbidden false ∷ asked Forbidden false ∷ asked Forbidden false ∷ []
unfolding close_of own_address
by_fields = refl

-- what is refused at the address of the traces: only a bad head, and one that is too large, is so here
refusals : refused_as (Refused BadRequest true) ∷ refused_as (Refused HeadTooLarge false) ∷ refused_as (Refused NotFoundThere false) ∷ refused_as (Refused MethodNotAllowed false) ∷ refused_as CloseThere ∷ []
    ≡ Some (asked Bad true) ∷ Some (asked TooLarge false) ∷ None ∷ None ∷ None ∷ []
refusals = refl

-- a head of HTTP/1.0, one without `Host` and one with two; and one that is as it should be
host : Header
host = (codes "Host", codes "x")

refused_for : ℕ → List Header → HeadVerdict
refused_for minor headers = verdict_by nothing (codes "GET") (codes "/metrics") minor headers

bad_heads : refused_as (refused_for 0 (host ∷ [])) ∷ refused_as (refused_for 1 []) ∷ refused_as (refused_for 1 (host ∷ host ∷ [])) ∷ refused_as (refused_for 1 (host ∷ [])) ∷ []
    ≡ Some (asked Bad false) ∷ Some (asked Bad false) ∷ Some (asked Bad false) ∷ None ∷ []
unfolding host refused_for
bad_heads = refl

-- a head that is whole, and a byte behind it; one that isn't
whole_head : cut head_len (codes "GET /metrics HTTP/1.1\r\nHost: x\r\n\r\nG") ≡ Whole 34
whole_head = refl

part_of_head : cut head_len (codes "GET /metrics HTTP/1.1\r\nHost: x\r\n") ≡ Waits
part_of_head = refl

-- the answers
open_state : AdminState
open_state = state false (codes "m 1\n") (codes "lanes = 2\n") (codes "<p>xy") (codes "X-A: b\r\nX-C: d\r\n")

closing_state : AdminState
closing_state = state true (codes "m 22\n") (codes "lanes = 3\n") (codes "<p>") []

answered : Route → AdminState → List ℕ
answered route s = answer_of (asked route false) s

-- of the collector; the numbers are told, too, while it closes
of_the_collector : answered Metrics open_state ∷ answered Health open_state ∷ answered Config open_state
    ∷ answered Close closing_state ∷ answered Metrics closing_state ∷ answered Health closing_state
    ∷ answered Reopen open_state ∷ answered Status open_state ∷ []
    ≡ (codes "HTTP/1.1 200 OK\r\nContent-Type: text/plain; version=0.0.4; charset=utf-8\r\nContent-Length: 4\r\n"
    ++ codes "Connection: close\r\n\r\nm 1\n")
    ∷ codes "HTTP/1.1 200 OK\r\nContent-Type: text/plain\r\nContent-Length: 3\r\nConnection: close\r\n\r\nok\n"
    ∷ (codes "HTTP/1.1 200 OK\r\nContent-Type: application/toml\r\nContent-Length: 10\r\n"
    ++ codes "Connection: close\r\n\r\nlanes = 2\n")
    ∷ codes "HTTP/1.1 200 OK\r\nContent-Type: application/json\r\nContent-Length: 2\r\nConnection: close\r\n\r\n{}"
    ∷ (codes "HTTP/1.1 200 OK\r\nContent-Type: text/plain; version=0.0.4; charset=utf-8\r\nContent-Length: 5\r\n"
    ++ codes "Connection: close\r\n\r\nm 22\n")
    ∷ (codes "HTTP/1.1 503 Service Unavailable\r\nContent-Type: text/plain\r\nContent-Length: 8\r\n"
    ++ codes "Connection: close\r\n\r\nclosing\n")
    ∷ codes "HTTP/1.1 200 OK\r\nContent-Type: application/json\r\nContent-Length: 2\r\nConnection: close\r\n\r\n{}"
    ∷ codes "HTTP/1.1 200 OK\r\nContent-Type: application/json\r\nContent-Length: 4\r\nConnection: close\r\n\r\nm 1\n" ∷ []
unfolding answered digits open_state closing_state
of_the_collector = refl

-- the page, with the fields that go with it; its length is that of its bytes
the_page : answered Page open_state ∷ answered Page closing_state ∷ answer_of (asked Page true) open_state ∷ []
    ≡ codes "HTTP/1.1 200 OK\r\nContent-Type: text/html; charset=utf-8\r\nContent-Length: 5\r\nX-A: b\r\nX-C: d\r\nConnection: close\r\n\r\n<p>xy"
    ∷ codes "HTTP/1.1 200 OK\r\nContent-Type: text/html; charset=utf-8\r\nContent-Length: 3\r\nConnection: close\r\n\r\n<p>"
    ∷ codes "HTTP/1.1 200 OK\r\nContent-Type: text/html; charset=utf-8\r\nContent-Length: 5\r\nX-A: b\r\nX-C: d\r\nConnection: close\r\n\r\n" ∷ []
unfolding answered digits open_state closing_state
the_page = refl

forbidden : answered Forbidden open_state
    ≡ codes "HTTP/1.1 403 Forbidden\r\nContent-Type: application/json\r\nContent-Length: 23\r\nConnection: close\r\n\r\n{\"message\":\"forbidden\"}"
unfolding answered digits
forbidden = refl

not_answered : answered NotFound open_state ∷ answered (WrongMethod Get) open_state
    ∷ answered Bad open_state ∷ answered TooLarge open_state ∷ []
    ≡ (codes "HTTP/1.1 404 Not Found\r\nContent-Type: application/json\r\nContent-Length: 23\r\n"
    ++ codes "Connection: close\r\n\r\n{\"message\":\"not found\"}")
    ∷ (codes "HTTP/1.1 405 Method Not Allowed\r\nContent-Type: application/json\r\nContent-Length: 32\r\n"
    ++ codes "Allow: GET, HEAD\r\nConnection: close\r\n\r\n{\"message\":\"method not allowed\"}")
    ∷ (codes "HTTP/1.1 400 Bad Request\r\nContent-Type: application/json\r\nContent-Length: 25\r\n"
    ++ codes "Connection: close\r\n\r\n{\"message\":\"bad request\"}")
    ∷ (codes "HTTP/1.1 431 Request Header Fields Too Large\r\nContent-Type: application/json\r\nContent-Length: 28\r\n"
    ++ codes "Connection: close\r\n\r\n{\"message\":\"head too large\"}") ∷ []
unfolding answered digits
not_answered = refl

-- the length is that of the body which `GET` would have had
wrong_method_of_head : answer_of (asked (WrongMethod Post) true) open_state
    ≡ codes "HTTP/1.1 405 Method Not Allowed\r\nContent-Type: application/json\r\nContent-Length: 32\r\nAllow: POST\r\nConnection: close\r\n\r\n"
unfolding digits
wrong_method_of_head = refl

of_head : answer_of (asked Metrics true) open_state ∷ answer_of (asked Health true) closing_state ∷ answer_of (asked Config true) closing_state ∷ []
    ≡ codes "HTTP/1.1 200 OK\r\nContent-Type: text/plain; version=0.0.4; charset=utf-8\r\nContent-Length: 4\r\nConnection: close\r\n\r\n"
    ∷ codes "HTTP/1.1 503 Service Unavailable\r\nContent-Type: text/plain\r\nContent-Length: 8\r\nConnection: close\r\n\r\n"
    ∷ codes "HTTP/1.1 200 OK\r\nContent-Type: application/toml\r\nContent-Length: 10\r\nConnection: close\r\n\r\n" ∷ []
unfolding digits open_state closing_state
of_head = refl

-- how many bytes a read gives at most, how many reads are made, and how many may give nothing
limits : PIECE_LIMIT ∷ READ_LIMIT ∷ QUIET_LIMIT ∷ [] ≡ 4096 ∷ 1024 ∷ 50 ∷ []
limits = refl

-- reads that gave nothing: the first, the last but one, and the last of them; and one while the collector closes
reads_of_nothing : quiet_after 0 false ∷ quiet_after 48 false ∷ quiet_after 49 false ∷ quiet_after 7 true ∷ [] ≡ Ok 1 ∷ Ok 49 ∷ Err Quiet ∷ Err Stopped ∷ []
reads_of_nothing = refl
