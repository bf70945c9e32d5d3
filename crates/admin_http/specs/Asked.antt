-- What the head at the front of a stream asks for (RFC 9112, sections 2 to 3), by what `http_text` says of heads.
use Rattle.std.specs.Prelude.{◌≡◌, ◌==◌, ◌&&◌, ◌||◌, ℕ, Bool, false, List, map, ◌++◌, Option, Some, None, option_and_then, length, take, drop, codes, bytes_eq, if◌then◌else◌}
use Rattle.std.specs.Result.{result_ok}
use Rattle.hex.specs.Hex.{decode_sized}
use Rattle.httparse.specs.Grammar.{RequestHead}
use Rattle.http_text.specs.Lines.{Cut, Whole, Waits, TooLong, cut, head_len}
use Rattle.httparse.specs.Spans.{name_and_value}
use Rattle.http_text.specs.Fields.{is_foreign}
use Rattle.http_text.specs.Head.{IsHead, IsVerdict}
use Rattle.http_text.specs.declared.allowed.Allowed.{Allowed}
use Rattle.http_text.specs.declared.request.HeadVerdict.{HeadVerdict}
use Rattle.http_text.specs.declared.request.HeadVerdict.TheVariants.{Refused}
use Rattle.http_text.specs.declared.request.RequestRefusal.TheVariants.{BadRequest, HeadTooLarge}
use Rattle.admin_http.specs.declared.asked.Method.{Method}
use Rattle.admin_http.specs.declared.asked.Method.TheVariants.{Get, Post}
use Rattle.admin_http.specs.declared.asked.Access.{Access}
use Rattle.admin_http.specs.declared.asked.Access.TheVariants.{Full, Numbers}
use Rattle.admin_http.specs.declared.asked.Route.{Route}
use Rattle.admin_http.specs.declared.asked.Route.TheVariants.{Close, Reopen, Metrics, Health, Config, Status, Decisions, Trace, Page, Forbidden, NotFound, WrongMethod, Bad, TooLarge}
use Rattle.admin_http.specs.declared.asked.AdminRequest.{AdminRequest}

-- a method by which a target is asked; where it is `GET` it may be `HEAD` (RFC 9110, section 9.3.2)
abbrev pub is_by : Method → (method : List ℕ) → Bool
is_by Get method = bytes_eq method (codes "GET") || bytes_eq method (codes "HEAD")
is_by Post method = bytes_eq method (codes "POST")

-- a target that is asked by this
abbrev pub only_by : Method → (method : List ℕ) → Route → Route
only_by allowed method route = if is_by allowed method then route else WrongMethod allowed

-- where a request for numbers or health goes, by its method and its target, byte for byte
abbrev pub numbers_routed : (method target : List ℕ) → Route
numbers_routed method target =
    if bytes_eq target (codes "/metrics") then only_by Get method Metrics
    else (if bytes_eq target (codes "/healthz") then only_by Get method Health
    else NotFound)

-- the digits in the target of a trace: `/trace/`, 32 of them, and `.json`
abbrev pub digits_in : (target : List ℕ) → Option (List ℕ)
digits_in target =
    if (length target == 44) && (bytes_eq (take 7 target) (codes "/trace/") && bytes_eq (drop 39 target) (codes ".json"))
    then Some (take 32 (drop 7 target)) else None

-- the bytes of the id in the target of a trace, whose digits are hex ones of either case
abbrev pub trace_in : (target : List ℕ) → Option (List ℕ)
trace_in target = option_and_then (λ digits. result_ok (decode_sized digits 16)) (digits_in target)

-- a target with such an id is asked by `GET`; what another one is for, is left
abbrev pub trace_or : (id : Option (List ℕ)) → (method : List ℕ) → (other : Route) → Route
trace_or (Some id) method other = only_by Get method (Trace id)
trace_or None method other = other

-- where a request goes that is for a trace, or for numbers or health
abbrev pub by_trace : (method target : List ℕ) → Route
by_trace method target = trace_or (trace_in target) method (numbers_routed method target)

-- where one goes at an address at which everything may be asked for
abbrev pub routed : (method target : List ℕ) → Route
routed method target =
    if bytes_eq target (codes "/close") then only_by Post method Close
    else (if bytes_eq target (codes "/reopen") then only_by Post method Reopen
    else (if bytes_eq target (codes "/config") then only_by Get method Config
    else (if bytes_eq target (codes "/status.json") then only_by Get method Status
    else (if bytes_eq target (codes "/") then only_by Get method Page
    else (if bytes_eq target (codes "/decisions.json") then only_by Get method Decisions
    else by_trace method target)))))

-- the answer to `HEAD` has no body
abbrev pub asked : Route → (is_head : Bool) → AdminRequest
asked route is_head = record { route = route; is_head = is_head }

-- what has power is asked by `POST`, and refused where a page of another site may have sent the request
abbrev pub route_by : Access → (method target : List ℕ) → (foreign : Bool) → Route
route_by Full method target foreign = if foreign && bytes_eq method (codes "POST") then Forbidden else routed method target
route_by Numbers method target foreign = numbers_routed method target

abbrev pub asked_by : Access → (method target : List ℕ) → (foreign : Bool) → AdminRequest
asked_by access method target foreign = asked (route_by access method target foreign) (bytes_eq method (codes "HEAD"))

-- a text that is refused as no head, or as too large a one, at the address of the traces is so here
abbrev pub refused_as : HeadVerdict → Option AdminRequest
refused_as (Refused HeadTooLarge is_head) = Some (asked TooLarge is_head)
refused_as (Refused BadRequest is_head) = Some (asked Bad is_head)
refused_as _ = None

-- any other text is a head, which asks by its method, its target and where it comes from
abbrev pub AskedAs : Access → (text : List ℕ) → Option AdminRequest → AdminRequest → Type 0
AskedAs access text (Some refused) a = a ≡ refused
AskedAs access text None a = (h : RequestHead) × IsHead text h × (a ≡ asked_by access h.method h.target (is_foreign (map name_and_value h.fields)))

-- what is allowed at the address of the traces makes no difference here
abbrev pub nothing : Allowed
nothing = record { gzip = false; protobuf = false; close = false; body_limit = 0 }

-- what the text of a head asks for
abbrev pub IsAsked : Access → (text : List ℕ) → AdminRequest → Type 0
IsAsked access text a = (v : HeadVerdict) × IsVerdict nothing text v × AskedAs access text (refused_as v) a

-- what was read so far asks for this, or its head isn't whole yet
abbrev pub HeardBy : Access → Cut → (read : List ℕ) → Option AdminRequest → Type 0
HeardBy access (Whole n) read (Some a) = IsAsked access (take n read) a
HeardBy access (Whole n) read None = ⊥
HeardBy access TooLong read (Some a) = a ≡ asked TooLarge false
HeardBy access TooLong read None = ⊥
HeardBy access Waits read (Some a) = ⊥
HeardBy access Waits read None = Unit {0}

abbrev pub IsHeard : Access → (read : List ℕ) → Option AdminRequest → Type 0
IsHeard access read heard = HeardBy access (cut head_len read) read heard

-- the bytes that were read ask for one thing only
abbrev pub OneRequest : Type 0
OneRequest = (access : Access) (read : List ℕ) (a b : Option AdminRequest) → IsHeard access read a → IsHeard access read b → a ≡ b

-- what was heard stays, whatever bytes follow
abbrev pub StaysHeard : Type 0
StaysHeard = (access : Access) (read more : List ℕ) (a : AdminRequest) → IsHeard access read (Some a) → IsHeard access (read ++ more) (Some a)
