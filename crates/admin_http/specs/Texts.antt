-- The bytes of an answer (RFC 9112, sections 2 to 6).
use Rattle.std.specs.Prelude.{◌≡◌, ℕ, Bool, List, [], ◌++◌, length, if◌then◌else◌, codes, decimal}
use Rattle.admin_http.specs.declared.asked.Method.TheVariants.{Get, Post}
use Rattle.admin_http.specs.declared.asked.Route.{Route}
use Rattle.admin_http.specs.declared.asked.Route.TheVariants.{Close, Reopen, Metrics, Health, Config, Status, Decisions, Trace, Page, Forbidden, NotFound, WrongMethod, Bad, TooLarge}
use Rattle.admin_http.specs.declared.asked.Access.{Access}
use Rattle.admin_http.specs.declared.asked.AdminRequest.{AdminRequest}
use Rattle.admin_http.specs.Asked.{asked_by, route_by}

-- the texts of a collector that stay: its configuration, the page that shows it, and the fields of a head that go with
-- that page, each with its line end
pub record AdminTexts : Type 0 where
  pub config : List ℕ
  pub page : List ℕ
  pub page_fields : List ℕ

-- what an answer tells of: whether the collector is closing, the text of what it has counted, and those that stay
pub record AdminState : Type 0 where
  pub is_stopping : Bool
  pub counted : List ℕ
  pub texts : AdminTexts

abbrev pub state : (is_stopping : Bool) (counted config page page_fields : List ℕ) → AdminState
state is_stopping counted config page page_fields =
    record { is_stopping = is_stopping; counted = counted; texts = record { config = config; page = page; page_fields = page_fields } }

-- the status, its reason phrase, the media type and the body
pub record AdminPage : Type 0 where
  pub status : ℕ
  pub reason : List ℕ
  pub media : List ℕ
  pub body : List ℕ

abbrev pub page : ℕ → (reason media body : List ℕ) → AdminPage
page status reason media body = record { status = status; reason = reason; media = media; body = body }

-- a body of JSON
abbrev pub json : ℕ → (reason body : List ℕ) → AdminPage
json status reason body = page status reason (codes "application/json") body

abbrev pub health_page : (is_stopping : Bool) → AdminPage
health_page is_stopping =
    if is_stopping then page 503 (codes "Service Unavailable") (codes "text/plain") (codes "closing\n")
    else page 200 (codes "OK") (codes "text/plain") (codes "ok\n")

-- what each route is answered
abbrev pub page_of : Route → AdminState → AdminPage
page_of Close s = json 200 (codes "OK") (codes "{}")
page_of Reopen s = json 200 (codes "OK") (codes "{}")
page_of Metrics s = page 200 (codes "OK") (codes "text/plain; version=0.0.4; charset=utf-8") s.counted
page_of Health s = health_page s.is_stopping
page_of Config s = page 200 (codes "OK") (codes "application/toml") s.texts.config
page_of Status s = json 200 (codes "OK") s.counted
page_of Decisions s = json 200 (codes "OK") s.counted
page_of (Trace id) s = json 200 (codes "OK") s.counted
page_of Page s = page 200 (codes "OK") (codes "text/html; charset=utf-8") s.texts.page
page_of Forbidden s = json 403 (codes "Forbidden") (codes "{\"message\":\"forbidden\"}")
page_of NotFound s = json 404 (codes "Not Found") (codes "{\"message\":\"not found\"}")
page_of (WrongMethod allowed) s = json 405 (codes "Method Not Allowed") (codes "{\"message\":\"method not allowed\"}")
page_of Bad s = json 400 (codes "Bad Request") (codes "{\"message\":\"bad request\"}")
page_of TooLarge s = json 431 (codes "Request Header Fields Too Large") (codes "{\"message\":\"head too large\"}")

-- the fields that an answer has of its own: those of the page, and the methods of a target that was asked by
-- another
abbrev pub own_fields : Route → AdminState → List ℕ
own_fields Page s = s.texts.page_fields
own_fields (WrongMethod Get) s = codes "Allow: GET, HEAD\r\n"
own_fields (WrongMethod Post) s = codes "Allow: POST\r\n"
own_fields _ s = []

-- an answer from its parts
abbrev pub joined : ℕ → (reason media : List ℕ) → (len : ℕ) → (fields sent : List ℕ) → List ℕ
joined status reason media len fields sent =
    codes "HTTP/1.1 " ++ (decimal status ++ (codes " " ++ (reason
    ++ (codes "\r\nContent-Type: " ++ (media ++ (codes "\r\nContent-Length: " ++ (decimal len ++ (codes "\r\n"
    ++ (fields ++ (codes "Connection: close\r\n\r\n" ++ sent))))))))))

-- what is sent of a body: the answer to `HEAD` has none
abbrev pub sent_of : (is_head : Bool) → (body : List ℕ) → List ℕ
sent_of is_head body = if is_head then [] else body

-- a page as an answer, with such fields
abbrev pub page_text : AdminPage → (fields : List ℕ) → (is_head : Bool) → List ℕ
page_text p fields is_head = joined p.status p.reason p.media (length p.body) fields (sent_of is_head p.body)

-- the whole answer
abbrev pub answer_of : AdminRequest → AdminState → List ℕ
answer_of a s = page_text (page_of a.route s) (own_fields a.route s) a.is_head

-- the body of what `GET` is answered
abbrev pub body_of_get : Access → (target : List ℕ) → (foreign : Bool) → AdminState → List ℕ
body_of_get access target foreign s = AdminPage.body (page_of (route_by access (codes "GET") target foreign) s)

-- `HEAD` of a target is answered as `GET` of it, byte for byte, up to the body (RFC 9110, section 9.3.2)
abbrev pub HeadIsGetWithoutBody : Type 0
HeadIsGetWithoutBody = (access : Access) (target : List ℕ) (foreign : Bool) (s : AdminState) →
    answer_of (asked_by access (codes "GET") target foreign) s
    ≡ answer_of (asked_by access (codes "HEAD") target foreign) s ++ body_of_get access target foreign s
