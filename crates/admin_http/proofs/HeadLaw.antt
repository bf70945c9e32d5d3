-- `HEAD` is answered as `GET`, without the body.
-- For the clause of `head_is_get_without_body`.
use Rattle.std.proofs.Common.{◌≡◌, ◌++◌, ◌∙◌, ℕ, Bool, true, false, List, [], ap, sym, refl, length, rules}
use Rattle.std.specs.Prelude.{Option, Some, None, bytes_eq, codes, if◌then◌else◌}
use mathlib.Core.List.{append_assoc}
use Rattle.admin_http.specs.declared.asked.Access.{Access}
use Rattle.admin_http.specs.declared.asked.Access.TheVariants.{Full, Numbers}
use Rattle.admin_http.specs.declared.asked.Method.TheVariants.{Post}
use Rattle.admin_http.specs.declared.asked.Route.{Route}
use Rattle.admin_http.specs.declared.asked.Route.TheVariants.{Config, Status, Page, Decisions, WrongMethod}
use Rattle.admin_http.specs.Asked.{asked, numbers_routed, route_by, routed, trace_in, trace_or}
use Rattle.admin_http.specs.Texts.{AdminPage, AdminState, HeadIsGetWithoutBody, answer_of, joined, own_fields, page_of}

-- what is sent stands last
sent_last : (status : ℕ) (reason media : List ℕ) (len : ℕ) (allow body : List ℕ) → joined status reason media len allow body ≡ joined status reason media len allow [] ++ body
sent_last status reason media len allow body = search (rules, append_assoc)

-- a trace is asked by both alike
same_trace : (id : Option (List ℕ)) (other : Route) → trace_or id (codes "HEAD") other ≡ trace_or id (codes "GET") other
same_trace (Some id) other = refl
same_trace None other = refl

-- where a `GET` goes, by where it goes that is for no target of these
abbrev routed_or : (target : List ℕ) → (rest : Route) → Route
routed_or target rest =
    if bytes_eq target (codes "/close") then WrongMethod Post
    else (if bytes_eq target (codes "/reopen") then WrongMethod Post
    else (if bytes_eq target (codes "/config") then Config
    else (if bytes_eq target (codes "/status.json") then Status
    else (if bytes_eq target (codes "/") then Page
    else (if bytes_eq target (codes "/decisions.json") then Decisions
    else rest)))))

same_routed : (target : List ℕ) → routed (codes "HEAD") target ≡ routed (codes "GET") target
same_routed target = ap (routed_or target) (same_trace (trace_in target) (numbers_routed (codes "GET") target))

-- both go to the same place
same_route : (access : Access) (target : List ℕ) (foreign : Bool) → route_by access (codes "HEAD") target foreign ≡ route_by access (codes "GET") target foreign
same_route Full target true = same_routed target
same_route Full target false = same_routed target
same_route Numbers target foreign = refl

of_route : (route : Route) (s : AdminState) → answer_of (asked route false) s ≡ answer_of (asked route true) s ++ AdminPage.body (page_of route s)
of_route route s =
    let p = page_of route s in sent_last p.status p.reason p.media (length p.body) (own_fields route s) p.body

pub head_is_get : HeadIsGetWithoutBody
head_is_get access target foreign s =
    let by_get = route_by access (codes "GET") target foreign in
    of_route by_get s ∙ ap (λ r. answer_of (asked r true) s ++ AdminPage.body (page_of by_get s)) (sym (same_route access target foreign))
