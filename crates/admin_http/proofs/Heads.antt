-- A text that isn't refused is a head, and what a search from the start says.
-- For the contracts of `asked_in` and `heard`.
use Rattle.std.proofs.Common.{◌≡◌, ◌+◌, ℕ, Bool, true, false, List, Option, Some, None, ap, arith, sym, inl, inr, refl, subst}
use Rattle.std.specs.Prelude.{nat_le}
use Rattle.std.specs.Option.{option_map}
use borrow.Author.Tests.{leb-true, leb-false}
use Rattle.httparse.specs.Grammar.{RequestHead}
use Rattle.http_text.specs.Lines.{Cut, head_len, cut}
use Rattle.http_text.specs.Head.{IsHead, IsVerdict, Judges, field_lines}
use Rattle.http_text.specs.Search.{Searched}
use Rattle.http_text.specs.declared.request.TheConstants.{FIELD_LIMIT}
use Rattle.http_text.specs.declared.request.HeadVerdict.{HeadVerdict}
use Rattle.http_text.specs.declared.search.SearchPlace.TheVariants.{Blank}
use Rattle.admin_http.specs.declared.asked.Access.{Access}
use Rattle.admin_http.specs.declared.asked.AdminRequest.{AdminRequest}
use Rattle.admin_http.specs.Asked.{HeardBy, IsHeard, refused_as, nothing}

judged_head : (text : List ℕ) (v : HeadVerdict) → refused_as v ≡ None → Judges nothing text v → (h : RequestHead) × IsHead text h
judged_head text v e (inl found) = (found.0, found.1)
judged_head text v e (inr none) = let bad = ap refused_as none.1 in absurd (cc)

-- a text that isn't refused is a head
pub head_there : (text : List ℕ) (v : HeadVerdict) → IsVerdict nothing text v → refused_as v ≡ None → (h : RequestHead) × IsHead text h
head_there text v is e = by_lines (nat_le (field_lines text) FIELD_LIMIT) refl where
  by_lines : (t : Bool) → nat_le (field_lines text) FIELD_LIMIT ≡ t → (h : RequestHead) × IsHead text h
  by_lines true few = judged_head text v e (is.few (leb-true (field_lines text) FIELD_LIMIT few))
  by_lines false many = let large = ap refused_as (is.many (leb-false (field_lines text) FIELD_LIMIT many)) in absurd (cc)

none_more : (o : Option ℕ) → o ≡ option_map (λ k. 0 + k) o
none_more None = refl
none_more (Some n) = ap Some (omega arith)

-- no byte has been searched
pub from_blank : (read : List ℕ) → Searched head_len (record { at = 0; place = Blank }) read
from_blank read = (omega arith, λ ys. none_more (head_len ys))

-- what was heard, by where the head ends
pub heard_at : (access : Access) (read : List ℕ) (c : Cut) (heard : Option AdminRequest) → cut head_len read ≡ c → HeardBy access c read heard → IsHeard access read heard
heard_at access read c heard e h = subst (λ k. HeardBy access k read heard) (sym e) h
