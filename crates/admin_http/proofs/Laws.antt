-- What was read asks for one thing, which more bytes don't change.
-- They are the clauses of `heard_in_any_pieces`.
use Rattle.std.proofs.Common.{◌≡◌, ◌≤◌, ◌++◌, ℕ, Bool, true, false, List, [], Option, Some, None, ap, sym, ◌∙◌, inl, inr, refl, subst, take}
use Rattle.std.specs.Prelude.{nat_le, length, map}
use Rattle.std.proofs.lemmas.List.{take-append-le}
use borrow.Author.Tests.{leb-true, leb-false}
use Rattle.httparse.proofs.GrammarLemmas.{request_unique}
use Rattle.http_text.specs.Lines.{Cut, Whole, Waits, TooLong, cut, head_len}
use Rattle.httparse.specs.Spans.{name_and_value}
use Rattle.http_text.specs.Fields.{is_foreign}
use Rattle.http_text.specs.Head.{IsVerdict, Judges, field_lines, verdict}
use Rattle.http_text.specs.declared.request.TheConstants.{FIELD_LIMIT}
use Rattle.http_text.specs.declared.request.HeadVerdict.{HeadVerdict}
use Rattle.http_text.proofs.CutLemmas.{cut_within, head_stable, head_within, too_long_more, whole_more}
use Rattle.admin_http.specs.declared.asked.Access.{Access}
use Rattle.admin_http.specs.declared.asked.AdminRequest.{AdminRequest}
use Rattle.admin_http.specs.Asked.{AskedAs, HeardBy, IsAsked, IsHeard, OneRequest, StaysHeard, asked_by, refused_as, nothing}

judged_once : (text : List ℕ) (v w : HeadVerdict) → Judges nothing text v → Judges nothing text w → v ≡ w
judged_once text v w (inl a) (inl b) = a.2 ∙ ap (verdict nothing) (request_unique text a.0 b.0 [] [] a.1.0 b.1.0).0 ∙ sym b.2
judged_once text v w (inl a) (inr b) = absurd (b.0 a.0 a.1)
judged_once text v w (inr a) (inl b) = absurd (a.0 b.0 b.1)
judged_once text v w (inr a) (inr b) = a.1 ∙ sym b.1

one_verdict : (text : List ℕ) (v w : HeadVerdict) → IsVerdict nothing text v → IsVerdict nothing text w → v ≡ w
one_verdict text v w a b = by_lines (nat_le (field_lines text) FIELD_LIMIT) refl where
  by_lines : (t : Bool) → nat_le (field_lines text) FIELD_LIMIT ≡ t → v ≡ w
  by_lines true e = let few = leb-true (field_lines text) FIELD_LIMIT e in judged_once text v w (a.few few) (b.few few)
  by_lines false e = let many = leb-false (field_lines text) FIELD_LIMIT e in a.many many ∙ sym (b.many many)

asked_once : (access : Access) (text : List ℕ) (refused : Option AdminRequest) (a b : AdminRequest) → AskedAs access text refused a → AskedAs access text refused b → a ≡ b
asked_once access text (Some refused) a b x y = x ∙ sym y
asked_once access text None a b x y = x.2 ∙ ap (λ h. asked_by access h.method h.target (is_foreign (map name_and_value h.fields))) (request_unique text x.0 y.0 [] [] x.1.0 y.1.0).0 ∙ sym y.2

text_asks_once : (access : Access) (text : List ℕ) (a b : AdminRequest) → IsAsked access text a → IsAsked access text b → a ≡ b
text_asks_once access text a b x y =
    asked_once access text (refused_as x.0) a b x.2 (subst (λ v. AskedAs access text (refused_as v) b) (one_verdict text y.0 x.0 y.1 x.1) y.2)

heard_once : (access : Access) (c : Cut) (read : List ℕ) (a b : Option AdminRequest) → HeardBy access c read a → HeardBy access c read b → a ≡ b
heard_once access (Whole n) read (Some a) (Some b) x y = ap Some (text_asks_once access (take n read) a b x y)
heard_once access (Whole n) read (Some a) None x y = absurd y
heard_once access (Whole n) read None b x y = absurd x
heard_once access TooLong read (Some a) (Some b) x y = ap Some (x ∙ sym y)
heard_once access TooLong read (Some a) None x y = absurd y
heard_once access TooLong read None b x y = absurd x
heard_once access Waits read (Some a) b x y = absurd x
heard_once access Waits read None (Some b) x y = absurd y
heard_once access Waits read None None x y = refl

pub one_request : OneRequest
one_request access read a b x y = heard_once access (cut head_len read) read a b x y

stays_by : (access : Access) (c : Cut) (read more : List ℕ) (a : AdminRequest) → cut head_len read ≡ c → HeardBy access c read (Some a) → IsHeard access (read ++ more) (Some a)
stays_by access (Whole n) read more a e h =
    let within : n ≤ length read = cut_within head_len head_within read n e in
    subst (λ c. HeardBy access c (read ++ more) (Some a)) (sym (whole_more head_len head_stable read more n e))
    (subst (λ text. IsAsked access text a) (sym (take-append-le n read more within)) h)
stays_by access TooLong read more a e h = subst (λ c. HeardBy access c (read ++ more) (Some a)) (sym (too_long_more head_len read more e)) h
stays_by access Waits read more a e h = absurd h

pub stays_heard : StaysHeard
stays_heard access read more a h = stays_by access (cut head_len read) read more a refl h
