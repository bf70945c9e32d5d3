-- Where numbers alone may be asked for, what is heard has no power, and its answer tells nothing of the configuration.
-- For the clause `numbers` of `serve`.
use Rattle.std.proofs.Common.{◌≡◌, ℕ, Bool, true, false, List, Option, Some, None, ap, ◌∙◌, refl, subst, take}
use Rattle.std.specs.Prelude.{bytes_eq, codes, if◌then◌else◌}
use Rattle.http_text.specs.Lines.{Cut, Whole, Waits, TooLong, cut, head_len}
use Rattle.http_text.specs.declared.request.HeadVerdict.{HeadVerdict}
use Rattle.http_text.specs.declared.request.HeadVerdict.TheVariants.{Refused, Close as CloseThere, Post as PostThere}
use Rattle.http_text.specs.declared.request.RequestRefusal.TheVariants.{HeadTooLarge, BadRequest, NotFound as NotFoundThere, MethodNotAllowed, Forbidden as ForbiddenThere, UnsupportedMediaType, NeitherMediaType, GzipIsOff, UnsupportedCoding, NeitherCoding, BodyTooLarge, NotGzip}
use Rattle.admin_http.specs.declared.asked.Method.TheVariants.{Get}
use Rattle.admin_http.specs.declared.asked.Access.{Access}
use Rattle.admin_http.specs.declared.asked.Access.TheVariants.{Numbers}
use Rattle.admin_http.specs.declared.asked.Route.{Route}
use Rattle.admin_http.specs.declared.asked.Route.TheVariants.{Metrics, Health, NotFound, WrongMethod}
use Rattle.admin_http.specs.declared.asked.AdminRequest.{AdminRequest}
use Rattle.admin_http.specs.Asked.{AskedAs, HeardBy, IsHeard, is_by, numbers_routed, only_by, refused_as}
use Rattle.admin_http.specs.Serving.{is_harmless}

either_harmless : (t : Bool) (a b : Route) → is_harmless a ≡ true → is_harmless b ≡ true → is_harmless (if t then a else b) ≡ true
either_harmless true a b x y = x
either_harmless false a b x y = y

by_get : (method : List ℕ) (a : Route) → is_harmless a ≡ true → is_harmless (only_by Get method a) ≡ true
by_get method a x = either_harmless (is_by Get method) a (WrongMethod Get) x refl

-- of a head
numbers_harmless : (method target : List ℕ) → is_harmless (numbers_routed method target) ≡ true
numbers_harmless method target =
    either_harmless (bytes_eq target (codes "/metrics")) (only_by Get method Metrics) _ (by_get method Metrics refl)
    (either_harmless (bytes_eq target (codes "/healthz")) (only_by Get method Health) NotFound (by_get method Health refl) refl)

-- of a text that is refused as no head, or as too large a one
none_or_harmless : Option AdminRequest → Bool
none_or_harmless None = true
none_or_harmless (Some a) = is_harmless a.route

refused_harmless : (v : HeadVerdict) → none_or_harmless (refused_as v) ≡ true
unfolding none_or_harmless
refused_harmless (Refused HeadTooLarge is_head) = refl
refused_harmless (Refused BadRequest is_head) = refl
refused_harmless (Refused NotFoundThere is_head) = refl
refused_harmless (Refused MethodNotAllowed is_head) = refl
refused_harmless (Refused ForbiddenThere is_head) = refl
refused_harmless (Refused UnsupportedMediaType is_head) = refl
refused_harmless (Refused NeitherMediaType is_head) = refl
refused_harmless (Refused GzipIsOff is_head) = refl
refused_harmless (Refused UnsupportedCoding is_head) = refl
refused_harmless (Refused NeitherCoding is_head) = refl
refused_harmless (Refused BodyTooLarge is_head) = refl
refused_harmless (Refused NotGzip is_head) = refl
refused_harmless CloseThere = refl
refused_harmless (PostThere post) = refl

asked_harmless : (text : List ℕ) (refused : Option AdminRequest) (a : AdminRequest) → none_or_harmless refused ≡ true → AskedAs Numbers text refused a → is_harmless a.route ≡ true
unfolding none_or_harmless
asked_harmless text (Some r) a x h = ap (λ q. is_harmless q.route) h ∙ x
asked_harmless text None a x h = ap (λ q. is_harmless q.route) h.2 ∙ numbers_harmless h.0.method h.0.target

heard_harmless : (c : Cut) (read : List ℕ) (a : AdminRequest) → HeardBy Numbers c read (Some a) → is_harmless a.route ≡ true
heard_harmless (Whole n) read a h = asked_harmless (take n read) (refused_as h.0) a (refused_harmless h.0) h.2
heard_harmless TooLong read a h = ap (λ q. is_harmless q.route) h
heard_harmless Waits read a h = absurd h

pub harmless : (access : Access) (read : List ℕ) (a : AdminRequest) → access ≡ Numbers → IsHeard access read (Some a) → is_harmless a.route ≡ true
harmless access read a e h = heard_harmless (cut head_len read) read a (subst (λ k. IsHeard k read (Some a)) e h)
