-- What one turn of a connection says of how it waits then.
-- For the clauses of `Exchange::came`.
use Rattle.std.specs.Prelude.{◌||◌, if◌then◌else◌}
use Rattle.std.proofs.Common.{◌≡◌, ◌∙◌, ℕ, Bool, true, false, List, [], ◌∷◌, Option, None, Some, refl, sym, ap}
use Rattle.std.specs.Prelude.{MatchOption}
use Rattle.http_text.specs.declared.allowed.Allowed.{Allowed}
use Rattle.http_text.specs.Body.{FoundBody, waits, refuses, found}
use Rattle.http_text.specs.declared.request.Post.{Post}
use Rattle.http_text.specs.declared.request.HeadVerdict.{HeadVerdict}
use Rattle.http_text.specs.declared.request.HeadVerdict.TheVariants.{Refused, Close, Post as Posted}
use Rattle.http_lane.specs.declared.answer.EventFate.{EventFate}
use Rattle.http_lane.specs.declared.answer.EventFate.TheVariants.{Written, Uncounted, Unmade, Unwritten}
use Rattle.http_lane.specs.declared.answer.ServeEnd.{ServeEnd}
use Rattle.http_lane.specs.Connection.{RequestReading, in_head, in_body, is_between, grown, Cause, refusal, close_asked, closes, ConnectionEvent, end_of, end_with, HeadBrings, BodyBrings, Brings, Settles}
use Rattle.http_lane.specs.Turns.{AwaitsBy, allowed_in}

-- no byte of a request has come
pub between_head : (allowed : Allowed) (r : RequestReading) → is_between r ≡ true → allowed_in r ≡ allowed → r ≡ in_head allowed []
between_head allowed (in_head g []) b same = ap (λ z. in_head z []) same
between_head allowed (in_head g (x ∷ bytes)) b same = absurd cc
between_head allowed (in_body g post bytes) b same = absurd cc

pub none_between : {E : Type 0} (allowed : Allowed) (awaits : E → RequestReading → Type 0) (own : Option E) (r : RequestReading) → AwaitsBy allowed awaits own r → own ≡ None → is_between r ≡ true
none_between allowed awaits None r at n = ap is_between at
none_between allowed awaits (Some e) r at n = absurd cc

-- ---- what is allowed stays the same

pub awaits_packed : {E : Type 0} (allowed : Allowed) (awaits : E → RequestReading → Type 0) (own : Option E) (r : RequestReading) → AwaitsBy allowed awaits own r → allowed_in r ≡ allowed
awaits_packed allowed awaits None r at = ap allowed_in at
awaits_packed allowed awaits (Some e) r at = at.2

grown_packed : (r : RequestReading) (more : List ℕ) → allowed_in (grown r more) ≡ allowed_in r
grown_packed (in_head g bytes) more = refl
grown_packed (in_body g post bytes) more = refl

closes_ends : (fate : EventFate) → end_with fate true ≡ None → ⊥
closes_ends Written e = cc e
closes_ends Uncounted e = cc e
closes_ends Unmade e = cc e
closes_ends Unwritten e = cc e

-- what closes the connection ends it
pub closing : (e : ConnectionEvent) (cause : Cause) → e.cause ≡ cause → closes cause ≡ true → end_of e ≡ None → ⊥
closing e cause is closes_it open_after = closes_ends e.fate (ap (end_with e.fate) (sym (ap closes is ∙ closes_it)) ∙ open_after)

head_packed : (g : Allowed) (v : HeadVerdict) (rest : List ℕ) (e : ConnectionEvent) (next : RequestReading) → HeadBrings g v rest e.cause next → end_of e ≡ None → allowed_in next ≡ g
head_packed g (Refused r is_head) rest e next h o = absurd (closing e (refusal r is_head) h refl o)
head_packed g Close rest e next h o = absurd (closing e close_asked h refl o)
head_packed g (Posted post) rest e next h o = ap allowed_in h.1

body_packed : (g : Allowed) (post : Post) (f : FoundBody) (e : ConnectionEvent) (next : RequestReading) → BodyBrings g post f e.cause next → end_of e ≡ None → allowed_in next ≡ g
body_packed g post waits e next h o = absurd h
body_packed g post (refuses r) e next h o = absurd (closing e (refusal r false) h refl o)
body_packed g post (found body rest) e next h o = ap allowed_in h.1

brings_packed : (r : RequestReading) (e : ConnectionEvent) (next : RequestReading) → Brings r e.cause next → end_of e ≡ None → allowed_in next ≡ allowed_in r
brings_packed (in_head g bytes) e next h o = head_packed g h.0 h.1 e next h.3 o
brings_packed (in_body g post bytes) e next h o = body_packed g post h.0 e next h.2 o

settles_packed : (r : RequestReading) (events : List ConnectionEvent) (last : RequestReading) → Settles r events None last → allowed_in last ≡ allowed_in r
settles_packed r [] last h = ap allowed_in h.2
settles_packed r (e ∷ events) last h = go (end_of e) refl h.3 (λ k. settles_packed h.0 events last k)
  where
    go : (o : Option ServeEnd) → end_of e ≡ o → MatchOption o (Settles h.0 events None last) (λ why. (events ≡ []) × (None ≡ Some why)) → (Settles h.0 events None last → allowed_in last ≡ allowed_in h.0) → allowed_in last ≡ allowed_in r
    go None is more rest = rest more ∙ brings_packed r e h.0 h.1 is
    go (Some why) is more rest = absurd (cc more.1)

-- after bytes, where the connection goes on
pub still_packed : (allowed : Allowed) (r : RequestReading) (bytes : List ℕ) (events : List ConnectionEvent) (last : RequestReading) → allowed_in r ≡ allowed → Settles (grown r bytes) events None last → allowed_in last ≡ allowed
still_packed allowed r bytes events last same h = settles_packed (grown r bytes) events last h ∙ (grown_packed r bytes ∙ same)

-- since when it waits, by what was found out
pub since_same : (x x' y y' z z' : Bool) (m n n' : ℕ) → x ≡ x' → y ≡ y' → z ≡ z' → n ≡ n' → (if x || (y || z) then m else n) ≡ (if x' || (y' || z') then m else n')
since_same x x' y y' z z' m n n' a b c d = λ i. if a i || (b i || c i) then m else d i
