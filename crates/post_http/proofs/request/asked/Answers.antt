use Rattle.std.proofs.Common.{◌≡◌, ℕ, List, [], ◌∷◌, subst, codes}
use Rattle.http1.specs.declared.client.Client.{Client}
use Rattle.http1.specs.declared.conn.BodySize.{BodySize}
use Rattle.http1.specs.declared.conn.BodySize.TheVariants.{Empty}
use Rattle.http1.specs.Fields.{Header}
use Rattle.http1.specs.Client.{after_request, after_end}
use Rattle.http1.specs.ClientTrace.{Trace, writes, requests, finishes}
use Rattle.post_http.specs.Answers.{LeadsTo}
use Rattle.post_http.proofs.request.asked.Goals as goal

asked_leads : (a b c : Client) (method : List ℕ) (size : BodySize) (headers : List Header) → b ≡ after_request a method size headers → c ≡ after_end b → LeadsTo a c
asked_leads a b c method size headers e f stream seen rest t =
    writes a (after_request a method size headers) stream seen rest (requests method size headers)
    (writes (after_request a method size headers) (after_end (after_request a method size headers)) stream seen rest finishes
    (subst (λ (z : Client). Trace (after_end z) stream seen rest) e (subst (λ (z : Client). Trace z stream seen rest) f t)))

pub returns : goal.returns
returns c =
    let P = λ (z : Client). LeadsTo z c.write_end.new.self in
    subst P c.new-client.ensures (asked_leads c.new-client.result c.write_request.new.self c.write_end.new.self (codes "POST") Empty ((codes "host", codes "-") ∷ []) c.in_ok-write_request.ensures.next c.in_ok-write_end.ensures.done)
