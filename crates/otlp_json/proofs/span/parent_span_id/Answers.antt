use Rattle.std.proofs.Common.{◌≡◌, Some, codes, [], ◌∷◌, ◌++◌, rules}
use Rattle.json.specs.Token as token
use Rattle.serde_json.specs.Data.{string}
use Rattle.span_ids.specs.Id.{id_text}
use Rattle.otlp_json.specs.Writing.{parent_field}
use Rattle.otlp_json.proofs.Adding.{then}
use Rattle.otlp_json.proofs.span.parent_span_id.Goals as goal

pub returns-clause-field : goal.returns-clause-field
returns-clause-field c =
    let digits = id_text c.in-Some-parent.parent in
    let is : parent_field c.args.ids.now ≡ Some (string digits) = rw (c.in-Some.is, c.in-Some-parent.is) in
    let text : c.string.new.self.tokens ≡ c.key.new.self.tokens ++ token.string digits ∷ [] = search rules in
    rw is (then c.args.out.now c.key.new.self c.string.new.self (token.key (codes "parentSpanId") ∷ []) (token.string digits ∷ []) (c.key.ensures.room.0, c.in_ok-key.ensures.ok) (c.string.ensures.room.0, text))
