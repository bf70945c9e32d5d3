use Rattle.std.proofs.Common.{◌≡◌, codes, [], ◌∷◌, ◌++◌, rules}
use Rattle.json.specs.Token as token
use Rattle.std.specs.Fmt.{signed_decimal}
use Rattle.serde_json.specs.Data.{string}
use Rattle.otlp_json.proofs.Adding.{one-added}
use Rattle.otlp_json.proofs.writing.object_of_integer.Goals as goal

pub returns-clause-fields : goal.returns-clause-fields
returns-clause-fields c =
    let text : c.quoted_i64.new.self.tokens ≡ c.key.new.self.tokens ++ token.string (signed_decimal c.args.n.now) ∷ [] = search (rules, c.in_ok-quoted_i64.ensures.ok) in
    one-added (codes "intValue") (string (signed_decimal c.args.n.now)) c.args.out.now c.begin_object.new.self c.key.new.self c.quoted_i64.new.self c.end_object.new.self
    (c.begin_object.ensures.room.0, c.in_ok-begin_object.ensures.ok) (c.key.ensures.room.0, c.in_ok-key.ensures.ok) (c.quoted_i64.ensures.room.0, text) (c.end_object.ensures.room.0, c.in_ok-end_object.ensures.ok)
