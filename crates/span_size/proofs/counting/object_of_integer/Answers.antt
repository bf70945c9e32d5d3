use Rattle.std.proofs.Common.{codes, [], ◌∷◌, rules}
use Rattle.std.specs.Fmt.{signed_decimal}
use Rattle.json.specs.Token as token
use Rattle.serde_json.specs.Data.{string}
use Rattle.span_size.specs.Counting.{Adds}
use Rattle.span_size.proofs.Objects.{one-added}
use Rattle.span_size.proofs.counting.object_of_integer.Goals as goal

pub returns : goal.returns
returns c =
    let text : Adds c.key.new.self c.quoted_i64.new.self (token.string (signed_decimal c.args.n.now) ∷ []) = search (rules, c.quoted_i64.ensures) in
    one-added (codes "intValue") (string (signed_decimal c.args.n.now)) c.begin_nested.ensures.object c.key.ensures text c.end_nested.ensures.object
