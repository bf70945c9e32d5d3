use Rattle.std.proofs.Common.{◌++◌, ◌∷◌, ◌∙◌, [], ap}
use Rattle.json.specs.Token.{string}
use Rattle.decision_line.proofs.Told.{quoted-alone}
use Rattle.decision_line.proofs.putting.quoted.Goals as goal

pub returns : goal.returns
returns c =
    c.into_inner.ensures.items
    ∙ quoted-alone c.args.text.now _ _ (c.in_ok-string.ensures.room.0 ∙ c.new-writer.ensures.before ∙ c.new.ensures.items)
    (c.in_ok-string.ensures.ok ∙ ap (λ ts. ts ++ string c.args.text.now ∷ []) c.new-writer.ensures.tokens)
