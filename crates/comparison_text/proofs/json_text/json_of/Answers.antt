use Rattle.std.proofs.Common.{◌++◌, ◌∙◌, List, ap}
use Rattle.json.specs.Token.{Token}
use Rattle.json.specs.Tree.{json_tokens}
use Rattle.comparison_text.specs.Value.{value_about}
use Rattle.comparison_text.proofs.Back.{comparison-reads-back}
use Rattle.comparison_text.proofs.Seen.{text-alone}
use Rattle.comparison_text.proofs.json_text.json_of.Goals as goal

pub returns-clause-text : goal.returns-clause-text
returns-clause-text c =
    let value = value_about c.args.about.now c.args.old.now c.args.new.now in
    text-alone _ _ _ value c.into_inner.ensures.items (c.in_ok-put_comparison.ensures.all.1 ∙ c.new-out.ensures.before ∙ c.new.ensures.items)
    (c.in_ok-put_comparison.ensures.all.0 ∙ ap (λ (ts : List Token). ts ++ json_tokens value) c.new-out.ensures.tokens)

pub returns-clause-back : goal.returns-clause-back
returns-clause-back c =
    comparison-reads-back c.args.about.now.version.now c.args.about.now.old.now c.args.about.now.new.now c.args.old.now c.args.new.now c.in_ok-put_comparison.ensures.all.2
