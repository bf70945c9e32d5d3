use Rattle.std.proofs.Common.{◌++◌, ◌∷◌, [], sym, ap, ◌∙◌}
use Rattle.otlp_json.specs.Writing.{canonical_text}
use Rattle.span_exporter.proofs.unique.line_is_unique.Goals as goal

pub returns : goal.returns
returns c = λ records a b x y.
    let same = c.grouping_is_unique.ensures x.0 y.0 x.2 y.2 (x.1 ∙ sym y.1) in
    x.3 ∙ ap (λ request. canonical_text request ++ 10 ∷ []) same ∙ sym y.3
