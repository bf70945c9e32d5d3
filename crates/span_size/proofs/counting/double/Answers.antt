use Rattle.std.proofs.Common.{sym, ap, ◌∙◌}
use Rattle.std.specs.Float.{float_is_finite}
use Rattle.otlp_json.specs.Writing.{double_data}
use Rattle.otlp_json.proofs.Names.{finite_tokens}
use Rattle.span_size.proofs.counting.double.Goals as goal

pub returns-then-is_finite : goal.returns-then-is_finite
returns-then-is_finite c =
    rw (finite_tokens c.args.x.now (sym (c.is_finite.ensures.value ∙ ap float_is_finite c.get-value.ensures.value) ∙ c.if-is_finite.true)) c.number.ensures

pub returns : goal.returns
returns c = rw (sym (c.double_name.ensures ∙ ap double_data c.get-value.ensures.value)) c.string.ensures
